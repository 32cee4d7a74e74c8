use Rattle.std.proofs.Common.{◌≡◌, IsTrue, ◌↔◌, refl, ap}
use Rattle.ptg_base.specs.ItemComparing.{item_cmp}
use Rattle.ptg_base.specs.declared.edge.Edge.{Edge}
use Rattle.ptg_base.specs.declared.edge.WriteBack.{WriteBack}
use Rattle.ptg_base.specs.declared.edge.Item.{Item}
use Rattle.ptg_base.specs.declared.edge.Item.TheVariants as item
use Rattle.ptg_base.specs.contracts.edge.ItemPartialEq.TheImpl as item_equal
use Rattle.ptg_base.specs.contracts.edge.ItemOrd.TheImpl as item_ordered
use Rattle.ptg_base.proofs.Comparisons.{same_edge-decides, edge_cmp-fields, same_write_back-decides, write_back_cmp-fields}
use Rattle.ptg_base.proofs.laws.items_compare_field_by_field.Goals as goal

abbrev edge_or : Edge → Item → Edge
edge_or other (item.Edge a) = a
edge_or other (item.Write a) = other

abbrev write_back_or : WriteBack → Item → WriteBack
write_back_or other (item.Edge a) = other
write_back_or other (item.Write a) = a

items_same : (a b : Item) → IsTrue (item_equal.ghosts.eq a b) ↔ (a ≡ b)
items_same (item.Edge a) (item.Edge b) =
    let edges = same_edge-decides a b in (λ h. ap item.Edge (edges.0 h), λ e. edges.1 (ap (edge_or a) e))
items_same (item.Edge a) (item.Write b) = (λ h. cc, λ e. cc)
items_same (item.Write a) (item.Edge b) = (λ h. cc, λ e. cc)
items_same (item.Write a) (item.Write b) =
    let write_backs = same_write_back-decides a b in (λ h. ap item.Write (write_backs.0 h), λ e. write_backs.1 (ap (write_back_or a) e))

items_ordered : (a b : Item) → item_ordered.ghosts.cmp a b ≡ item_cmp a b
items_ordered (item.Edge a) (item.Edge b) = edge_cmp-fields a b
items_ordered (item.Edge a) (item.Write b) = refl
items_ordered (item.Write a) (item.Edge b) = refl
items_ordered (item.Write a) (item.Write b) = write_back_cmp-fields a b

pub returns-clause-edges : goal.returns-clause-edges
returns-clause-edges c = record { same = same_edge-decides; ordered = edge_cmp-fields }

pub returns-clause-write_backs : goal.returns-clause-write_backs
returns-clause-write_backs c = record { same = same_write_back-decides; ordered = write_back_cmp-fields }

pub returns-clause-items : goal.returns-clause-items
returns-clause-items c = record { same = items_same; ordered = items_ordered }
