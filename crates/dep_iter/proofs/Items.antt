-- The edges and the write-backs of a list of items.
use Rattle.std.proofs.Common.{◌≡◌, List, [], ◌∷◌, refl, ap, inl, inr}
use Rattle.std.specs.List.{filter_map}
use Rattle.ptg_base.specs.Lists.{IsIn}
use Rattle.ptg_base.specs.declared.edge.Edge.{Edge}
use Rattle.ptg_base.specs.declared.edge.WriteBack.{WriteBack}
use Rattle.ptg_base.specs.declared.edge.Item.{Item}
use Rattle.ptg_base.specs.declared.edge.Item.TheVariants as item
use Rattle.dep_iter.specs.Items.{edge_of, write_of}
use Rattle.list_lemmas.proofs.Members.{IsIn-filter_map}

pub Edge-injective : (a b : Edge) → item.Edge a ≡ item.Edge b → a ≡ b
Edge-injective a b q = cc

pub Write-injective : (a b : WriteBack) → item.Write a ≡ item.Write b → a ≡ b
Write-injective a b q = cc

-- an edge is one of the edges of a list of items if and only if it is one of the items; likewise a write-back
pub edge_item : (is : List Item) (e : Edge) → IsIn e (filter_map edge_of is) → IsIn (item.Edge e) is
edge_item [] e h = absurd h
edge_item (item.Edge d ∷ is) e h = elim h [ inl q ↦ inl (ap (λ (x : Edge). item.Edge x) q) | inr t ↦ inr (edge_item is e t) ]
edge_item (item.Write w ∷ is) e h = inr (edge_item is e h)

pub item_edge : (is : List Item) (e : Edge) → IsIn (item.Edge e) is → IsIn e (filter_map edge_of is)
item_edge is e h = IsIn-filter_map edge_of is (item.Edge e) e h refl

pub write_item : (is : List Item) (w : WriteBack) → IsIn w (filter_map write_of is) → IsIn (item.Write w) is
write_item [] w h = absurd h
write_item (item.Edge e ∷ is) w h = inr (write_item is w h)
write_item (item.Write v ∷ is) w h = elim h [ inl q ↦ inl (ap (λ (x : WriteBack). item.Write x) q) | inr t ↦ inr (write_item is w t) ]

pub item_write : (is : List Item) (w : WriteBack) → IsIn (item.Write w) is → IsIn w (filter_map write_of is)
item_write is w h = IsIn-filter_map write_of is (item.Write w) w h refl
