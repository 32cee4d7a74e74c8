-- How edges, write-backs and items are compared.
-- Carried by: law `items_compare_field_by_field`.
-- Tested by: `ptg_base`.
use Rattle.std.specs.Prelude.{◌≡◌, Bool, IsTrue, ◌↔◌, List, [], ◌∷◌}
use Rattle.std.specs.declared.cmp.Ordering.{Ordering}
use Rattle.std.specs.declared.cmp.Ordering.TheVariants.{Less, Equal, Greater}
use Rattle.std.specs.Ordering.{nat_cmp, int_cmp, ordering_then}
use Rattle.ptg_base.specs.TaskComparing.{task_cmp}
use Rattle.ptg_base.specs.declared.place.Place.{Place}
use Rattle.ptg_base.specs.declared.edge.Edge.{Edge}
use Rattle.ptg_base.specs.declared.edge.WriteBack.{WriteBack}
use Rattle.ptg_base.specs.declared.edge.Item.{Item}
use Rattle.ptg_base.specs.declared.edge.Item.TheVariants as item

-- the first comparison that is not Equal, or Equal if there is none
abbrev pub first_difference : List Ordering → Ordering
first_difference [] = Equal
first_difference (answer ∷ answers) = ordering_then answer (first_difference answers)

-- places compare by collection, then row, then column
abbrev pub place_cmp : Place → Place → Ordering
place_cmp a b = first_difference (nat_cmp a.coll b.coll ∷ int_cmp a.i b.i ∷ int_cmp a.j b.j ∷ [])

-- edges compare by source, then its flow, then target, then its flow
abbrev pub edge_cmp : Edge → Edge → Ordering
edge_cmp a b =
    first_difference
    (task_cmp a.from b.from ∷ nat_cmp a.out_flow b.out_flow ∷ task_cmp a.to b.to ∷ nat_cmp a.in_flow b.in_flow ∷ [])

-- write-backs compare by source, then its flow, then place
abbrev pub write_back_cmp : WriteBack → WriteBack → Ordering
write_back_cmp a b = first_difference (task_cmp a.from b.from ∷ nat_cmp a.flow b.flow ∷ place_cmp a.place b.place ∷ [])

-- an edge is before a write-back; two edges, or two write-backs, compare as above
abbrev pub item_cmp : Item → Item → Ordering
item_cmp (item.Edge a) (item.Edge b) = edge_cmp a b
item_cmp (item.Edge a) (item.Write b) = Less
item_cmp (item.Write a) (item.Edge b) = Greater
item_cmp (item.Write a) (item.Write b) = write_back_cmp a b

-- The `==` and `cmp` of a type: `==` holds if and only if the values are the same, and `cmp` returns what `order` does.
pub record IsCompared {A : Type 0} (equal : A → A → Bool) (cmp order : A → A → Ordering) : Type 0 where
  pub same : (a b : A) → IsTrue (equal a b) ↔ (a ≡ b)
  pub ordered : (a b : A) → cmp a b ≡ order a b
