-- When two places, edges, write-backs or items are the same: when all their numbers are.
use Rattle.std.specs.Prelude.{Bool, false, ◌&&◌, nat_eq}
use Rattle.std.specs.Ordering.{int_eq}
use Rattle.ptg_base.specs.TaskComparing.{same_task}
use Rattle.ptg_base.specs.declared.place.Place.{Place}
use Rattle.ptg_base.specs.declared.edge.Edge.{Edge}
use Rattle.ptg_base.specs.declared.edge.WriteBack.{WriteBack}
use Rattle.ptg_base.specs.declared.edge.Item.{Item}
use Rattle.ptg_base.specs.declared.edge.Item.TheVariants as item

-- two places are the same
abbrev pub same_place : Place → Place → Bool
same_place a b = nat_eq a.coll b.coll && (int_eq a.i b.i && int_eq a.j b.j)

-- two edges are the same
abbrev pub same_edge : Edge → Edge → Bool
same_edge a b =
    same_task a.from b.from && (nat_eq a.out_flow b.out_flow && (same_task a.to b.to && nat_eq a.in_flow b.in_flow))

-- two write-backs are the same
abbrev pub same_write_back : WriteBack → WriteBack → Bool
same_write_back a b = same_task a.from b.from && (nat_eq a.flow b.flow && same_place a.place b.place)

-- two items are the same
abbrev pub same_item : Item → Item → Bool
same_item (item.Edge a) (item.Edge b) = same_edge a b
same_item (item.Edge a) (item.Write b) = false
same_item (item.Write a) (item.Edge b) = false
same_item (item.Write a) (item.Write b) = same_write_back a b
