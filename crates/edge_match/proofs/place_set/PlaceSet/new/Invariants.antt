use Rattle.std.proofs.Common.{◌≡◌, map, take}
use Rattle.std.specs.List.{AllByRecursion}
use Rattle.edge_match.specs.Sets.{size, size_of}
use Rattle.edge_match.proofs.Sets.{HasNone}
use Rattle.edge_match.proofs.place_set.PlaceSet.new.Given as goal

abbrev pub invariant-loop-shape : goal.invariant-loop-shape
invariant-loop-shape l = record {
  sizes : map size_of l.sets.items ≡ map size (take l.shape-index l.shapes);
  none : AllByRecursion HasNone l.sets.items;
}
