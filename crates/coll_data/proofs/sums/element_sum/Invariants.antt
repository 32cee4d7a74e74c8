use Rattle.std.proofs.Common.{◌≡◌, ◌*◌, ◌^◌, ◌≤◌, length, take, unsigned_abs}
use Rattle.coll_data.specs.Sums.{sum_of, all_elements}
use Rattle.coll_data.proofs.sums.element_sum.Given as goal

abbrev pub invariant-loop-coll : goal.invariant-loop-coll
invariant-loop-coll l = record {
  sum_so_far : l.sum ≡ sum_of (all_elements (take l.coll-index l.colls));
  bounds : unsigned_abs l.sum ≤ 2 ^ 63 * length (all_elements (take l.coll-index l.colls));
}
