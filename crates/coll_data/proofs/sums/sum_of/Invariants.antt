use Rattle.std.proofs.Common.{◌≡◌, ◌*◌, ◌^◌, ◌≤◌, take, unsigned_abs}
use Rattle.coll_data.specs.Sums.{sum_of}
use Rattle.coll_data.proofs.sums.sum_of.Given as goal

abbrev pub invariant-loop-number : goal.invariant-loop-number
invariant-loop-number l = record {
  sum_so_far : l.sum ≡ sum_of (take l.number-index l.numbers);
  bounds : unsigned_abs l.sum ≤ 2 ^ 63 * l.number-index;
}
