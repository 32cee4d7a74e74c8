use Rattle.std.proofs.Common.{◌≡◌, length}
use Rattle.name_table.proofs.index.Index.with_buckets.Given as goal

abbrev pub invariant-loop : goal.invariant-loop
invariant-loop l = length l.buckets.items ≡ l.counter
