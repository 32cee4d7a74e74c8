use Rattle.std.proofs.Common.{◌≡◌, ◌<◌, ℕ, Some, slice_get}
use Rattle.dep_shard.specs.Content.{Content}
use Rattle.shard_meaning.specs.Calm.{HasNoWork}
use Rattle.shard_calls.proofs.quiet.have_no_work.Given as goal

abbrev pub invariant-loop-k : goal.invariant-loop-k
invariant-loop-k l = (i : ℕ) (y : Content) → i < l.k → slice_get l.shards i ≡ Some y → HasNoWork y
