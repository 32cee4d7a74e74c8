-- What the shards of a new table have in reserve.
-- Carried by: inside `DepTable::open`.
use Rattle.std.specs.Prelude.{◌≡◌, ℕ, List, slice_get, Some}
use Rattle.plan_core.specs.declared.plan.Plan.{Plan}
use Rattle.dep_shard.specs.Content.{Content}
use Rattle.shard_meaning.specs.Opening.{HasOpeningReserve}
use Rattle.shard_meaning.specs.Placing.{shard_of}

-- each of the n shards of a new table has spares for all that it will receive
abbrev pub HaveOpeningReserve : Plan → ℕ → List Content → Type 0
HaveOpeningReserve P n ys = (k : ℕ) (y : Content) → slice_get ys k ≡ Some y → HasOpeningReserve P (shard_of P n) k y
