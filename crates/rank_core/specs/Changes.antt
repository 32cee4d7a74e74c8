-- What a call changes in the ranks of a world: one rank alone.
use Rattle.std.specs.Prelude.{ℕ, List}
use Rattle.plan_core.specs.declared.plan.Plan.{Plan}
use Rattle.dep_shard.specs.Content.{Content, IsUnchanged}
use Rattle.list_lemmas.specs.Changes.{ChangesAt}
use Rattle.rank_core.specs.declared.message.Message.{Message}
use Rattle.shard_calls.specs.Taken.{TakesEdge}

-- nothing but the spares of the rank k has changed
abbrev pub StaysAt : ℕ → List Content → List Content → Type 0
StaysAt k old new = ChangesAt IsUnchanged k old new

-- the edge of a message has come to the rank k, and the other ranks stay
abbrev pub TakesEdgeAt : Plan → Message → ℕ → List Content → List Content → Type 0
TakesEdgeAt P m k old new = ChangesAt (TakesEdge P m.edge m.tile) k old new
