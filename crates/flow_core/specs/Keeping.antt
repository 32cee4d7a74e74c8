-- What a run keeps besides its claims: counts of arrivals, and tiles.
use Rattle.std.specs.Prelude.{ℕ, List, Option}
use Rattle.ptg_base.specs.Task.{Task}
use Rattle.flow_meaning.specs.Ending.{Ended}
use Rattle.flow_core.specs.Arrivals.{CountsArrivals}
use Rattle.flow_core.specs.Kept.{AreKept, SentAndKept}

-- the table counts the edges that were sent to unclaimed tasks, and each item is kept until it is read
pub record Keeps (claims : List (Task × Option Ended)) (table : List (Task × ℕ)) (sent : SentAndKept) : Type 0 where
  pub counts : CountsArrivals table claims sent.sends
  pub tiles : AreKept claims sent
