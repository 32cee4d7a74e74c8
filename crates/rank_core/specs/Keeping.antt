-- What a world keeps besides what has happened: its ranks, and the messages that are under way.
use Rattle.std.specs.Prelude.{◌≡◌, ◌<◌, ◌≤◌, nat_eq, ℕ, List, [], Option, Some, None, length, slice_get, if◌then◌else◌}
use Rattle.std.specs.Map.{lookup}
use Rattle.ptg_base.specs.Limits.{most_ranks}
use Rattle.plan_core.specs.declared.plan.Plan.{Plan}
use Rattle.coll_data.specs.Data.{Data}
use Rattle.plan_data.specs.Fit.{DataFit}
use Rattle.dep_iter.specs.Consistent.{IsConsistent}
use Rattle.dep_shard.specs.Content.{Content}
use Rattle.flow_meaning.specs.Machine.{MachineState}
use Rattle.shard_meaning.specs.Moment.{Moment}
use Rattle.shard_meaning.specs.Share.{IsShardOf}
use Rattle.task_run.specs.Bench.{IsBenchOf, Laid}
use Rattle.rank_core.specs.declared.message.Message.{Message}
use Rattle.rank_core.specs.Sound.{IsSoundWorld}
use Rattle.rank_core.specs.World.{WorldState, rank_of, is_delivered}
use Rattle.rank_core.specs.declared.mail.Mail.{Mail}

-- a moment between two events of a world: no task runs
abbrev pub idle_moment : MachineState → Moment
idle_moment S = record { state = S; running = [] }

-- a message that was sent, if it was not delivered
abbrev pub unless_delivered : MachineState → Option Message → Option Message
unless_delivered S None = None
unless_delivered S (Some m) = if is_delivered S m then None else Some m

-- under way are the messages that were not delivered, each by its number
abbrev pub IsUnderWay : MachineState → List Message → List (ℕ × Message) → Type 0
IsUnderWay S messages table = (n : ℕ) → lookup (nat_eq n) table ≡ unless_delivered S (slice_get messages n)

-- the mail of a world in this state: the messages that are under way, and how many were sent
pub record IsMailOf (w : WorldState) (m : Mail) : Type 0 where
  pub under_way : IsUnderWay w.machine w.messages m.under_way.entries
  pub sent : m.sent ≡ length w.messages

-- each rank holds its share of the state while no task runs
abbrev pub HoldShares : Plan → Data → WorldState → List Content → Type 0
HoldShares P G w ys =
    (k : ℕ) (y : Content) → slice_get ys k ≡ Some y → IsShardOf P G (rank_of P (length ys)) k (idle_moment w.machine) y

-- what a world keeps for its job and what has happened
pub record Keeps (P : Plan) (G : Data) (w : WorldState) (ys : List Content)
    (laid : Laid) (letters : Mail) : Type 0 where
  pub consistent : IsConsistent P
  pub fit : DataFit P G
  pub some_ranks : 0 < length ys
  pub ranks_at_most : length ys ≤ most_ranks
  pub sound : IsSoundWorld P G (length ys) w
  pub shares : HoldShares P G w ys
  pub bench : IsBenchOf P laid
  pub mail : IsMailOf w letters
