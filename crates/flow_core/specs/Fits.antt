-- When a run is one of a job and its data, and what it may do next.
-- Carried by: `State::claim`, `State::finish`, `State::send`, `State::quiescent`, `State::answer`; laws
-- `calls_are_events`, `items_of_ctl_flows_carry_no_tile`.
-- Tested by: `jobs.txt`, `answers.txt`, `run_orders`.
use Rattle.std.specs.Prelude.{◌≡◌, ◌⊎◌, IsTrue, Option, Some, Ok}
use Rattle.std.specs.Result.{result_err}
use Rattle.ptg_base.specs.Lists.{IsIn}
use Rattle.ptg_base.specs.Task.{Task}
use Rattle.ptg_base.specs.declared.edge.Item.{Item}
use Rattle.term_core.specs.declared.trap.Trap.{Trap}
use Rattle.plan_core.specs.declared.plan.Plan.{Plan}
use Rattle.coll_data.specs.Data.{Data}
use Rattle.dep_iter.specs.Items.{items}
use Rattle.flow_meaning.specs.Ending.{Ended}
use Rattle.flow_meaning.specs.Backward.{ended}
use Rattle.flow_meaning.specs.Machine.{MaySend, is_sent, sender}
use Rattle.flow_meaning.specs.Sound.{IsSoundState}
use Rattle.flow_core.specs.RunState.{RunState, IsRunning, KeepsTiles, Tiles, end_of, machine, with_end}

-- each item of a task was sent
abbrev pub HasSentAll : Plan → RunState → Task → Type 0
HasSentAll P r t = (i : Item) → IsIn i (items P t) → IsTrue (is_sent (machine r) i)

-- the run fits the job and its data. Its state is sound. Each task that has ended has ended as the backward meaning
-- says. One that has ended without a trap keeps its tiles, or all its items were sent
pub record Fits (P : Plan) (G : Data) (r : RunState) : Type 0 where
  pub sound : IsSoundState P G (machine r)
  pub ends : (t : Task) (end : Ended) → end_of r t ≡ Some end → ended P G t ≡ Some end
  pub kept : (t : Task) (tiles : Tiles) → end_of r t ≡ Some (Ok tiles) → KeepsTiles r t tiles ⊎ HasSentAll P r t

-- the run fits the job and some data
abbrev pub FitsSome : Plan → RunState → Type 0
FitsSome P r = (G : Data) × Fits P G r

-- an item may be sent now: the event machine allows it, and its task has ended
pub record MaySendNow (P : Plan) (G : Data) (r : RunState) (i : Item) : Type 0 where
  pub may : MaySend P G (machine r) i
  pub done : IsRunning r (sender i) → ⊥

-- a task has ended as the backward meaning says, with this trap if it trapped; nothing else has changed
pub record HasFinished (P : Plan) (G : Data) (t : Task) (old new : RunState) (trap : Option Trap) : Type 0 where
  pub end : Ended
  pub end_is : ended P G t ≡ Some end
  pub marked : new ≡ with_end t end old
  pub trapped : trap ≡ result_err end
