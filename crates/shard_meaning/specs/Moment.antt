-- Moments of a run by several workers, sound or reordered: what has happened, which of the claimed tasks still run, and
-- what these may send; claims, sends and ends. Source: the events are those of DAGuE (Parallel Computing, 2012), as the
-- event machine has them.
-- Carried by: laws `running_tasks_may_send`, `order_changes_no_shard`, `run_laws::events_keep_moments_sound`.
use Rattle.std.specs.Prelude.{◌≡◌, ◌<◌, ◌≤◌, ℕ, List, [], ◌∷◌, ◌++◌, IsTrue, if◌then◌else◌}
use Rattle.ptg_base.specs.Lists.{IsIn}
use Rattle.ptg_base.specs.Task.{Task}
use Rattle.ptg_base.specs.TaskComparing.{same_task}
use Rattle.ptg_base.specs.declared.edge.Item.{Item}
use Rattle.plan_core.specs.declared.plan.Plan.{Plan}
use Rattle.coll_data.specs.Data.{Data}
use Rattle.dep_iter.specs.Items.{items}
use Rattle.list_lemmas.specs.Counting.{HasSameMembers, count}
use Rattle.flow_meaning.specs.Ending.{has_outputs}
use Rattle.flow_meaning.specs.Backward.{ended}
use Rattle.flow_meaning.specs.Machine.{MachineState, Send, claim_count, opening_state, send_count, sender, state_after}
use Rattle.flow_meaning.specs.Sound.{IsReordered, IsSoundState}

-- the state of the event machine, and the tasks that run: those that were claimed and have not ended
pub record Moment : Type 0 where
  pub state : MachineState
  pub running : List Task

-- nothing has happened, and no task runs
abbrev pub opening_moment : Moment
opening_moment = record { state = opening_state; running = [] }

-- a list of tasks without the first occurrence of this one
abbrev pub without_task : Task → List Task → List Task
without_task t [] = []
without_task t (u ∷ us) = if same_task t u then us else u ∷ without_task t us

-- how often a task is among those that run
abbrev pub run_count : Moment → Task → ℕ
run_count R t = count (same_task t) R.running

-- after a task was claimed it runs
abbrev pub with_claim : Moment → Task → Moment
with_claim R t =
    record {
      state = record { claims = R.state.claims ++ t ∷ []; sends = R.state.sends };
      running = R.running ++ t ∷ [];
    }

-- after an item was sent the same tasks run
abbrev pub with_send : Plan → Data → Moment → Item → Moment
with_send P G R i = record { state = state_after P G R.state (Send i); running = R.running }

-- the end of a task is no event of the machine: the task no longer runs
abbrev pub with_end : Moment → Task → Moment
with_end R t = record { state = R.state; running = without_task t R.running }

-- the state is sound, and a task runs at most as often as it was claimed
pub record IsSoundMoment (P : Plan) (G : Data) (R : Moment) : Type 0 where
  pub state : IsSoundState P G R.state
  pub claimed : (t : Task) → run_count R t ≤ claim_count R.state t

-- an item that a running task may send next: it was not sent, and the task has outputs
pub record MaySendNext (P : Plan) (G : Data) (R : Moment) (i : Item) : Type 0 where
  pub runs : 0 < run_count R (sender i)
  pub unsent : send_count R.state i ≡ 0
  pub is_item : IsIn i (items P (sender i))
  pub outputs : IsTrue (has_outputs (ended P G (sender i)))

-- the same tasks are claimed and run, and the same items are sent with the same tiles, in whatever order
pub record IsReorderedMoment (R T : Moment) : Type 0 where
  pub state : IsReordered R.state T.state
  pub running : HasSameMembers R.running T.running
