-- How one thread runs a job, one task after another; and a run that only opens. Between two tasks it claims each task
-- that may be claimed, and sends each item that may be sent.
-- Carried by: inside `run_one`.
use Rattle.std.specs.Prelude.{◌≡◌, ◌⊎◌, ℕ, ℤ, List, [], ◌++◌, length, filter, is_none, is_some, IsTrue, Option, Some, Ok}
use Rattle.std.specs.Map.{keys_of}
use Rattle.ptg_base.specs.Lists.{IsIn}
use Rattle.ptg_base.specs.Task.{Task}
use Rattle.ptg_base.specs.declared.edge.Item.{Item}
use Rattle.plan_core.specs.declared.plan.Plan.{Plan}
use Rattle.coll_data.specs.Data.{Data}
use Rattle.dep_iter.specs.Items.{items}
use Rattle.flow_meaning.specs.Ending.{Ended}
use Rattle.flow_meaning.specs.Machine.{MayClaim, is_sent}
use Rattle.flow_core.specs.RunState.{RunState, end_of, machine}
use Rattle.flow_core.specs.Fits.{Fits}

-- the running tasks among claimed ones, in the order of the claims
abbrev pub running_among : List (Task × Option Ended) → List Task
running_among claims = keys_of (filter (λ ((t, ended) : Task × Option Ended). is_none ended) claims)

-- the running tasks of a run, in the order of the claims
abbrev pub running_tasks : RunState → List Task
running_tasks r = running_among r.claims

-- how many of the claimed tasks have ended
abbrev pub ended_among : List (Task × Option Ended) → ℕ
ended_among claims = length (filter (λ ((t, ended) : Task × Option Ended). is_some ended) claims)

-- how many tasks of a run have ended
abbrev pub ended_count : RunState → ℕ
ended_count r = ended_among r.claims

-- no task but these may be claimed
abbrev pub MayClaimOnly : Plan → List Task → RunState → Type 0
MayClaimOnly P ts r = (t : Task) → MayClaim P (machine r) t → IsIn t ts

-- each item of a task that has ended without a trap was sent, or is one of these
abbrev pub OwesOnly : Plan → List Item → RunState → Type 0
OwesOnly P is r =
    (t : Task) (tiles : List (Option (List ℤ))) → end_of r t ≡ Some (Ok tiles)
    → (i : Item) → IsIn i (items P t) → IsTrue (is_sent (machine r) i) ⊎ IsIn i is

-- those of these tasks that could be claimed were claimed, and these items were sent; no task has ended meanwhile, and
-- all ends are as they were
pub record HasDone (P : Plan) (ts : List Task) (is : List Item) (old new : RunState) : Type 0 where
  pub claimed : (us : List Task) → MayClaimOnly P (ts ++ us) old → MayClaimOnly P us new
  pub sent : (js : List Item) → OwesOnly P (is ++ js) old → OwesOnly P js new
  pub ended : ended_count new ≡ ended_count old
  pub ends : (t : Task) → end_of new t ≡ end_of old t
  pub fits : (G : Data) → Fits P G old → Fits P G new

-- a run that only opens: no item was sent, and each claimed task is running
pub record IsOpening (r : RunState) : Type 0 where
  pub sends : r.sends ≡ []
  pub running : running_tasks r ≡ keys_of r.claims

-- a run between two tasks: the running tasks are these, no task may be claimed, and nothing is owed
pub record IsBetweenTasks (P : Plan) (G : Data) (r : RunState) (tasks : List Task) : Type 0 where
  pub fits : Fits P G r
  pub running : tasks ≡ running_tasks r
  pub none_ready : MayClaimOnly P [] r
  pub nothing_owed : OwesOnly P [] r
