-- Tasks that run one after another, in the order of a list, and the verdict on rows.
-- Carried by: inside `replay`, `judge_trace`.
-- Tested by: `replay.txt`.
use Rattle.std.specs.Prelude.{◌≡◌, ◌⊎◌, ℕ, List, [], ◌∷◌, ◌++◌, length, Result, Ok, Err}
use Rattle.ptg_base.specs.Lists.{IsIn}
use Rattle.ptg_base.specs.Task.{Task}
use Rattle.plan_core.specs.declared.plan.Plan.{Plan}
use Rattle.coll_data.specs.Data.{Data}
use Rattle.flow_meaning.specs.declared.outcome.Outcome.{Outcome}
use Rattle.flow_meaning.specs.Answer.{answer, ran}
use Rattle.rank_core.specs.Sound.{IsSoundWorld}
use Rattle.rank_core.specs.Views.{WorldView}
use Rattle.trace_core.specs.declared.fault.TraceFault.{TraceFault}
use Rattle.trace_core.specs.Faults.{IsFaultOfRow, IsUnfinished}
use Rattle.trace_core.specs.Naming.{AreRowsOf}
use Rattle.flow_meaning.specs.Order.{IsWholeOrder}
use Rattle.trace_core.specs.Orders.{MayAllRunAfter, MayRunAfter}
use Rattle.trace_core.specs.Text.{TraceRow}

-- a world of one rank that runs this job
pub record IsOfOneRank (P : Plan) (G : Data) (w : WorldView) : Type 0 where
  pub plan : w.plan ≡ P
  pub given : w.given ≡ G
  pub ranks : w.ranks ≡ 1
  pub sound : IsSoundWorld P G 1 w.state

-- a world of one rank in which these tasks have run, one after another
pub record HasRunInOrder (P : Plan) (G : Data) (ts : List Task) (w : WorldView) : Type 0 where
  pub world : IsOfOneRank P G w
  pub claims : w.state.machine.claims ≡ ts
  pub may_run : MayAllRunAfter P G [] ts

-- the task at this index of a list may not run after those before it, which may
pub record StopsAt (P : Plan) (G : Data) (ts : List Task) (index : ℕ) : Type 0 where
  pub before : List Task
  pub stopped : Task
  pub later : List Task
  pub split : ts ≡ before ++ stopped ∷ later
  pub may_run : MayAllRunAfter P G [] before
  pub early : MayRunAfter P G before stopped → ⊥
  pub is_index : index ≡ length before

-- the verdict on a run of these tasks: the answer if each task that runs is one of them, else this fault
abbrev pub IsEndOf : Plan → Data → List Task → TraceFault → Result Outcome TraceFault → Type 0
IsEndOf P G ts unfinished (Ok o) = (o ≡ answer P G) × ((t : Task) → IsIn t (ran P G) → IsIn t ts)
IsEndOf P G ts unfinished (Err f) = (f ≡ unfinished) × ((t : Task) × IsIn t (ran P G) × (IsIn t ts → ⊥))

-- the verdict on rows from which these tasks were read: the first fault of the rows, or the answer if the tasks are
-- those of all rows and a whole order
abbrev pub IsVerdictOn : Plan → Data → List TraceRow → List Task → Result Outcome TraceFault → Type 0
IsVerdictOn P G es ts (Err f) = IsFaultOfRow P G es f ⊎ IsUnfinished P G es f
IsVerdictOn P G es ts (Ok o) = (o ≡ answer P G) × AreRowsOf P es ts × IsWholeOrder P G ts
