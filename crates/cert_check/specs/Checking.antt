-- What the checkers look at, one task or row after another.
use Rattle.std.specs.Prelude.{◌≡◌, ◌≤◌, ◌+◌, ℕ, true, List, [], ◌∷◌}
use Rattle.ptg_base.specs.Lists.{IsIn}
use Rattle.ptg_base.specs.Task.{Task}
use Rattle.ptg_base.specs.TaskOrder.{task_before}
use Rattle.plan_core.specs.declared.plan.Plan.{Plan}
use Rattle.dep_iter.specs.Tasks.{IsTask}
use Rattle.chain_cert.specs.Chains.{IsSourceOf}
use Rattle.chain_cert.specs.Weights.{weight}

-- if there is a first of these tasks, it is one of the job, and t is the source of an edge into it
abbrev pub IsSourceOfFirst : Plan → Task → List Task → Type 0
IsSourceOfFirst P t [] = Unit {0}
IsSourceOfFirst P t (u ∷ us) = IsTask P u × IsSourceOf P t u

-- the first of these is a task of the job, and the source of an edge into the second, if there is one
abbrev pub IsLinked : Plan → List Task → Type 0
IsLinked P [] = Unit {0}
IsLinked P (t ∷ ts) = IsTask P t × IsSourceOfFirst P t ts

-- the level in each row of the source s is at least w below n
abbrev pub IsAboveSource : List (Task × ℕ) → ℕ → ℕ → Task → Type 0
IsAboveSource levels w n s = (k : ℕ) → IsIn (s, k) levels → k + w ≤ n

-- the level of a row is at least the weight of its task, and at least that weight plus the level of each source
pub record IsHighEnough (P : Plan) (ws : List ℕ) (levels : List (Task × ℕ)) (row : Task × ℕ) : Type 0 where
  pub own : weight ws row.0 ≤ row.1
  pub above : (s : Task) → IsSourceOf P s row.0 → IsAboveSource levels (weight ws row.0) row.1 s

-- each of these rows is high enough
abbrev pub AreHighEnough : Plan → List ℕ → List (Task × ℕ) → List (Task × ℕ) → Type 0
AreHighEnough P ws levels rows = (row : Task × ℕ) → IsIn row rows → IsHighEnough P ws levels row

-- t is before the first of these tasks in task order, if there is one
abbrev pub IsBeforeFirst : Task → List Task → Type 0
IsBeforeFirst t [] = Unit {0}
IsBeforeFirst t (u ∷ us) = task_before t u ≡ true

-- the first of these is a task of the job, and before the second in task order, if there is one
abbrev pub IsInPlace : Plan → List Task → Type 0
IsInPlace P [] = Unit {0}
IsInPlace P (t ∷ ts) = IsTask P t × IsBeforeFirst t ts

-- these tasks are tasks of the job in task order
abbrev pub AreInPlace : Plan → List Task → Type 0
AreInPlace P [] = Unit {0}
AreInPlace P (t ∷ ts) = IsInPlace P (t ∷ ts) × AreInPlace P ts
