-- The source of an edge into a task, and chains and cycles of tasks. Source: DAGuE (Parallel Computing, 2012): the
-- tasks of a job and the edges between them are a directed graph. Chains and cycles are its usual paths and simple
-- cycles.
-- Carried by: `cert_check::check_cycle`, `cert_check::check_chain`.
use Rattle.std.specs.Prelude.{◌≡◌, List, [], ◌∷◌, ◌++◌}
use Rattle.ptg_base.specs.Lists.{HasNoRepeats, IsIn}
use Rattle.ptg_base.specs.Task.{Task}
use Rattle.plan_core.specs.declared.plan.Plan.{Plan}
use Rattle.dep_iter.specs.Tasks.{IsTask}
use Rattle.dep_iter.specs.Edges.{sources}

-- s is the source of an edge into t
abbrev pub IsSourceOf : Plan → Task → Task → Type 0
IsSourceOf P s t = IsIn s (sources P t)

-- t may come before these tasks: it is the source of an edge into the first of them, if there is one
abbrev pub MayComeBefore : Plan → Task → List Task → Type 0
MayComeBefore P t [] = Unit {0}
MayComeBefore P t (u ∷ us) = IsSourceOf P t u

-- tasks of the job, each the source of an edge into the next
abbrev pub IsChain : Plan → List Task → Type 0
IsChain P [] = Unit {0}
IsChain P (t ∷ ts) = IsTask P t × MayComeBefore P t ts × IsChain P ts

-- t is the first of these tasks
abbrev pub BeginsWith : Task → List Task → Type 0
BeginsWith t ts = (back : List Task) × (ts ≡ t ∷ back)

-- t is the last of these tasks
abbrev pub EndsWith : Task → List Task → Type 0
EndsWith t ts = (front : List Task) × (ts ≡ front ++ t ∷ [])

-- a chain of different tasks, whose last is the source of an edge into its first
pub record IsCycle (P : Plan) (ts : List Task) : Type 0 where
  pub chain : IsChain P ts
  pub differ : HasNoRepeats ts
  pub first : Task
  pub begins : BeginsWith first ts
  pub last : Task
  pub ends : EndsWith last ts
  pub closed : IsSourceOf P last first

-- the job has no cycle
abbrev pub HasNoCycle : Plan → Type 0
HasNoCycle P = (ts : List Task) → IsCycle P ts → ⊥
