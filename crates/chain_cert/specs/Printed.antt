-- The chain and the cycle that are printed, each from its end back.
-- Carried by: `certify`; laws `cert_check::one_certificate`, `cert_check::the_printed_cycle_is_a_cycle`.
-- Tested by: `certify.txt`, `certificate_chains.txt`, `certificate_cycles.txt`.
use Rattle.std.specs.Prelude.{◌≡◌, ◌≤◌, ◌+◌, ℕ, List, [], ◌∷◌, ◌++◌, false, reverse}
use Rattle.ptg_base.specs.Lists.{HasNoRepeats, IsIn}
use Rattle.ptg_base.specs.Task.{Task}
use Rattle.ptg_base.specs.TaskOrder.{task_before}
use Rattle.plan_core.specs.declared.plan.Plan.{Plan}
use Rattle.dep_iter.specs.Tasks.{IsTask, all_tasks}
use Rattle.chain_cert.specs.Chains.{IsSourceOf}
use Rattle.chain_cert.specs.Weights.{weight}
use Rattle.chain_cert.specs.Levels.{IsLevel}

-- t is the least in task order of the tasks of this kind
pub record IsLeast (Kind : Task → Type 0) (t : Task) : Type 0 where
  pub kind : Kind t
  pub least : (u : Task) → Kind u → task_before u t ≡ false

-- t is a task of the greatest level
pub record HasGreatestLevel (P : Plan) (ws : List ℕ) (t : Task) : Type 0 where
  pub task : IsTask P t
  pub level : ℕ
  pub is_level : IsLevel P ws t level
  pub greatest : (u : Task) (n : ℕ) → IsTask P u → IsLevel P ws u n → n ≤ level

-- s is a source of t by which a heaviest chain comes to t: the levels differ by the weight of t
pub record IsHeaviestSource (P : Plan) (ws : List ℕ) (t s : Task) : Type 0 where
  pub source : IsSourceOf P s t
  pub level : ℕ
  pub source_level : IsLevel P ws s level
  pub task_level : IsLevel P ws t (level + weight ws t)

-- the tasks before t in the printed chain, from t back: none if the level of t is its weight, else the least heaviest
-- source, and those before it
abbrev pub IsTracedBack : Plan → List ℕ → Task → List Task → Type 0
IsTracedBack P ws t [] = IsLevel P ws t (weight ws t)
IsTracedBack P ws t (s ∷ ss) =
    (IsLevel P ws t (weight ws t) → ⊥) × IsLeast (IsHeaviestSource P ws t) s × IsTracedBack P ws s ss

-- the printed chain from its end back: the least of the tasks of the greatest level, and those before it; empty if the
-- job has no task
abbrev pub IsChainBack : Plan → List ℕ → List Task → Type 0
IsChainBack P ws [] = all_tasks P ≡ []
IsChainBack P ws (t ∷ ts) = IsLeast (HasGreatestLevel P ws) t × IsTracedBack P ws t ts

-- the printed chain
pub record IsPrintedChain (P : Plan) (ws : List ℕ) (chain : List Task) : Type 0 where
  pub back : List Task
  pub is_back : IsChainBack P ws back
  pub turned : chain ≡ reverse back

-- s is a source of t that did not run; `ran` are the tasks that did
pub record IsSourceLeft (P : Plan) (ran : List Task) (t s : Task) : Type 0 where
  pub source : IsSourceOf P s t
  pub left : IsIn s ran → ⊥

-- t is a task that did not run
pub record IsTaskLeft (P : Plan) (ran : List Task) (t : Task) : Type 0 where
  pub task : IsTask P t
  pub left : IsIn t ran → ⊥

-- a walk back from t: each task is the least of those sources of the one before it that did not run
abbrev pub IsWalkedBack : Plan → List Task → Task → List Task → Type 0
IsWalkedBack P ran t [] = Unit {0}
IsWalkedBack P ran t (s ∷ ss) = IsLeast (IsSourceLeft P ran t) s × IsWalkedBack P ran s ss

-- the walk back that begins at the least task that did not run
abbrev pub IsWalkBack : Plan → List Task → List Task → Type 0
IsWalkBack P ran [] = ⊥
IsWalkBack P ran (t ∷ ts) = IsLeast (IsTaskLeft P ran) t × IsWalkedBack P ran t ts

-- the printed cycle: once the walk back comes to a task for the second time, the tasks from its first occurrence on,
-- reversed
pub record IsPrintedCycle (P : Plan) (ran cycle : List Task) : Type 0 where
  -- the tasks before the first occurrence, the task that occurs twice, and the tasks between
  pub before : List Task
  pub twice : Task
  pub between : List Task
  pub walk : IsWalkBack P ran (before ++ twice ∷ between ++ twice ∷ [])
  pub once : HasNoRepeats (before ++ twice ∷ between)
  pub turned : cycle ≡ reverse (twice ∷ between)
