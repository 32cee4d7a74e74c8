-- How a certificate is found: a table of levels by task, and the least of some tasks.
use Rattle.std.specs.Prelude.{◌≡◌, ◌≤◌, ◌<◌, ◌+◌, ◌*◌, ◌↔◌, ◌==◌, ℕ, max, Bool, true, false, not, List, [], ◌∷◌, length, map, Option, Some, None}
use Rattle.std.specs.Prelude.{is_some, IsSomeAnd}
use Rattle.std.specs.Map.{lookup}
use Rattle.ptg_base.specs.Limits.{most_tasks, most_weight}
use Rattle.ptg_base.specs.Lists.{IsIn}
use Rattle.ptg_base.specs.Task.{Task}
use Rattle.ptg_base.specs.TaskOrder.{task_before}
use Rattle.ptg_base.specs.TaskComparing.{same_task}
use Rattle.plan_core.specs.declared.plan.Plan.{Plan}
use Rattle.dep_iter.specs.Tasks.{IsTask, all_tasks}
use Rattle.flow_meaning.specs.declared.outcome.Outcome.{Outcome}
use Rattle.flow_meaning.specs.declared.outcome.Outcome.TheVariants as outcome
use Rattle.flow_meaning.specs.Order.{MayFollow}
use Rattle.chain_cert.specs.Greatest.{IsGreatestOrder}
use Rattle.chain_cert.specs.declared.certificate.Certificate.{Certificate}
use Rattle.chain_cert.specs.declared.certificate.Certificate.TheVariants.{Chain, Cycle, Trapped}
use Rattle.chain_cert.specs.Chains.{IsCycle}
use Rattle.chain_cert.specs.Checked.{ShowsHeaviest}
use Rattle.chain_cert.specs.Levels.{IsLevel}
use Rattle.flow_meaning.specs.Numbers.{number_for}

-- what a table of levels has for a task: its level if it is one of these tasks, else nothing
abbrev pub IsLevelAmong : Plan → List ℕ → List Task → Task → Option ℕ → Type 0
IsLevelAmong P ws ts t None = IsIn t ts → ⊥
IsLevelAmong P ws ts t (Some n) = IsIn t ts × IsLevel P ws t n × (n ≤ most_weight * length ts)

-- a table with the levels of these tasks, and of no others
abbrev pub HasLevels : Plan → List ℕ → List Task → List (Task × ℕ) → Type 0
HasLevels P ws ts table = (t : Task) → IsLevelAmong P ws ts t (lookup (same_task t) table)

-- the greatest level that a table has for one of these tasks, 0 if it has none
abbrev pub greatest_among : List (Task × ℕ) → List Task → ℕ
greatest_among table [] = 0
greatest_among table (t ∷ ts) = max (number_for table t) (greatest_among table ts)

-- a table has the levels of fewer tasks than a job may have, and t may follow them
pub record IsNextTask (P : Plan) (ws : List ℕ) (before : List Task) (table : List (Task × ℕ)) (t : Task) : Type 0 where
  pub levels : HasLevels P ws before table
  pub follows : MayFollow P before t
  pub at_most : length before < most_tasks

-- a table with the level of each task of the job
abbrev pub HasAllLevels : Plan → List ℕ → List (Task × ℕ) → Type 0
HasAllLevels P ws table = (t : Task) → IsTask P t → IsSomeAnd (lookup (same_task t) table) (IsLevel P ws t)

-- tasks with the levels that a table has for them
abbrev pub rows_by : List (Task × ℕ) → List Task → List (Task × ℕ)
rows_by table ts = map (λ (t : Task). (t, number_for table t)) ts

-- the least, in task order, of those of these tasks that pass a test, if any do
abbrev pub IsLeastWhere : (Task → Bool) → List Task → Option Task → Type 0
IsLeastWhere test ts None = (u : Task) → IsIn u ts → test u ≡ false
IsLeastWhere test ts (Some t) =
    IsIn t ts × (test t ≡ true) × ((u : Task) → IsIn u ts → test u ≡ true → task_before u t ≡ false)

-- the row with the greatest level, if there are rows; among several, the one with the least task
abbrev pub IsHeaviestRow : List (Task × ℕ) → Option (Task × ℕ) → Type 0
IsHeaviestRow rows None = rows ≡ []
IsHeaviestRow rows (Some best) =
    IsIn best rows
    × ((row : Task × ℕ) → IsIn row rows → (row.1 ≤ best.1) × (row.1 ≡ best.1 → task_before row.0 best.0 ≡ false))

-- whether a heaviest chain to a task of level n and weight w comes by this source
abbrev pub is_heaviest_source : List (Task × ℕ) → ℕ → ℕ → Task → Bool
is_heaviest_source table w n s = number_for table s + w == n

-- whether a table does not have a task
abbrev pub is_left : List (Task × ℕ) → Task → Bool
is_left table t = not (is_some (lookup (same_task t) table))

-- a table with the tasks of a greatest legal order, which are not all
pub record LacksTasks (P : Plan) (order : List Task) (table : List (Task × ℕ)) : Type 0 where
  pub greatest : IsGreatestOrder P order
  pub members : (t : Task) → IsIn t order ↔ (is_some (lookup (same_task t) table) ≡ true)
  pub some_left : length order < length (all_tasks P)

-- whether an answer is that a task trapped
abbrev pub is_trapped : Outcome → Bool
is_trapped (outcome.Complete tasks final) = false
is_trapped (outcome.Trapped rows) = true
is_trapped (outcome.Stalled ran all rows) = false

-- what the checkers require of a certificate
-- Carried by: `certify`; law `cert_check::the_checkers_accept_certificates`.
abbrev pub IsAccepted : Plan → List ℕ → Certificate → Type 0
IsAccepted P ws (Chain chain levels) = ShowsHeaviest P ws chain levels
IsAccepted P ws (Cycle cycle) = IsCycle P cycle
IsAccepted P ws Trapped = Unit {0}
