-- A pass of a table, and two that look on.
use Rattle.std.specs.Prelude.{◌≡◌, ℕ, Bool, true, false, List, [], ◌∷◌}
use Rattle.plan_core.specs.declared.plan.Plan.{Plan}
use Rattle.dep_iter.specs.Tasks.{IsTask}
use Rattle.work_board.specs.declared.answers.Claim.{Claim}
use Rattle.work_board.specs.declared.answers.Claim.TheVariants as claim
use Rattle.work_board.specs.declared.answers.Scan.{Scan}
use Rattle.work_board.specs.declared.answers.Scan.TheVariants as scan
use Rattle.table_rule.specs.Names.{Name}
use Rattle.dep_table.specs.declared.table.DepTable.{DepTable}
use Rattle.dep_table.specs.Boards.{IsWorkerPass}
use Rattle.dep_table.specs.Views.{shown}
use Rattle.table_runs.specs.declared.watcher.Watcher.{Watcher}
use Rattle.table_runs.specs.declared.watching.Watch.{Watch}
use Rattle.table_runs.specs.declared.watching.Watched.{Watched}

-- whether a claim was refused
abbrev pub is_refusal : Claim → Bool
is_refusal (claim.Got tiles) = false
is_refusal claim.Gone = true
is_refusal claim.Busy = true

-- if a scan found a task, it is one of the job
abbrev pub FindsTask : Plan → Scan → Type 0
FindsTask P (scan.Got t tiles) = IsTask P t
FindsTask P scan.Empty = Unit {0}
FindsTask P scan.Busy = Unit {0}

-- a worker's pass of this table; if it is marked idle, it runs nothing
pub record IsWatcher (table : DepTable) (w : Watcher) : Type 0 where
  pub pass : IsWorkerPass table w.pass
  pub idle : w.idle ≡ true → (shown w.pass).running ≡ []

-- the only name of the pass that was split off the first one as the n-th
abbrev pub split_as : ℕ → List Name
split_as n = (n ∷ [], 0) ∷ []

-- a worker's pass of this table, and the first two that were split off the table's first pass
pub record IsWatch (b : Watched) (w : Watch) : Type 0 where
  pub mine : IsWorkerPass b.table w.mine
  pub first : IsWatcher b.table w.first
  pub second : IsWatcher b.table w.second
  pub first_name : (shown w.first.pass).names ≡ split_as 0
  pub second_name : (shown w.second.pass).names ≡ split_as 1

-- the three passes are all passes of the table, and the worker's one runs nothing
pub record IsReadyWatch (b : Watched) (w : Watch) : Type 0 where
  pub watch : IsWatch b w
  pub idle : (shown w.mine).running ≡ []
  pub name : (shown w.mine).names ≡ ([], 2) ∷ []
