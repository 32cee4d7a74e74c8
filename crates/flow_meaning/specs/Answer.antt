-- The answer of a job: all tasks that trap, if any do; else the final data, if all tasks run; else the stall, with the
-- tasks that wait.
-- Carried by: `flow_core::run_one`.
-- Tested by: `jobs.txt`, `answers.txt`, `chain.txt`, `traps.txt`, `stalls.txt`, `examples.txt`.
use Rattle.std.specs.Prelude.{ℕ, nat_lt, ◌==◌, List, [], ◌∷◌, length, filter, flat_map, Ok, Err, Option, Some, None, is_some, if◌then◌else◌}
use Rattle.ptg_base.specs.Task.{Task}
use Rattle.ptg_base.specs.TaskOrder.{in_task_order}
use Rattle.ptg_base.specs.declared.edge.Edge.{Edge}
use Rattle.plan_core.specs.declared.plan.Plan.{Plan}
use Rattle.coll_data.specs.Data.{Data}
use Rattle.dep_iter.specs.Tasks.{all_tasks}
use Rattle.dep_iter.specs.Edges.{in_edges, goal}
use Rattle.flow_meaning.specs.declared.outcome.TrapRow.{TrapRow}
use Rattle.flow_meaning.specs.declared.outcome.WaitRow.{WaitRow}
use Rattle.flow_meaning.specs.declared.outcome.Outcome.{Outcome}
use Rattle.flow_meaning.specs.declared.outcome.Outcome.TheVariants.{Complete, Trapped, Stalled}
use Rattle.list_lemmas.specs.Counting.{count}
use Rattle.flow_meaning.specs.Ending.{Ended, has_outputs}
use Rattle.flow_meaning.specs.Backward.{ended}
use Rattle.flow_meaning.specs.Final.{final_data}

-- the tasks that run, in walk order: those that end, with a trap or without
unfoldable pub ran : Plan → Data → List Task
ran P G = filter (λ t. is_some (ended P G t)) (all_tasks P)

-- the row of a task with this end, if it traps
abbrev pub trap_rows : Task → Option Ended → List TrapRow
trap_rows t None = []
trap_rows t (Some (Ok tiles)) = []
trap_rows t (Some (Err cause)) = record { task = t; cause = cause } ∷ []

-- the tasks that trap, in task order
unfoldable pub trapped : Plan → Data → List TrapRow
trapped P G = in_task_order (λ (r : TrapRow). r.task) (flat_map (λ t. trap_rows t (ended P G t)) (all_tasks P))

-- how many edges into a task have a source with outputs
abbrev pub satisfied : Plan → Data → Task → ℕ
satisfied P G t = count (λ (e : Edge). has_outputs (ended P G e.from)) (in_edges P t)

-- the row of a task that does not run, if at least one edge into it has a source with outputs
abbrev pub wait_rows : Plan → Data → Task → Option Ended → List WaitRow
wait_rows P G t (Some end) = []
wait_rows P G t None =
    if nat_lt 0 (satisfied P G t) then record { task = t; arrived = satisfied P G t; goal = goal P t } ∷ [] else []

-- the tasks that wait, in task order
unfoldable pub waiting : Plan → Data → List WaitRow
waiting P G = in_task_order (λ (r : WaitRow). r.task) (flat_map (λ t. wait_rows P G t (ended P G t)) (all_tasks P))

-- the answer, from the tasks that trap, how many of `all` tasks run, those that wait, and the data after the run
abbrev pub answer_from : List TrapRow → ℕ → ℕ → List WaitRow → Data → Outcome
answer_from (r ∷ rows) n all waits final = Trapped (r ∷ rows)
answer_from [] n all waits final = if n == all then Complete all final else Stalled n all waits

-- the answer, given the rows of the tasks that trap
abbrev pub answer_by : Plan → Data → List TrapRow → Outcome
answer_by P G rows = answer_from rows (length (ran P G)) (length (all_tasks P)) (waiting P G) (final_data P G)

-- the answer of a job
unfoldable pub answer : Plan → Data → Outcome
answer P G = answer_by P G (trapped P G)
