-- The tasks of a job, and the locals of a task, on which the expressions of its class are evaluated. Source: DAGuE
-- (Parallel Computing, 2012): a task is named by its class and its parameters; the JDF documentation for locals.
-- Carried by: `in_edges`, `out_edges`, `write_backs`, `data_source`, `affinity`, `priority`, `well_task`.
-- Tested by: `edges.txt`, `edges_cholesky.txt`.
use Rattle.std.specs.Prelude.{ℕ, suc, ℤ, List, [], ◌∷◌, ◌++◌, map, find, unwrap_or, slice_get, IsSomeAnd, Bool, true, ◌&&◌, ◌==◌, length}
use Rattle.std.specs.Option.{option_map_or}
use Rattle.std.specs.Ordering.{int_eq}
use Rattle.std.specs.Cmp.Lexicographic.{pointwise}
use Rattle.ptg_base.specs.Lists.{IsIn}
use Rattle.ptg_base.specs.Task.{Task}
use Rattle.term_core.specs.declared.space.ClassSpace.{ClassSpace}
use Rattle.range_space.specs.Tasks.{all_locals, params_of, tasks}
use Rattle.plan_core.specs.declared.class.ClassPlan.{ClassPlan}
use Rattle.plan_core.specs.declared.flow.FlowPlan.{FlowPlan}
use Rattle.plan_core.specs.declared.plan.Plan.{Plan}

-- the task of a class with these parameters
abbrev pub task : ℕ → List ℤ → Task
task class params = record { class = class; params = params }

-- the tasks of these classes in walk order; the classes are numbered from n on
abbrev pub tasks_from : ℕ → List ClassSpace → List Task
tasks_from n [] = []
tasks_from n (s ∷ ss) = map (task n) (tasks s) ++ tasks_from (suc n) ss

-- all tasks of a job, in walk order
-- Carried by: `all_tasks`; law `all_tasks_are_listed`.
-- Tested by: `edges.txt`.
abbrev pub all_tasks : Plan → List Task
all_tasks P = tasks_from 0 P.spaces

-- a task of the job: its class exists and has a task with these parameters
abbrev pub IsTask : Plan → Task → Type 0
IsTask P t = IsSomeAnd (slice_get P.spaces t.class) (λ s. IsIn t.params (tasks s))

-- the full list of locals of a class in which the parameters have these values; empty if the class has no such task
unfoldable pub locals_with : ClassSpace → List ℤ → List ℤ
locals_with s params =
    unwrap_or (find (λ locals. pointwise int_eq (params_of s.params locals) params) (all_locals s)) []

-- the locals of a task
abbrev pub locals_of : Plan → Task → List ℤ
locals_of P t = option_map_or (λ s. locals_with s t.params) (slice_get P.spaces t.class) []

-- the flows of the class of a task, in the text's order
abbrev pub flows_of : Plan → Task → List FlowPlan
flows_of P t = option_map_or (λ (c : ClassPlan). c.flows) (slice_get P.classes t.class) []

-- whether these numbers count up by one from n on
abbrev pub counts_from : ℕ → List ℕ → Bool
counts_from n [] = true
counts_from n (p ∷ ps) = (p == n) && counts_from (suc n) ps

-- whether the definitions of a class are its parameters, in their order
abbrev pub params_are_locals : ClassSpace → Bool
params_are_locals s = (length s.params == length s.defs) && counts_from 0 s.params
