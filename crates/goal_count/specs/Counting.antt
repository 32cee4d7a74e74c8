-- How many edges go into a task, by its dependences: for each target that names tasks, the number of combinations of
-- its arguments' values.
-- Carried by: inside `goal`.
-- Tested by: `edges.txt`, `edges_cholesky.txt`.
use Rattle.std.specs.Prelude.{◌≡◌, ◌≤◌, ℕ, ℤ, List, Bool, length, sum_by}
use Rattle.ptg_base.specs.Limits.{most_edges}
use Rattle.plan_core.specs.declared.flow.DepPlan.{DepPlan}
use Rattle.plan_core.specs.declared.flow.FlowPlan.{FlowPlan}
use Rattle.plan_core.specs.declared.target.Target.{Target}
use Rattle.plan_core.specs.declared.target.Target.TheVariants as target
use Rattle.term_core.specs.Kinds.{is_data}
use Rattle.dep_iter.specs.Active.{held_targets}
use Rattle.dep_iter.specs.Arguments.{combinations}

-- k is the number n, or both are over 4,000,000, the most edges that a job may have
abbrev pub IsCount : ℕ → ℕ → Type 0
IsCount k n = (k ≤ most_edges → k ≡ n) × (n ≤ most_edges → k ≡ n)

-- how many edges a target stands for
abbrev pub target_count : List ℤ → Target → ℕ
target_count env (target.Task class flow args) = length (combinations args env)
target_count env (target.Element coll indices) = 0
target_count env target.New = 0
target_count env target.Null = 0

-- how many edges these dependences stand for
abbrev pub held_count : Bool → List DepPlan → List ℤ → ℕ
held_count first_only ds env = sum_by (target_count env) (held_targets first_only ds env)

-- how many edges go into these flows
abbrev pub flows_count : List ℤ → List FlowPlan → ℕ
flows_count env fs = sum_by (λ (f : FlowPlan). held_count (is_data f.kind) f.ins env) fs
