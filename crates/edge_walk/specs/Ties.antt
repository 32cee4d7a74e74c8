-- The ties of a task: what its active dependences name, with the numbers of the flow and of the dependence. Source:
-- DAGuE (Parallel Computing, 2012) and PaRSEC (2013), as the edges of a task.
-- Carried by: `ties_of`; law `ties_are_edges`.
-- Tested by: `edges.txt`, `edges_cholesky.txt`, the stored run of `job_graph`.
use Rattle.std.specs.Prelude.{ℕ, suc, ℤ, List, [], ◌∷◌, ◌++◌, map, flat_map, Bool, true, false, Option, Some, None}
use Rattle.ptg_base.specs.Task.{Task}
use Rattle.ptg_base.specs.declared.edge.Edge.{Edge}
use Rattle.ptg_base.specs.declared.edge.Item.{Item}
use Rattle.ptg_base.specs.declared.edge.Item.TheVariants as item
use Rattle.term_core.specs.declared.direction.Direction.{Direction}
use Rattle.term_core.specs.Kinds.{first_only}
use Rattle.plan_core.specs.declared.flow.DepPlan.{DepPlan}
use Rattle.plan_core.specs.declared.flow.FlowPlan.{FlowPlan}
use Rattle.plan_core.specs.declared.plan.Plan.{Plan}
use Rattle.plan_core.specs.declared.target.Target.{Target}
use Rattle.plan_core.specs.declared.target.Target.TheVariants as target
use Rattle.plan_core.specs.Flows.{dependences}
use Rattle.dep_iter.specs.Active.{held_target}
use Rattle.dep_iter.specs.Arguments.{combinations, place_of}
use Rattle.dep_iter.specs.Edges.{edge}
use Rattle.dep_iter.specs.Items.{write_back}
use Rattle.dep_iter.specs.Tasks.{flows_of, locals_of, task}
use Rattle.edge_walk.specs.declared.tie.Far.{Far}
use Rattle.edge_walk.specs.declared.tie.Far.TheVariants as far
use Rattle.edge_walk.specs.declared.tie.Tie.{Tie}

-- an active dependence: the numbers of its flow and of itself, and its target
pub record Numbered : Type 0 where
  pub flow : ℕ
  pub dependence : ℕ
  pub target : Target

-- the target of dependence k, if it holds, before the targets of the later ones; if only the first that holds counts,
-- it alone
abbrev pub numbered_then : Bool → ℕ → Option Target → List (ℕ × Target) → List (ℕ × Target)
numbered_then first_only k None later = later
numbered_then true k (Some x) later = (k, x) ∷ []
numbered_then false k (Some x) later = (k, x) ∷ later

-- the targets of those of these dependences that hold, each with its number; if only the first that holds counts, that
-- of the first. The dependences are numbered from k on
abbrev pub numbered_targets : Bool → ℕ → List DepPlan → List ℤ → List (ℕ × Target)
numbered_targets first_only k [] env = []
numbered_targets first_only k (d ∷ ds) env =
    numbered_then first_only k (held_target d env) (numbered_targets first_only (suc k) ds env)

-- the targets of a flow's active dependences in one direction
abbrev pub numbered_flow : Direction → List ℤ → FlowPlan → List (ℕ × Target)
numbered_flow direction env f = numbered_targets (first_only direction f.kind) 0 (dependences direction f) env

-- a target with the numbers of its flow and of its dependence
abbrev pub numbered : ℕ → ℕ × Target → Numbered
numbered n x = record { flow = n; dependence = x.0; target = x.1 }

-- the active dependences of these flows; the flows are numbered from n on
abbrev pub active_from : Direction → List ℤ → ℕ → List FlowPlan → List Numbered
active_from direction env n [] = []
active_from direction env n (f ∷ fs) =
    map (numbered n) (numbered_flow direction env f) ++ active_from direction env (suc n) fs

-- what a target names, if it is no task
abbrev pub single : List ℤ → Target → Option Far
single env (target.Task class flow args) = None
single env (target.Element coll indices) = Some (far.Place (place_of coll indices env))
single env target.New = Some far.New
single env target.Null = Some far.Null

-- the tie of a dependence with what it names
abbrev pub tie : ℕ → ℕ → Far → Tie
tie n k x = record { flow = n; dependence = k; far = x }

-- the tie with a flow of the task of a class with these parameters
abbrev pub task_tie : ℕ → ℕ → ℕ → ℕ → List ℤ → Tie
task_tie n k class flow params = tie n k (far.Flow (task class params) flow)

-- the ties of dependence k of flow n for a target: one for each combination of values of its arguments if it names
-- tasks, else one alone
abbrev pub ties_to : List ℤ → ℕ → ℕ → Target → List Tie
ties_to env n k (target.Task class flow args) = map (task_tie n k class flow) (combinations args env)
ties_to env n k (target.Element coll indices) = tie n k (far.Place (place_of coll indices env)) ∷ []
ties_to env n k target.New = tie n k far.New ∷ []
ties_to env n k target.Null = tie n k far.Null ∷ []

-- the ties of these active dependences
abbrev pub all_ties : List ℤ → List Numbered → List Tie
all_ties env actives = flat_map (λ (a : Numbered). ties_to env a.flow a.dependence a.target) actives

-- all ties of a task in one direction
abbrev pub ties : Plan → Task → Direction → List Tie
ties P t direction = all_ties (locals_of P t) (active_from direction (locals_of P t) 0 (flows_of P t))

-- the edge into flow n of the task t from what a dependence of the flow names, if that is a task's flow
abbrev pub edge_from : Task → ℕ → Far → Option Edge
edge_from t n (far.Flow s flow) = Some (edge s flow t n)
edge_from t n (far.Place p) = None
edge_from t n far.New = None
edge_from t n far.Null = None

-- what flow n of the task t sends to what a dependence of the flow names, if anything
abbrev pub item_to : Task → ℕ → Far → Option Item
item_to t n (far.Flow s flow) = Some (item.Edge (edge t n s flow))
item_to t n (far.Place p) = Some (item.Write (write_back t n p))
item_to t n far.New = None
item_to t n far.Null = None

-- the edge into a task that a tie of its in dependences stands for, if any
abbrev pub edge_by_in : Task → Tie → Option Edge
edge_by_in t x = edge_from t x.flow x.far

-- the item that a task sends by a tie of its out dependences, if any
abbrev pub item_by_out : Task → Tie → Option Item
item_by_out t x = item_to t x.flow x.far
