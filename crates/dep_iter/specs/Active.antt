-- Which dependences of a task hold, and its active targets. Source: DAGuE (Parallel Computing, 2012) and PaRSEC (2013).
-- Of a data flow's in dependences, the first that holds is active. Of its out dependences, and of a CTL flow's
-- dependences, all that hold are.
-- Carried by: `in_edges`, `out_edges`, `write_backs`, `data_source`, `well_task`.
-- Tested by: `edges.txt`, `edges_cholesky.txt`.
use Rattle.std.specs.Prelude.{ℕ, suc, ℤ, List, [], ◌∷◌, ◌++◌, map, Bool, true, false, Option, Some, None, Result, Ok}
use Rattle.std.specs.Result.{result_unwrap_or}
use Rattle.ptg_base.specs.Task.{Task}
use Rattle.term_core.specs.Term.{Term}
use Rattle.term_core.specs.Arith.{holds}
use Rattle.ptg_base.specs.Returns.{and_then}
use Rattle.term_core.specs.Value.{value}
use Rattle.term_core.specs.declared.fault.ExprFault.{ExprFault}
use Rattle.term_core.specs.Kinds.{first_only}
use Rattle.term_core.specs.declared.direction.Direction.{Direction}
use Rattle.term_core.specs.declared.direction.Direction.TheVariants.{In, Out}
use Rattle.plan_core.specs.declared.flow.DepPlan.{DepPlan}
use Rattle.plan_core.specs.declared.flow.FlowPlan.{FlowPlan}
use Rattle.plan_core.specs.declared.plan.Plan.{Plan}
use Rattle.plan_core.specs.declared.target.Target.{Target}
use Rattle.plan_core.specs.Flows.{dependences}
use Rattle.dep_iter.specs.Tasks.{locals_of, flows_of}

-- whether a guard holds under these locals, that is, its value is not 0; or its fault. A dependence without a guard
-- always holds
abbrev pub guard_value : Option Term → List ℤ → Result Bool ExprFault
guard_value None env = Ok true
guard_value (Some c) env = and_then (value c env) (λ v. Ok (holds v))

-- the target of a dependence, by whether its guard holds
abbrev pub target_by : DepPlan → Bool → Option Target
target_by d true = Some d.yes
target_by d false = d.no

-- the target of a dependence under these locals, None if it does not hold, or the fault of its guard
abbrev pub active_target : DepPlan → List ℤ → Result (Option Target) ExprFault
active_target d env = and_then (guard_value d.guard env) (λ b. Ok (target_by d b))

-- the target of a dependence under these locals, None if it does not hold or its guard has a fault. The guards that a
-- well task needs have no fault
abbrev pub held_target : DepPlan → List ℤ → Option Target
held_target d env = result_unwrap_or (active_target d env) None

-- a target, if there is one, before later ones; if only the first counts, it alone
abbrev pub held_then : Bool → Option Target → List Target → List Target
held_then first_only None later = later
held_then true (Some x) later = x ∷ []
held_then false (Some x) later = x ∷ later

-- the targets of those of these dependences that hold, in order; if only the first counts, that of the first that holds
abbrev pub held_targets : Bool → List DepPlan → List ℤ → List Target
held_targets first_only [] env = []
held_targets first_only (d ∷ ds) env = held_then first_only (held_target d env) (held_targets first_only ds env)

-- the targets of a flow's active dependences in one direction
abbrev pub flow_targets : Direction → List ℤ → FlowPlan → List Target
flow_targets direction env f = held_targets (first_only direction f.kind) (dependences direction f) env

-- the targets of the active in dependences of a flow
abbrev pub flow_ins : List ℤ → FlowPlan → List Target
flow_ins env f = flow_targets In env f

-- the targets of the active out dependences of a flow
abbrev pub flow_outs : List ℤ → FlowPlan → List Target
flow_outs env f = flow_targets Out env f

-- the lists that a function has for these flows, joined; the flows are numbered from n on
abbrev pub by_number : {X : Type 0} → (ℕ → FlowPlan → List X) → ℕ → List FlowPlan → List X
by_number g n [] = []
by_number g n (f ∷ fs) = g n f ++ by_number g (suc n) fs

-- the targets of these flows, each with the number of its flow; the flows are numbered from n on
abbrev pub by_flow : (FlowPlan → List Target) → ℕ → List FlowPlan → List (ℕ × Target)
by_flow targets n [] = []
by_flow targets n (f ∷ fs) = map (λ x. (n, x)) (targets f) ++ by_flow targets (suc n) fs

-- the targets of the active in dependences of a task, by flow in the text's order
abbrev pub active_ins : Plan → Task → List (ℕ × Target)
active_ins P t = by_flow (flow_ins (locals_of P t)) 0 (flows_of P t)

-- the targets of the active out dependences of a task, by flow in the text's order
abbrev pub active_outs : Plan → Task → List (ℕ × Target)
active_outs P t = by_flow (flow_outs (locals_of P t)) 0 (flows_of P t)
