-- Well tasks: each expression that a task needs has a value, and no range that it needs has step 0. Source: the JDF
-- documentation; the order in which a fault is looked for is this project's own choice.
-- Carried by: `well_task`.
-- Tested by: `edges.txt`, `edges_cholesky.txt`.
use Rattle.std.specs.Prelude.{◌≡◌, ℕ, suc, ℤ, List, [], ◌∷◌, Bool, true, false, ◌&&◌, Option, Some, None, Result, Ok, Err, is_ok, slice_get}
use Rattle.std.specs.Prelude.{if◌then◌else◌, option_map, option_and_then}
use Rattle.std.specs.List.{list_all}
use Rattle.std.specs.Option.{option_map_or}
use Rattle.ptg_base.specs.Task.{Task}
use Rattle.term_core.specs.Term.{Term}
use Rattle.term_core.specs.Value.{value}
use Rattle.term_core.specs.declared.fault.ExprFault.{ExprFault}
use Rattle.plan_core.specs.declared.class.ClassPlan.{ClassPlan}
use Rattle.plan_core.specs.declared.flow.DepPlan.{DepPlan}
use Rattle.plan_core.specs.declared.flow.FlowPlan.{FlowPlan}
use Rattle.plan_core.specs.declared.plan.Plan.{Plan}
use Rattle.plan_core.specs.declared.target.Arg.{Arg}
use Rattle.plan_core.specs.declared.target.Target.{Target}
use Rattle.plan_core.specs.declared.target.Target.TheVariants as target
use Rattle.dep_iter.specs.Tasks.{locals_of}
use Rattle.term_core.specs.Kinds.{is_data}
use Rattle.dep_iter.specs.Active.{active_target}
use Rattle.dep_iter.specs.Arguments.{arg_values}

-- whether an expression has a value
abbrev pub has_value : List ℤ → Term → Bool
has_value env e = is_ok (value e env)

-- whether a priority has a value, if one is written
abbrev pub has_priority : List ℤ → Option Term → Bool
has_priority env e = option_map_or (has_value env) e true

-- whether an argument has its values
abbrev pub has_arg : List ℤ → Arg → Bool
has_arg env a = is_ok (arg_values a env)

-- whether each argument of a target has its values, even if another argument is an empty range
abbrev pub has_arguments : List ℤ → Target → Bool
has_arguments env (target.Task class flow args) = list_all (has_arg env) args
has_arguments env (target.Element coll indices) = list_all (has_value env) indices
has_arguments env target.New = true
has_arguments env target.Null = true

-- whether a dependence and the later ones have their values: its guard, and the arguments of its target if it holds. If
-- only the first that holds counts, the later ones are needed only if this one does not hold
abbrev pub is_well_then : Bool → List ℤ → Result (Option Target) ExprFault → Bool → Bool
is_well_then first_only env (Err fault) later = false
is_well_then first_only env (Ok None) later = later
is_well_then true env (Ok (Some x)) later = has_arguments env x
is_well_then false env (Ok (Some x)) later = has_arguments env x && later

-- whether each expression that these dependences need has a value
abbrev pub are_well : Bool → List ℤ → List DepPlan → Bool
are_well first_only env [] = true
are_well first_only env (d ∷ ds) = is_well_then first_only env (active_target d env) (are_well first_only env ds)

-- whether each expression that a flow needs has a value. It needs all its out dependences, and its in dependences; of
-- these, a data flow needs only those up to the first that holds
abbrev pub is_well_flow : List ℤ → FlowPlan → Bool
is_well_flow env f = are_well (is_data f.kind) env f.ins && are_well false env f.outs

-- the number of the first ill one of these flows, if there is one; the flows are numbered from n on
abbrev pub first_ill_flow : List ℤ → ℕ → List FlowPlan → Option ℕ
first_ill_flow env n [] = None
first_ill_flow env n (f ∷ fs) = if is_well_flow env f then first_ill_flow env (suc n) fs else Some n

-- whether the affinity and the priority of a task of the class have their values
abbrev pub has_hints : List ℤ → ClassPlan → Bool
has_hints env c = list_all (has_value env) c.affinity.indices && has_priority env c.priority

-- what is ill first in a task of the class, if anything: Some None is its affinity or its priority, and Some (Some n)
-- its flow n
abbrev pub ill_part_of : List ℤ → ClassPlan → Option (Option ℕ)
ill_part_of env c =
    if has_hints env c then option_map Some (first_ill_flow env 0 c.flows) else Some None

-- what is ill first in a task, if anything
unfoldable pub ill_part : Plan → Task → Option (Option ℕ)
ill_part P t = option_and_then (ill_part_of (locals_of P t)) (slice_get P.classes t.class)

-- nothing of the task is ill
abbrev pub IsWellTask : Plan → Task → Type 0
IsWellTask P t = ill_part P t ≡ None
