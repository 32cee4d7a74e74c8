-- Dependences and flows. Source: PaRSEC 2013 and the JDF documentation; that all dependences of a flow have one
-- datatype is this project's own choice.
-- Carried by: `flow`.
-- Tested by: `type_faults.txt`, `type_datatypes.txt`.
use Rattle.std.specs.Prelude.{ℕ, Bool, not, ◌&&◌, List, [], ◌++◌, filter, flat_map, Option, Some, None}
use Rattle.std.specs.Str.{bytes_eq}
use Rattle.std.specs.Option.{option_map_or}
use Rattle.term_core.specs.declared.direction.Direction.{Direction}
use Rattle.term_core.specs.declared.direction.Direction.TheVariants.{In, Out}
use Rattle.term_core.specs.Directions.{is_same}
use Rattle.term_core.specs.Term.{Term}
use Rattle.coll_data.specs.Data.{Data}
use Rattle.plan_core.specs.declared.target.Target.{Target}
use Rattle.plan_core.specs.declared.flow.DepPlan.{DepPlan}
use Rattle.plan_core.specs.declared.flow.FlowPlan.{FlowPlan}
use Rattle.type_rules.specs.TreesAndFaults.{Spot, JdfFault, Word, DefTree, TargetTree, DepTree, FlowTree, MixedTypes}
use Rattle.type_rules.specs.Faults.{fault_if}
use Rattle.type_rules.specs.Returns.{both, each, each_option}
use Rattle.type_rules.specs.Names.{Job}
use Rattle.type_rules.specs.Expressions.{option_faults, option_term}
use Rattle.type_rules.specs.Kinds.{is_control}
use Rattle.type_rules.specs.Datatypes.{type_of_written, written_faults, first_written, type_of_flow, flow_type}
use Rattle.type_rules.specs.Targets.{first_spot, named_faults, target_of}
use Rattle.type_rules.specs.Rules.{rule_faults}

-- all faults of a target of a flow, in a dependence in this direction
abbrev pub target_faults : Job → List DefTree → FlowTree → Direction → TargetTree → List JdfFault
target_faults job seen flow direction t = named_faults job seen t ++ rule_faults job flow direction t

-- the spot of a fault of a dependence's datatype: that of the written name, or else of the first target
abbrev pub type_spot : TargetTree → Option Word → Spot
type_spot first None = first_spot first
type_spot first (Some w) = w.spot

-- the faults of the datatype of a dependence of a flow
abbrev pub type_faults : Data → FlowTree → DepTree → List JdfFault
type_faults d flow dep =
    written_faults d flow.kind dep.datatype
    ++ fault_if (not (is_control flow.kind) && not (bytes_eq (type_of_written dep.datatype) (type_of_flow flow)))
    (type_spot dep.yes dep.datatype) MixedTypes

-- all faults of a dependence
abbrev pub dependence_faults : Job → List DefTree → FlowTree → DepTree → List JdfFault
dependence_faults job seen flow dep =
    (option_faults job seen dep.guard
    ++ (target_faults job seen flow dep.direction dep.yes
    ++ option_map_or (target_faults job seen flow dep.direction) dep.no []))
    ++ type_faults job.given flow dep

-- the dependence with its names resolved
abbrev pub dependence_of : Job → List DefTree → DepTree → Option DepPlan
dependence_of job seen dep =
    both (λ (g : Option Term) (x : Target × Option Target). record { guard = g; yes = x.0; no = x.1 })
    (option_term job seen dep.guard)
    (both (λ x y. (x, y)) (target_of job seen dep.yes) (each_option (target_of job seen) dep.no))

-- whether a dependence has this direction
abbrev pub is_of_direction : Direction → DepTree → Bool
is_of_direction direction dep = is_same dep.direction direction

-- the dependences in one direction, with their names resolved
abbrev pub dependences_of : Job → List DefTree → Direction → List DepTree → Option (List DepPlan)
dependences_of job seen direction deps = each (dependence_of job seen) (filter (is_of_direction direction) deps)

-- the faults of the dependences in one direction
abbrev pub dependences_faults : Job → List DefTree → FlowTree → Direction → List DepTree → List JdfFault
dependences_faults job seen flow direction deps =
    flat_map (dependence_faults job seen flow) (filter (is_of_direction direction) deps)

-- the dependences in both directions, with their names resolved
abbrev pub directions_of : Job → List DefTree → List DepTree → Option (List DepPlan × List DepPlan)
directions_of job seen deps = both (λ x y. (x, y)) (dependences_of job seen In deps) (dependences_of job seen Out deps)

-- the faults of the dependences in both directions
abbrev pub directions_faults : Job → List DefTree → FlowTree → List DepTree → List JdfFault
directions_faults job seen flow deps =
    dependences_faults job seen flow In deps ++ dependences_faults job seen flow Out deps

-- all faults of a flow; if the data do not have its type, that is a fault of its first dependence, and is listed twice
abbrev pub flow_faults : Job → List DefTree → FlowTree → List JdfFault
flow_faults job seen flow =
    written_faults job.given flow.kind (first_written flow.deps) ++ directions_faults job seen flow flow.deps

-- the plan of a flow, from its datatype and its dependences
abbrev pub flow_from : FlowTree → ℕ → List DepPlan × List DepPlan → FlowPlan
flow_from flow n deps = record { name = flow.name.text; kind = flow.kind; datatype = n; ins = deps.0; outs = deps.1 }

-- the flow with its names resolved
abbrev pub flow_plan : Job → List DefTree → FlowTree → Option FlowPlan
flow_plan job seen flow = both (flow_from flow) (flow_type job.given flow) (directions_of job seen flow.deps)
