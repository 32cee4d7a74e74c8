-- The write-backs of a task by its flows and their out dependences.
use Rattle.std.specs.Prelude.{ℕ, ℤ, List, ◌++◌, flat_map, Bool, true, false, ◌||◌, not, Option, Some, None, option_and_then}
use Rattle.std.specs.List.{list_all}
use Rattle.std.specs.Option.{option_map_or}
use Rattle.ptg_base.specs.Task.{Task}
use Rattle.ptg_base.specs.declared.edge.WriteBack.{WriteBack}
use Rattle.ptg_base.specs.declared.place.Place.{Place}
use Rattle.plan_core.specs.declared.flow.DepPlan.{DepPlan}
use Rattle.plan_core.specs.declared.flow.FlowPlan.{FlowPlan}
use Rattle.plan_core.specs.declared.target.Target.{Target}
use Rattle.plan_core.specs.declared.target.Target.TheVariants as target
use Rattle.dep_iter.specs.declared.write_position.WritePosition.{WritePosition}
use Rattle.dep_iter.specs.Active.{by_number, held_target, held_targets}
use Rattle.dep_iter.specs.Arguments.{place_of}
use Rattle.dep_iter.specs.Walking.{writes_to}

-- whether a target is a place
abbrev pub is_place : Target → Bool
is_place (target.Task class flow args) = false
is_place (target.Element coll indices) = true
is_place target.New = false
is_place target.Null = false

-- whether a target of a dependence is a place
abbrev pub names_place : DepPlan → Bool
names_place d = is_place d.yes || option_map_or is_place d.no false

-- whether no target of a dependence is a place
abbrev pub names_no_place : DepPlan → Bool
names_no_place d = not (names_place d)

-- whether no out dependence of a flow names a place
abbrev pub writes_nothing : FlowPlan → Bool
writes_nothing f = list_all names_no_place f.outs

-- the place that a target names, if it is a place
abbrev pub place_named : List ℤ → Target → Option Place
place_named env (target.Task class flow args) = None
place_named env (target.Element coll indices) = Some (place_of coll indices env)
place_named env target.New = None
place_named env target.Null = None

-- the place that a dependence names, if it holds
abbrev pub place_held : DepPlan → List ℤ → Option Place
place_held d env = option_and_then (place_named env) (held_target d env)

-- the write-backs of flow n of a task by these out dependences
abbrev pub writes_by : Task → List ℤ → ℕ → List DepPlan → List WriteBack
writes_by t env n ds = flat_map (writes_to t env n) (held_targets false ds env)

-- the write-backs of these flows of a task; the flows are numbered from n on
abbrev pub writes_of_flows : Task → List ℤ → ℕ → List FlowPlan → List WriteBack
writes_of_flows t env n fs = by_number (λ k (f : FlowPlan). writes_by t env k f.outs) n fs

-- the write-backs left: those of the dependences left in the flow at hand, then those of the flows after it
abbrev pub writes_left : Task → List ℤ → WritePosition → List WriteBack
writes_left t env p = writes_by t env p.flow p.deps.now ++ writes_of_flows t env p.next_flow p.flows.now
