-- The dependences of a flow, and which targets it may have, by its kind and its datatype. Source: PaRSEC 2013 and the
-- JDF documentation; that `-> NULL` is allowed on a flow with a tile is this project's own choice, and so are the
-- limits.
-- Carried by: `Plan::new`.
-- Tested by: `check_codes.txt`, `type_places.txt`.
use Rattle.std.specs.Prelude.{ℕ, List, Option, Some, None, Bool, true, false, not, ◌&&◌, ◌==◌, ◌+◌, nat_le, nat_lt, length, is_some}
use Rattle.std.specs.List.{list_all, list_any}
use Rattle.ptg_base.specs.Limits.{most_dependences}
use Rattle.term_core.specs.Term.{Term}
use Rattle.term_core.specs.declared.direction.Direction.{Direction}
use Rattle.term_core.specs.declared.direction.Direction.TheVariants.{In, Out}
use Rattle.term_core.specs.declared.flow.FlowKind.{FlowKind}
use Rattle.term_core.specs.declared.flow.FlowKind.TheVariants.{Read, Write, Rw, Ctl}
use Rattle.term_core.specs.declared.space.ClassSpace.{ClassSpace}
use Rattle.plan_core.specs.declared.class.ClassPlan.{ClassPlan}
use Rattle.plan_core.specs.declared.flow.DepPlan.{DepPlan}
use Rattle.plan_core.specs.declared.flow.FlowPlan.{FlowPlan}
use Rattle.plan_core.specs.declared.shape.Shape.{Shape}
use Rattle.plan_core.specs.declared.target.Target.{Target}
use Rattle.plan_core.specs.declared.target.Target.TheVariants.{Task, Element, New, Null}
use Rattle.plan_core.specs.Closed.{is_closed_option, is_span}
use Rattle.plan_core.specs.Kinds.{kind_of, is_control, is_data}
use Rattle.plan_core.specs.Targets.{exists_target, has_datatype}

-- the dependences of a flow in this direction
abbrev pub dependences : Direction → FlowPlan → List DepPlan
dependences In f = f.ins
dependences Out f = f.outs

-- a CTL flow orders tasks: its targets are CTL flows of tasks
abbrev pub may_order : List ClassPlan → Target → Bool
may_order classes (Task class flow args) = is_control (kind_of classes class flow)
may_order classes (Element coll indices) = false
may_order classes New = false
may_order classes Null = false

-- a tile comes from a flow with a tile of one task (not of a range of tasks), or from an element, or is new; or there
-- is none
abbrev pub may_read : List ClassPlan → Target → Bool
may_read classes (Task class flow args) = is_data (kind_of classes class flow) && not (list_any is_span args)
may_read classes (Element coll indices) = true
may_read classes New = true
may_read classes Null = true

-- a tile that is only written comes from an element, or is new
abbrev pub may_start : Target → Bool
may_start (Task class flow args) = false
may_start (Element coll indices) = true
may_start New = true
may_start Null = false

-- a tile goes to flows with a tile or to an element, or is dropped
abbrev pub may_send : List ClassPlan → Target → Bool
may_send classes (Task class flow args) = is_data (kind_of classes class flow)
may_send classes (Element coll indices) = true
may_send classes New = false
may_send classes Null = true

-- whether an in dependence of a flow of this kind may have the target
abbrev pub is_in_target : List ClassPlan → FlowKind → Target → Bool
is_in_target classes Read t = may_read classes t
is_in_target classes Write t = may_start t
is_in_target classes Rw t = may_read classes t
is_in_target classes Ctl t = may_order classes t

-- whether an out dependence of a flow of this kind may have the target
abbrev pub is_out_target : List ClassPlan → FlowKind → Target → Bool
is_out_target classes Read t = may_send classes t
is_out_target classes Write t = may_send classes t
is_out_target classes Rw t = may_send classes t
is_out_target classes Ctl t = may_order classes t

-- whether a second target, if there is one, has a guard and passes
abbrev pub is_second : (Target → Bool) → Option Term → Option Target → Bool
is_second passes guard None = true
is_second passes guard (Some t) = is_some guard && passes t

-- whether the targets of a dependence pass, and its guard names only locals among this many
abbrev pub is_dependence : ℕ → (Target → Bool) → DepPlan → Bool
is_dependence locals passes d = is_closed_option locals d.guard && passes d.yes && is_second passes d.guard d.no

-- whether a flow of this kind may have the datatype, given how many there are; a CTL flow has none, which counts as 0
abbrev pub is_datatype : ℕ → FlowKind → ℕ → Bool
is_datatype types Read n = nat_lt n types
is_datatype types Write n = nat_lt n types
is_datatype types Rw n = nat_lt n types
is_datatype types Ctl n = n == 0

-- whether a target exists, has the flow's datatype, and may be that of an in dependence
abbrev pub is_source : List ClassPlan → List ClassSpace → List Shape → ℕ → FlowPlan → Target → Bool
is_source classes spaces colls locals f t =
    exists_target classes spaces colls locals t && has_datatype classes colls f.datatype t
    && is_in_target classes f.kind t

-- whether a target exists, has the flow's datatype, and may be that of an out dependence
abbrev pub is_destination : List ClassPlan → List ClassSpace → List Shape → ℕ → FlowPlan → Target → Bool
is_destination classes spaces colls locals f t =
    exists_target classes spaces colls locals t && has_datatype classes colls f.datatype t
    && is_out_target classes f.kind t

-- whether a flow is well made, in a class with this many locals. Its datatype is one of this many, and it has at most
-- 16 dependences, each with targets that it may have.
abbrev pub is_flow : List ClassPlan → List ClassSpace → List Shape → ℕ → ℕ → FlowPlan → Bool
is_flow classes spaces colls types locals f =
    is_datatype types f.kind f.datatype
    && nat_le (length f.ins + length f.outs) most_dependences
    && list_all (is_dependence locals (is_source classes spaces colls locals f)) f.ins
    && list_all (is_dependence locals (is_destination classes spaces colls locals f)) f.outs
