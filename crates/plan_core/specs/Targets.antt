-- The rules that what a target names exists, and that its tiles have the flow's datatype. Source: the JDF
-- documentation.
-- Carried by: `Plan::new`.
-- Tested by: `check_codes.txt`, `type_places.txt`.
use Rattle.std.specs.Prelude.{ℕ, List, Option, Some, None, Bool, true, false, ◌&&◌, ◌==◌, length, is_some, slice_get}
use Rattle.std.specs.List.{list_all}
use Rattle.std.specs.Option.{option_map_or}
use Rattle.term_core.specs.Term.{Term}
use Rattle.term_core.specs.Value.{is_closed}
use Rattle.term_core.specs.declared.space.ClassSpace.{ClassSpace}
use Rattle.plan_core.specs.declared.class.ClassPlan.{ClassPlan}
use Rattle.plan_core.specs.declared.flow.FlowPlan.{FlowPlan}
use Rattle.plan_core.specs.declared.shape.Shape.{Shape}
use Rattle.plan_core.specs.declared.target.Target.{Target}
use Rattle.plan_core.specs.declared.target.Target.TheVariants.{Task, Element, New, Null}
use Rattle.plan_core.specs.Closed.{is_closed_arg}
use Rattle.plan_core.specs.Kinds.{flow_of}

-- how many dimensions a collection has: two if it has a number of columns
abbrev pub dimensions : Option ℕ → ℕ
dimensions None = 1
dimensions (Some cols) = 2

-- whether there is a class with this number, and it has this many parameters
abbrev pub has_params : List ClassSpace → ℕ → ℕ → Bool
has_params spaces class count =
    option_map_or (λ (s : ClassSpace). length s.params == count) (slice_get spaces class) false

-- whether there is a collection with this number, and it has this many dimensions
abbrev pub has_dimensions : List Shape → ℕ → ℕ → Bool
has_dimensions colls coll count = option_map_or (λ (s : Shape). dimensions s.cols == count) (slice_get colls coll) false

-- whether these are the indices of an element of the collection: one for each dimension, naming only this many locals
abbrev pub is_element : List Shape → ℕ → ℕ → List Term → Bool
is_element colls locals coll indices = has_dimensions colls coll (length indices) && list_all (is_closed locals) indices

-- whether what a target names exists: a flow of a class, with an argument for each parameter, or an element. Its
-- expressions name only this many locals.
abbrev pub exists_target : List ClassPlan → List ClassSpace → List Shape → ℕ → Target → Bool
exists_target classes spaces colls locals (Task class flow args) =
    is_some (flow_of classes class flow) && has_params spaces class (length args)
    && list_all (is_closed_arg locals) args
exists_target classes spaces colls locals (Element coll indices) = is_element colls locals coll indices
exists_target classes spaces colls locals New = true
exists_target classes spaces colls locals Null = true

-- whether a target's tiles have this datatype: that of its flow or collection; a new tile takes the flow's
abbrev pub has_datatype : List ClassPlan → List Shape → ℕ → Target → Bool
has_datatype classes colls datatype (Task class flow args) =
    option_map_or (λ (f : FlowPlan). f.datatype == datatype) (flow_of classes class flow) false
has_datatype classes colls datatype (Element coll indices) =
    option_map_or (λ (s : Shape). s.datatype == datatype) (slice_get colls coll) false
has_datatype classes colls datatype New = true
has_datatype classes colls datatype Null = true
