-- Which targets a flow may have, given its kind and its datatype. Source: PaRSEC 2013 and the JDF documentation; the
-- codes, and that a flow and its targets have one datatype, are this project's own choice.
-- Carried by: `flow`.
-- Tested by: `type_faults.txt`, `type_datatypes.txt`.
use Rattle.std.specs.Prelude.{ℕ, Bool, true, false, not, ◌&&◌, ◌==◌, List, [], ◌++◌, Option, None, option_and_then, slice_get, if◌then◌else◌}
use Rattle.std.specs.Option.{option_map_or}
use Rattle.std.specs.Str.{bytes_eq}
use Rattle.term_core.specs.declared.direction.Direction.{Direction}
use Rattle.term_core.specs.declared.direction.Direction.TheVariants.{In, Out}
use Rattle.term_core.specs.declared.flow.FlowKind.{FlowKind}
use Rattle.jdf_tree.specs.declared.tree.TargetTree.TheVariants as tree
use Rattle.coll_data.specs.declared.coll.Coll.{Coll}
use Rattle.coll_data.specs.Data.{Data}
use Rattle.type_rules.specs.TreesAndFaults.{JdfFault, TargetTree, FlowTree, ClassTree, CtlMixed, WriteInput, NewSent, RangeInDataInput, TypeDiffers}
use Rattle.type_rules.specs.Faults.{fault_if}
use Rattle.type_rules.specs.Names.{Job, coll_named, class_of, flow_of}
use Rattle.type_rules.specs.Arguments.{ranges_faults}
use Rattle.type_rules.specs.Kinds.{is_control, is_write, are_mixed}
use Rattle.type_rules.specs.Datatypes.{type_number, type_of_flow}
use Rattle.type_rules.specs.Targets.{first_spot}

-- the flow that a target names, if it names a flow of a task that exists
abbrev pub flow_of_target : Job → TargetTree → Option FlowTree
flow_of_target job (tree.Task flow class args) =
    option_and_then (λ (c : ClassTree). flow_of c flow.text) (class_of job class.text)
flow_of_target job (tree.Element coll args) = None
flow_of_target job (tree.New spot) = None
flow_of_target job (tree.Null spot) = None

-- whether one of the two flows carries order alone and the other one a tile
abbrev pub mixes_flows : FlowKind → Option FlowTree → Bool
mixes_flows kind named = option_map_or (λ (f : FlowTree). are_mixed kind f.kind) named false

-- whether the target mixes order with tiles: a CTL flow has only CTL flows as targets, and no other flow has one; a
-- flow that doesn't exist mixes nothing
abbrev pub is_mixed : Job → FlowKind → TargetTree → Bool
is_mixed job kind (tree.Task flow class args) = mixes_flows kind (flow_of_target job (tree.Task flow class args))
is_mixed job kind (tree.Element coll args) = is_control kind
is_mixed job kind (tree.New spot) = is_control kind
is_mixed job kind (tree.Null spot) = is_control kind

-- whether the target cannot be the source of a tile that is only written: it is a flow of a task, or `NULL`
abbrev pub is_no_start : TargetTree → Bool
is_no_start (tree.Task flow class args) = true
is_no_start (tree.Element coll args) = false
is_no_start (tree.New spot) = false
is_no_start (tree.Null spot) = true

-- whether the target is a new tile
abbrev pub is_new : TargetTree → Bool
is_new (tree.Task flow class args) = false
is_new (tree.Element coll args) = false
is_new (tree.New spot) = true
is_new (tree.Null spot) = false

-- the faults of the ranges in a task target
abbrev pub task_ranges : TargetTree → List JdfFault
task_ranges (tree.Task flow class args) = ranges_faults RangeInDataInput args
task_ranges (tree.Element coll args) = []
task_ranges (tree.New spot) = []
task_ranges (tree.Null spot) = []

-- the faults of the target of an in dependence of a flow of this kind. A tile that is only written comes from no task
-- and is not `NULL`; a tile has one source.
abbrev pub in_faults : FlowKind → TargetTree → List JdfFault
in_faults kind t =
    fault_if (is_write kind && is_no_start t) (first_spot t) WriteInput
    ++ (if is_control kind then [] else task_ranges t)

-- the faults of the target of an out dependence: a tile cannot be sent to `NEW`
abbrev pub out_faults : TargetTree → List JdfFault
out_faults t = fault_if (is_new t) (first_spot t) NewSent

-- whether the tiles of the collection with this number are not of the type with this name
abbrev pub has_other_type : Data → List ℕ → ℕ → Bool
has_other_type d type n =
    option_map_or (λ (c : Coll). option_map_or (λ m. not (m == c.datatype)) (type_number d type) true)
    (slice_get d.colls n) false

-- whether a flow carries tiles of another type
abbrev pub is_other_flow : List ℕ → FlowTree → Bool
is_other_flow type f = not (is_control f.kind) && not (bytes_eq (type_of_flow f) type)

-- whether a target is a flow with tiles, or an element, of another type than this one
abbrev pub type_differs : Job → List ℕ → TargetTree → Bool
type_differs job type (tree.Task flow class args) =
    option_map_or (is_other_flow type) (flow_of_target job (tree.Task flow class args)) false
type_differs job type (tree.Element coll args) =
    option_map_or (has_other_type job.given type) (coll_named job coll.text) false
type_differs job type (tree.New spot) = false
type_differs job type (tree.Null spot) = false

-- the faults of the target of a dependence in this direction, given the kind of the flow
abbrev pub kind_faults : Direction → FlowKind → TargetTree → List JdfFault
kind_faults In kind t = in_faults kind t
kind_faults Out kind t = out_faults t

-- the faults of a target of this flow, in a dependence in this direction
abbrev pub rule_faults : Job → FlowTree → Direction → TargetTree → List JdfFault
rule_faults job flow direction t =
    (fault_if (is_mixed job flow.kind t) (first_spot t) CtlMixed
    ++ fault_if (not (is_control flow.kind) && type_differs job (type_of_flow flow) t) (first_spot t) TypeDiffers)
    ++ kind_faults direction flow.kind t
