-- The datatypes of flows and collections: the name of its type decides how many elements a tile has. Source: the JDF
-- documentation; that a flow has the type of its first dependence is this project's own choice.
-- Carried by: `flow`.
-- Tested by: `type_faults.txt`, `type_datatypes.txt`.
use Rattle.std.specs.Prelude.{ℕ, suc, Bool, not, ◌&&◌, List, [], ◌∷◌, Option, Some, None, is_none, option_map, position, if◌then◌else◌}
use Rattle.std.specs.Option.{option_map_or}
use Rattle.std.specs.Str.{bytes_eq}
use Rattle.term_core.specs.declared.flow.FlowKind.{FlowKind}
use Rattle.coll_data.specs.Data.{Data}
use Rattle.coll_data.specs.Types.{default_type}
use Rattle.type_rules.specs.TreesAndFaults.{JdfFault, Word, DepTree, FlowTree, Datatype}
use Rattle.type_rules.specs.Faults.{fault_if}
use Rattle.type_rules.specs.Kinds.{is_control}

-- whether a type of the data has this name
abbrev pub type_is : List ℕ → List ℕ × ℕ → Bool
type_is name type = bytes_eq type.0 name

-- the number of a type of the data: DEFAULT is 0, and the others follow in order
abbrev pub type_number : Data → List ℕ → Option ℕ
type_number d name = if bytes_eq name default_type then Some 0 else option_map suc (position (type_is name) d.types)

-- the number of the datatype with this name, if a flow of this kind may have it: a CTL flow has DEFAULT alone
abbrev pub allowed_type : Data → FlowKind → List ℕ → Option ℕ
allowed_type d kind name = if is_control kind && not (bytes_eq name default_type) then None else type_number d name

-- the datatype of a dependence: the one written on it, or DEFAULT
abbrev pub type_of_written : Option Word → List ℕ
type_of_written written = option_map_or (λ (w : Word). w.text) written default_type

-- the fault of a written datatype that a flow of this kind may not have
abbrev pub written_faults : Data → FlowKind → Option Word → List JdfFault
written_faults d kind None = []
written_faults d kind (Some w) = fault_if (is_none (allowed_type d kind w.text)) w.spot Datatype

-- the datatype written on the first dependence of a flow
abbrev pub first_written : List DepTree → Option Word
first_written [] = None
first_written (dep ∷ deps) = dep.datatype

-- the type of a flow's tiles: that of its first dependence, or DEFAULT; the data may have no such type
abbrev pub type_of_flow : FlowTree → List ℕ
type_of_flow flow = type_of_written (first_written flow.deps)

-- the number of the type of a flow, which is 0 for a CTL flow
abbrev pub flow_type : Data → FlowTree → Option ℕ
flow_type d flow = allowed_type d flow.kind (type_of_flow flow)
