-- The datatypes that are written on the dependences of a flow.
-- Carried by: law `a_flow_that_fits_has_no_fault`.
use Rattle.std.specs.Prelude.{◌≡◌}
use Rattle.ptg_base.specs.Lists.{IsIn}
use Rattle.type_rules.specs.TreesAndFaults.{DepTree, FlowTree}
use Rattle.type_rules.specs.Datatypes.{type_of_flow, type_of_written}

-- Each dependence of a flow has the datatype of the first one. A dependence on which none is written has DEFAULT. A
-- plan has one datatype for each flow, so this is a rule about the text alone.
abbrev pub HasOneDatatype : FlowTree → Type 0
HasOneDatatype flow = (dep : DepTree) → IsIn dep flow.deps → type_of_written dep.datatype ≡ type_of_flow flow
