use Rattle.check_laws.proofs.Targets.{element_fits}
use Rattle.check_laws.proofs.Flows.{flow_fits, one_datatype}
use Rattle.check_laws.proofs.resolved_parts.a_flow_that_fits_has_no_fault.Goals as goal

pub returns : goal.returns
returns c = record {
  element = element_fits;
  flow = flow_fits;
  one_datatype = one_datatype;
}
