use Rattle.check_laws.proofs.Resolved.{arguments_no_fault, indices_no_fault, option_no_fault}
use Rattle.check_laws.proofs.resolved_parts.what_is_resolved_has_no_fault.Goals as goal

pub returns : goal.returns
returns c = record {
  arguments = arguments_no_fault;
  indices = indices_no_fault;
  option = option_no_fault;
}
