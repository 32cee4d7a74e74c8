use Rattle.check_laws.proofs.Types.{one_name}
use Rattle.check_laws.proofs.resolved_parts.types_of_one_number_have_one_name.Goals as goal

pub returns : goal.returns
returns c = one_name
