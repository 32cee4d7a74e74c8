use Rattle.data_laws.proofs.FirstCodes.{first_code_at_start_is, first_code_is}
use Rattle.data_laws.proofs.laws.the_first_code_is_the_fault.Goals as goal

pub returns-clause-later : goal.returns-clause-later
returns-clause-later c = first_code_is

pub returns-clause-start : goal.returns-clause-start
returns-clause-start c = first_code_at_start_is
