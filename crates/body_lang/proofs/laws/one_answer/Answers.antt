use Rattle.body_lang.proofs.Once.{one_body, one_fault, body_or_fault}
use Rattle.body_lang.proofs.laws.one_answer.Goals as goal

pub returns-clause-body : goal.returns-clause-body
returns-clause-body c = one_body

pub returns-clause-fault : goal.returns-clause-fault
returns-clause-fault c = one_fault

pub returns-clause-either : goal.returns-clause-either
returns-clause-either c = body_or_fault
