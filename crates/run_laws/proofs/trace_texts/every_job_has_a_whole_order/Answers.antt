use Rattle.run_laws.proofs.Growing.{some_whole_order}
use Rattle.run_laws.proofs.trace_texts.every_job_has_a_whole_order.Goals as goal

pub returns : goal.returns
returns c = λ P G con. some_whole_order P G con
