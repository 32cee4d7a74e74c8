use Rattle.run_laws.proofs.Texts.{one_list}
use Rattle.run_laws.proofs.trace_texts.a_text_is_that_of_one_list.Goals as goal

pub returns : goal.returns
returns c = one_list
