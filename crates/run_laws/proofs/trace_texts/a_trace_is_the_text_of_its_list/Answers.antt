use Rattle.run_laws.proofs.Traces.{trace_is_list}
use Rattle.run_laws.proofs.trace_texts.a_trace_is_the_text_of_its_list.Goals as goal

pub returns : goal.returns
returns c = λ P G text tasks trace. trace_is_list P G text tasks trace
