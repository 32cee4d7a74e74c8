use Rattle.run_laws.proofs.Traces.{faulty_exactly, trace_exactly}
use Rattle.run_laws.proofs.trace_texts.every_text_has_a_fault_or_is_a_trace.Goals as goal

pub returns-clause-either : goal.returns-clause-either
returns-clause-either c = λ P G text con. faulty_exactly P G con text

pub returns-clause-trace : goal.returns-clause-trace
returns-clause-trace c = λ P G text con. trace_exactly P G con text
