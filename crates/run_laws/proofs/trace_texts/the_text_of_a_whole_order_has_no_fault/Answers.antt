use Rattle.trace_core.proofs.CallerLemmas.{faultless, whole_all, whole_may}
use Rattle.run_laws.proofs.Texts.{spelled_text}
use Rattle.run_laws.proofs.Texts.{whole_length}
use Rattle.trace_core.specs.Text.{trace_text}
use Rattle.run_laws.proofs.trace_texts.the_text_of_a_whole_order_has_no_fault.Goals as goal

pub returns : goal.returns
returns c = λ P G ts f con w rows le fault.
    faultless P G (trace_text P ts) ts le (spelled_text P ts rows (whole_length P G con ts w)) (whole_may P G con ts w) (whole_all P G con ts w) f fault
