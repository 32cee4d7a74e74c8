use Rattle.word_laws.proofs.Reading.{stray_iff}
use Rattle.word_laws.proofs.laws.a_stray_option_has_no_form_of_the_verb.Goals as goal

pub returns : goal.returns
returns c = stray_iff
