use Rattle.list_lemmas.proofs.Texts.{other_word, word_first}
use Rattle.trace_core.proofs.cutting.after_word.Goals as goal

pub returns-in-Some : goal.returns-in-Some
returns-in-Some c = word_first c.args.bytes.now c.args.word.now c.in-Some.rest.now c.in-Some.ensures.cases.0 c.in-Some.ensures.cases.1

pub returns-in-None : goal.returns-in-None
returns-in-None c = other_word c.args.bytes.now c.args.word.now c.in-None.ensures.cases
