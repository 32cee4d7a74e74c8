use Rattle.body_lang.proofs.CallerLemmas.{own_words, words_once}
use Rattle.body_laws.proofs.laws.traps_have_their_words.Goals as goal

pub returns-clause-own : goal.returns-clause-own
returns-clause-own c scope tokens x h = own_words scope h.tree x h.named

pub returns-clause-once : goal.returns-clause-once
returns-clause-once c scope tokens x h = words_once scope h.tree x h.named
