use Rattle.ptg_words.proofs.CallerLemmas.{one_command}
use Rattle.word_laws.proofs.Commands.{command_or_usage}
use Rattle.word_laws.proofs.laws.words_form_one_command.Goals as goal

pub returns : goal.returns
returns c = record { one = one_command; never_both = λ words order o u. o.breaks_no_rule u; some = command_or_usage }
