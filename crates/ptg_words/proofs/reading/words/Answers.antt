use Rattle.std.proofs.Common.{◌∙◌, subst, sym, ap}
use Rattle.std.specs.List.{All}
use Rattle.ptg_words.specs.Words.{IsProper}
use Rattle.ptg_words.specs.Readings.{texts}
use Rattle.ptg_words.proofs.reading.words.Goals as goal

pub command-requires : goal.command-requires
command-requires c = subst (All IsProper) (sym (ap texts c.as_slice.ensures.value ∙ c.in_ok-words.ensures.found.0)) c.in_ok-words.ensures.found.1
