use Rattle.std.proofs.Common.{arith, ap, ◌∙◌}
use Rattle.table_rule.specs.Words.{halt_word}
use Rattle.table_rule.proofs.StepsAt.{reads_halt_at}
use Rattle.table_rule.proofs.table_words.TableWords.read_halt.Goals as goal

pub load-requires : goal.load-requires
load-requires g c =
    let w = c.args.self.now in
    let at = c.halt_index-word.ensures ∙ ap halt_word w.counted in
    (c.requires.of, omega (arith, at, w.sized.0, w.sized.3), reads_halt_at _ _ c.requires.event _ _ _ _ at)
