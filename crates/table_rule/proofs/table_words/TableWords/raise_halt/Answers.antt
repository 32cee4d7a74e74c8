use Rattle.std.proofs.Common.{arith, ap, ◌∙◌}
use Rattle.table_rule.specs.Words.{halt_word}
use Rattle.table_rule.proofs.StepsAt.{raises_halt_at}
use Rattle.table_rule.proofs.table_words.TableWords.raise_halt.Goals as goal

pub store-requires : goal.store-requires
store-requires c =
    let w = c.args.self.now in
    let at = c.halt_index-word.ensures ∙ ap halt_word w.counted in
    (c.requires.of, omega (arith, at, w.sized.0, w.sized.3), raises_halt_at _ _ _ _ _ at c.requires.late)
