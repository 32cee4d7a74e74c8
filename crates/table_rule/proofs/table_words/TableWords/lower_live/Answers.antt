use Rattle.std.proofs.Common.{arith, ap, ◌∙◌}
use Rattle.table_rule.specs.Words.{live_word}
use Rattle.table_rule.proofs.StepsAt.{lowers_at}
use Rattle.table_rule.proofs.table_words.TableWords.lower_live.Goals as goal

pub fetch_sub-found-requires : goal.fetch_sub-found-requires
fetch_sub-found-requires c =
    let w = c.args.self.now in
    let at = c.live_index-word.ensures ∙ ap live_word w.counted in
    (c.requires.of, omega (arith, at, w.sized.0, w.sized.3), lowers_at _ _ _ _ _ at c.requires.credit c.requires.named)
