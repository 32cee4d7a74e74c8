use Rattle.std.proofs.Common.{arith, ap, ◌∙◌}
use Rattle.table_rule.specs.Words.{live_word}
use Rattle.table_rule.proofs.SendingAt.{raises_live_at}
use Rattle.table_rule.proofs.table_words.TableWords.raise_live.Goals as goal

pub fetch_add-found-requires : goal.fetch_add-found-requires
fetch_add-found-requires c =
    let w = c.args.self.now in
    let at = c.live_index-word.ensures ∙ ap live_word w.counted in
    let r = c.requires in
    (r.of, omega (arith, at, w.sized.0, w.sized.3), raises_live_at _ _ _ _ _ at r.room r.named)
