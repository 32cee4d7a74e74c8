use Rattle.std.proofs.Common.{arith, ap, ◌∙◌}
use Rattle.table_rule.specs.Words.{stamp_word}
use Rattle.table_rule.proofs.StepsAt.{draws_at}
use Rattle.table_rule.proofs.table_words.TableWords.draw_stamp.Goals as goal

pub fetch_add-requires : goal.fetch_add-requires
fetch_add-requires g c =
    let w = c.args.self.now in
    let r = c.requires in
    let at = c.stamp_index-word.ensures ∙ ap stamp_word w.counted in
    (r.of, omega (arith, at, w.sized.0, w.sized.3), draws_at _ _ _ r.event _ _ _ _ at r.runs r.none_yet r.named)
