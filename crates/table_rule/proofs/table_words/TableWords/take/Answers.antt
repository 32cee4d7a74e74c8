use Rattle.std.proofs.Common.{arith}
use Rattle.table_rule.proofs.StepsAt.{takes_at}
use Rattle.table_rule.proofs.table_words.TableWords.take.Goals as goal

pub swap-requires : goal.swap-requires
swap-requires g c =
    let sized = c.args.self.now.sized in
    let r = c.requires in
    let at = c.turn_index-word.ensures in
    (r.of, omega (arith, at, sized.0, r.within), takes_at _ _ _ _ r.event.0 r.event.1 _ _ _ _ at r.within r.named)
