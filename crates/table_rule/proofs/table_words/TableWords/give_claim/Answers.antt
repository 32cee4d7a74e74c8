use Rattle.std.proofs.Common.{arith}
use Rattle.table_rule.proofs.StepsAt.{claims_at}
use Rattle.table_rule.proofs.table_words.TableWords.give_claim.Goals as goal

pub store-requires : goal.store-requires
store-requires g c =
    let sized = c.args.self.now.sized in
    let r = c.requires in
    let at = c.turn_index-word.ensures in (
      r.of,
      omega (arith, at, sized.0, r.within),
      claims_at _ _ _ _ _ _ r.event.0 r.event.1 r.event.2 _ _ _ _ _ at r.claims,
    )
