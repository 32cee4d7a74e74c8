use Rattle.std.proofs.Common.{arith}
use Rattle.table_rule.proofs.StepsAt.{ends_at}
use Rattle.table_rule.proofs.table_words.TableWords.give_end.Goals as goal

pub store-requires : goal.store-requires
store-requires c =
    let sized = c.args.self.now.sized in
    let at = c.turn_index-word.ensures in
    (c.requires.of, omega (arith, at, sized.0, c.requires.within), ends_at _ _ _ _ _ _ at c.requires.ends)
