use Rattle.std.proofs.Common.{arith}
use Rattle.table_rule.proofs.Splitting.{splits_one}
use Rattle.table_rule.proofs.table_words.TableWords.split.Goals as goal

pub split_seat-split-requires : goal.split_seat-split-requires
split_seat-split-requires c =
    let sized = c.args.self.now.sized in
    (c.requires.of, omega (arith, sized.0, sized.3), splits_one _ _ _ c.requires.one_name)
