use Rattle.std.proofs.Common.{arith}
use Rattle.table_rule.proofs.Splitting.{joins}
use Rattle.table_rule.proofs.table_words.TableWords.join.Goals as goal

pub join_seat-requires : goal.join_seat-requires
join_seat-requires c =
    let r = c.requires in
    (r.of.0, r.of.1, r.no_shard, omega (arith, c.args.self.now.sized.0), joins _ _ _ _ _ r.named)
