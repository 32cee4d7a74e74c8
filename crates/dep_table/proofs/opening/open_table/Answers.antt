use Rattle.std.proofs.Common.{subst}
use Rattle.table_rule.specs.Opening.{AreOpeningWords}
use Rattle.dep_table.proofs.Opened.{opened}
use Rattle.dep_table.proofs.opening.open_table.Goals as goal

pub lay-requires-clause-opening : goal.lay-requires-clause-opening
lay-requires-clause-opening c =
    opened c.args.job c.in_ok-words.words.items c.args.shards.items c.plan_is_consistent.ensures c.requires.count.0 c.requires.count.1
    (subst (λ n. AreOpeningWords c.args.job.shards n c.in_ok-words.words.items) c.roots.ensures c.in_ok-words.ensures) c.requires.shards c.requires.spares
