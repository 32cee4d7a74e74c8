use Rattle.std.proofs.Common.{sym, subst}
use Rattle.dep_table.specs.ClosedTables.{ClosedView}
use Rattle.shard_meaning.specs.Calm.{HaveNoWork}
use Rattle.dep_table.proofs.Quiets.{holds_an_end}
use Rattle.dep_table.proofs.closed.Closed.outcome.Goals as goal

pub outcome_of-requires-clause-end : goal.outcome_of-requires-clause-end
outcome_of-requires-clause-end c =
    holds_an_end c.self.inside.job c.self.inside.records.records c.self.inside.shards.items c.self.invariant.ends
    (subst (λ (t : ClosedView). HaveNoWork t.shards) (sym c.self.view_is) c.requires)
