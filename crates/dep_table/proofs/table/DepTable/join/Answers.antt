use Rattle.std.proofs.Common.{ap, ◌∙◌, subst, sym}
use Rattle.table_rule.specs.Plays.{HasName}
use Rattle.dep_table.specs.Views.{PassView, shown}
use Rattle.dep_table.proofs.table.DepTable.join.Goals as goal

pub join-requires-clause-of : goal.join-requires-clause-of
join-requires-clause-of c = (
  ap (λ (p : PassView). p.table) c.pass.view_is ∙ c.requires.of.0,
  ap (λ (p : PassView). p.table) c.other.view_is ∙ c.requires.of.1,
)

pub join-requires-clause-named : goal.join-requires-clause-named
join-requires-clause-named c = subst (λ (p : PassView). HasName (shown p)) (sym c.pass.view_is) c.requires.named

pub join-requires-clause-no_shard : goal.join-requires-clause-no_shard
join-requires-clause-no_shard c = ap (λ (p : PassView). p.me.1) c.other.view_is ∙ c.requires.no_shard
