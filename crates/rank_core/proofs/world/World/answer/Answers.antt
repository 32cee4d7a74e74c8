use Rattle.std.proofs.Common.{sym, subst}
use Rattle.rank_core.specs.World.{IsQuiet}
use Rattle.rank_core.specs.Views.{WorldView}
use Rattle.rank_core.proofs.Keeping.{holds_an_end}
use Rattle.rank_core.proofs.world.World.answer.Goals as goal

pub outcome_of-requires-clause-end : goal.outcome_of-requires-clause-end
outcome_of-requires-clause-end c =
    let k = c.self.invariant in
    holds_an_end c.self.inside.matched.now c.self.inside.given c.self.inside.history.state c.self.inside.ranks.items
    k.consistent k.some_ranks k.sound k.shares (subst (λ (w : WorldView). IsQuiet w.plan w.state)
    (sym c.self.view_is) c.requires)
