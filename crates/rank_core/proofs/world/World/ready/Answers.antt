use Rattle.std.proofs.Common.{◌≡◌, ◌<◌, sym, subst}
use Rattle.std.proofs.lemmas.Option.{IfSome_then}
use Rattle.ptg_base.specs.Task.{Task}
use Rattle.flow_meaning.specs.Machine.{MayClaim}
use Rattle.rank_core.specs.World.{rank_of}
use Rattle.rank_core.specs.Views.{WorldView}
use Rattle.rank_core.proofs.Kept.{best_may, if_none, none_may, stays}
use Rattle.rank_core.proofs.world.World.ready.Goals as goal

pub invariant_of-self : goal.invariant_of-self
invariant_of-self c =
    let near = subst (λ (w : WorldView). c.args.rank < w.ranks) (sym c.self.view_is) c.requires in
    stays c.self.inside.matched.now c.self.inside.given c.self.inside.history.state c.self.inside.ranks.items
    c.self.inside.bench c.self.inside.mail c.self.invariant c.args.rank c.best_at.new.ranks.items near
    c.best_at.ensures.same

pub returns-clause-some : goal.returns-clause-some
returns-clause-some c =
    let near = subst (λ (w : WorldView). c.args.rank < w.ranks) (sym c.self.view_is) c.requires in
    IfSome_then c.best_at.result c.best_at.ensures.some
    (λ t best. subst (λ (w : WorldView). MayClaim w.plan w.state.machine t × (rank_of w.plan w.ranks t ≡ c.args.rank))
    c.self.view_is
    (best_may c.self.inside.matched.now c.self.inside.given c.self.inside.history.state c.self.inside.ranks.items
    c.self.inside.bench c.self.inside.mail c.self.invariant c.args.rank t near best))

pub returns-clause-none : goal.returns-clause-none
returns-clause-none c =
    let near = subst (λ (w : WorldView). c.args.rank < w.ranks) (sym c.self.view_is) c.requires in
    if_none c.best_at.result
    (λ none. subst (λ (w : WorldView). (t : Task) → rank_of w.plan w.ranks t ≡ c.args.rank
    → MayClaim w.plan w.state.machine t → ⊥) c.self.view_is
    (none_may c.self.inside.matched.now c.self.inside.given c.self.inside.history.state c.self.inside.ranks.items
    c.self.inside.bench c.self.inside.mail c.self.invariant c.args.rank near none)) c.best_at.ensures.none
