use Rattle.std.proofs.Common.{length, ap, sym, ◌∙◌, subst}
use Rattle.rank_core.specs.Sound.{message_count}
use Rattle.rank_core.specs.World.{IsQuiet}
use Rattle.rank_core.proofs.Messages.{messages_counted}
use Rattle.rank_core.specs.Views.{WorldView}
use Rattle.rank_core.proofs.world.World.messages.Goals as goal

pub returns-clause-all : goal.returns-clause-all
returns-clause-all c = λ quiet.
    let i = c.self.inside in
    let k = c.self.invariant in
    let q = subst (λ (w : WorldView). IsQuiet w.plan w.state) (sym c.self.view_is) quiet in
    k.mail.sent ∙ messages_counted i.matched.now i.given (length i.ranks.items) k.consistent i.history.state k.sound q
    ∙ ap (λ (w : WorldView). message_count w.plan w.given w.ranks) c.self.view_is
