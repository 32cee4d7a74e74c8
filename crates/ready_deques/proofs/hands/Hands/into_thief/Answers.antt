use Rattle.std.proofs.Common.{ap, ◌∙◌}
use Rattle.ready_deques.specs.Hands.{Account}
use Rattle.ready_deques.proofs.Accounts.{has_part}
use Rattle.ready_deques.proofs.Settled.{thief_deque, has_thief}
use Rattle.ready_deques.proofs.hands.Hands.into_thief.Goals as goal

pub returns-clause-deque : goal.returns-clause-deque
returns-clause-deque c =
    let within = has_thief _ c.self.inside.own _ _ _ c.self.view_is c.requires in
    rw (← c.self.view_is) (thief_deque c.self.inside.thieves.items c.args.worker _ within c.swap_remove.ensures.value)

pub returns-clause-parts : goal.returns-clause-parts
returns-clause-parts c = λ other.
    let within = has_thief _ c.self.inside.own _ _ _ c.self.view_is c.requires in
    has_part _ _ c.self.inside.thieves.items _ c.self.invariant.3
    (λ same. other (same ∙ ap (λ (a : Account). a.number) c.self.view_is)) within c.swap_remove.ensures.value
