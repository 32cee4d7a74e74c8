use Rattle.std.proofs.Common.{[], ap, ◌∙◌, arith}
use Rattle.ready_deques.specs.Hands.{Account}
use Rattle.ready_deques.specs.Rule.{HeldAtMost}
use Rattle.ready_deques.proofs.Accounts.{stolen, stolen_empty, keeps_deque, keeps_parts, same_deques, another, has_part, stay}
use Rattle.ready_deques.proofs.hands.Hands.steal.Goals as goal

pub take-requires : goal.take-requires
take-requires g c =
    let at = another _ _ c.self.inside.own _ _ c.self.view_is c.requires.another in
    omega (arith, has_part _ _ _ _ c.self.invariant.3 at.0 at.1 c.index_mut.ensures.value)

pub invariant_of-self : goal.invariant_of-self
invariant_of-self g c = stay _ _ _ _ _ _ _ c.index_mut.ensures.value (keeps_deque _ _ _ _ c.take.ensures) (keeps_parts _ _ _ _ c.take.ensures) c.self.invariant

pub returns-clause-taken : goal.returns-clause-taken
returns-clause-taken g c =
    let at = another _ _ c.self.inside.own _ _ c.self.view_is c.requires.another in
    rw (← c.self.view_is) (stolen _ _ _ c.self.inside.own _ _ _ _ at.0 at.1 c.index_mut.ensures.value c.take.ensures)

pub returns-clause-empty : goal.returns-clause-empty
returns-clause-empty g c =
    let at = another _ _ c.self.inside.own _ _ c.self.view_is c.requires.another in
    rw (← c.self.view_is) (stolen_empty _ _ _ c.self.inside.own _ _ (HeldAtMost 1 []) _ _ at.0 at.1 c.index_mut.ensures.value c.take.ensures)

pub returns-clause-same : goal.returns-clause-same
returns-clause-same g c = (
  ap (λ (a : Account). a.number) c.self.view_is,
  same_deques _ _ _ _ c.index_mut.ensures.value (keeps_deque _ _ _ _ c.take.ensures) ∙ ap (λ (a : Account). a.deques) c.self.view_is,
)
