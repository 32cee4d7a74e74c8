use Rattle.std.proofs.Common.{◌≡◌, ◌<◌, None, sym, subst, ◌∙◌}
use Rattle.std.specs.Prelude.{option_to_list}
use Rattle.ready_deques.specs.Ends.{CountsWithSlot, Owner}
use Rattle.ready_deques.specs.Rule.{WasEmpty}
use Rattle.ready_deques.proofs.Slotted.{none_left, took, took_back}
use Rattle.ready_deques.proofs.slot.SlottedEnd.pop.Goals as goal

pub invariant_of-self : goal.invariant_of-self
invariant_of-self c =
    let own = c.self.inside in
    let here = sym c.take.ensures.value ∙ c.in-Some.is in (
      c.self.invariant.0,
      took own.end own.slot _ _ _ _ c.in-Some.id c.self.invariant.1 here c.take.ensures.after c.with-self-inside.ensures,
    )

pub returns-in_default-pop : goal.returns-in_default-pop
returns-in_default-pop c =
    let own = c.self.inside in
    let none : own.slot ≡ None = sym c.take.ensures.value ∙ c.in_default.is in
    let empty = c.in_default-pop.ensures in
    let left = none_left own.end own.slot _ _ c.self.invariant.0 c.self.invariant.1 none empty.1 in (
      (λ i. record {
        deque = (empty.0 i).deque;
        parts = (empty.0 i).parts;
        pushed = own.pushed.ids;
        taken = own.taken.ids;
      }) ∙ c.self.view_is,
      subst (λ (b : Owner). WasEmpty b.parts b.pushed b.taken) c.self.view_is left,
    )

pub invariant_of-self-2 : goal.invariant_of-self-2
invariant_of-self-2 c =
    let own = c.self.inside in
    let same = (sym c.take.ensures.value ∙ c.in_default.is) ∙ sym c.take.ensures.after in
    let kept =
    subst (λ o. CountsWithSlot own.end (option_to_list o) own.pushed.ids own.taken.ids) same c.self.invariant.1 in
    let moved = c.in-Some-pop.ensures in (
      subst (λ (b : Owner). 0 < b.parts) (sym moved) c.self.invariant.0,
      took_back own.end _ _ _ _ _ c.in-Some-pop.id kept moved c.with-self-inside-2.ensures,
    )
