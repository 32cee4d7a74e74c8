use Rattle.std.proofs.Common.{rules, ◌≡◌, ◌≢◌, suc, Some, ◌+◌, All, length, sym, ap, subst, ◌∙◌, arith}
use Rattle.std.specs.Prelude.{slice_get}
use Rattle.std.proofs.lemmas.List.Elements.{All-head, All-tail}
use Rattle.ready_deques.specs.Ends.{Owner}
use Rattle.ready_deques.specs.Hands.{Account}
use Rattle.ready_deques.proofs.Settled.{gathered, gathered_all}
use Rattle.ready_deques.proofs.hands.gather.Goals as goal

pub loop-hands-preserved : goal.loop-hands-preserved
loop-hands-preserved c =
    let i = c.loop-hands.invariant in
    let step = c.in-Some.ensures.steps.0 in
    let grown = c.absorb.ensures in
    let P : Account → Type 0 = λ o. (slice_get o.deques c.args.worker ≡ Some c.args.own.now.deque) × (o.number ≢ c.args.worker) in
    let rest = subst (All P) step i.5 in
    let more = c.into_thief.ensures.taken (λ same. (All-head P c.in-Some.hands _ rest).1 (sym same)) in
    let shorter : length c.loop-hands.hands-iterator.rest.items ≡ suc (length c.next.new.self.rest.items) = ap length step in
    let one = c.into_thief.ensures.parts (λ same. (All-head P c.in-Some.hands _ rest).1 (sym same)) in
    let part : c.absorb.new.self.parts ≡ c.loop-hands.own.parts + 1 = ap (λ (b : Owner). b.parts) grown ∙ ap (λ n. c.loop-hands.own.parts + n) one in (
      tt,
      tt,
      ap (λ (b : Owner). b.deque) grown ∙ i.2,
      ap (λ (b : Owner). b.pushed) grown ∙ i.3,
      omega arith,
      All-tail P c.in-Some.hands _ rest,
      λ id. gathered id c.args.worker _ _ _ _ _ _ c.in-Some.hands step more (ap (λ (b : Owner). b.taken) grown) (i.6 id),
    )

pub returns-clause-taken : goal.returns-clause-taken
returns-clause-taken c =
    let none : length c.loop-hands.hands-iterator.rest.items ≡ 0 = search rules in
    λ id. gathered_all id c.args.worker _ c.loop-hands.own.taken _ none (c.loop-hands.invariant.6 id)
