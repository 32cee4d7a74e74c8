use Rattle.std.proofs.Common.{rules, ◌≡◌, suc, ◌+◌, length, length-append, map, drop, All, Vec, Global, ap, sym, subst, ◌∙◌, arith}
use Rattle.std.specs.Prelude.{slice_get}
use Rattle.ready_deques.specs.Ends.{Owner, Thief, new_thief}
use Rattle.ready_deques.specs.Hands.{fresh}
use Rattle.ready_deques.proofs.Rows.{next, all_but_last, deque_at, deques_of_row, untaken_row, whole_row, each_more, HasPart, IsUntaken}
use Rattle.ready_deques.proofs.team.assemble.Goals as goal

row_of : (c : goal.After-len) → c.in-Some-pop.thieves.items ≡ map new_thief c.args.owners.items
row_of c = (all_but_last (λ (r : Vec Thief Global). r.items ≡ map new_thief c.args.owners.items) _ _ _ c.in-Some-pop.ensures.items c.loop-own.invariant.5).1

pub new-requires-clause-deque : goal.new-requires-clause-deque
new-requires-clause-deque c =
    let long : c.len.result ≡ length c.loop-own.hands.items = search rules in
    let at = next c.args.owners.items (length c.loop-own.hands.items) _ _ (c.loop-own.invariant.2 ∙ c.in-Some.ensures.steps.0) in
    deque_at c.args.owners.items _ _ _ (row_of c) (ap (λ n. slice_get c.args.owners.items n) long ∙ at.here)

pub new-requires-clause-none : goal.new-requires-clause-none
new-requires-clause-none c = subst (All IsUntaken) (sym (row_of c)) (untaken_row c.args.owners.items)

pub new-requires-clause-parts : goal.new-requires-clause-parts
new-requires-clause-parts c = subst (All HasPart) (sym (row_of c)) (whole_row c.args.owners.items)

pub loop-own-preserved : goal.loop-own-preserved
loop-own-preserved c =
    let i = c.loop-own.invariant in
    let owners = c.args.owners.items in
    let hands = c.loop-own.hands.items in
    let deques = map (λ (b : Owner). b.deque) owners in
    let step = c.in-Some.ensures.steps.0 in
    let at = next owners (length hands) _ _ (i.2 ∙ step) in
    let added = c.in_ok-push.ensures.items in
    let longer : length c.push.new.self.items ≡ length hands + 1 = ap length added ∙ length-append hands _ in
    let popped = c.in-Some-pop.ensures.items in
    let rows = all_but_last (λ (r : Vec Thief Global). r.items ≡ map new_thief owners) _ _ _ popped i.5 in
    let fewer : length c.loop-own.rows.items ≡ length c.pop.new.self.items + 1 = ap length popped ∙ length-append c.pop.new.self.items _ in
    let shorter : length c.loop-own.own-iterator.rest.items ≡ suc (length c.next.new.self.rest.items) = ap length step in
    let long : c.len.result ≡ length hands = search rules in
    let is = c.new.ensures ∙ (ap (λ r. fresh (map (λ (f : Thief). f.deque) r) c.len.result) rows.1
    ∙ (ap (λ ds. fresh ds c.len.result) (deques_of_row owners) ∙ ap (fresh deques) long)) in (
      tt,
      tt,
      ap (λ n. drop n owners) longer ∙ at.after,
      omega arith,
      omega arith,
      rows.0,
      each_more hands c.push.new.self.items c.new.result (fresh deques) added is i.6,
    )
