use Rattle.std.proofs.Common.{◌≡◌, ℕ, FitsSigned, w64, rules, arith, ap, sym, ◌∙◌, length, take, get_or, pos}
use Rattle.std.proofs.lemmas.Int.{to_z-of_z}
use Rattle.std.proofs.lemmas.List.{same_from_push}
use Rattle.range_space.proofs.Nesting.{cut, found_deeper, found_past, none_past}
use Rattle.range_space.proofs.walk.+advance.Goals as goal
use Rattle.list_lemmas.proofs.Truth.{on_true_weaker, on_false_weaker}

pub returns-then-advance-clause-found : goal.returns-then-advance-clause-found
returns-then-advance-clause-found t c =
    let old = c.args.locals.now in
    let depth = c.args.depth in
    let e = c.in-Some.ensures.cases in
    let l = ap length e.0 in
    let k = cut old depth (omega arith) in
    rw e.0 (found_deeper _ _ old depth _ k _ c.if-advance.ensures.found)

-- the locals that are kept, and the one that is taken away
kept : (t : ℕ) (c : goal.After-first_past t) → (c.pop.new.self ≡ take c.args.depth c.args.locals.now)
    × (c.in-Some-pop.v ≡ get_or c.args.locals.now c.args.depth (pos 0))
kept t c =
    let old = c.args.locals.now in
    let depth = c.args.depth in
    let l = ap length c.in-Some.ensures.cases.0 in
    let k = cut old depth (omega arith) in
    same_from_push c.pop.new.self (take depth old) c.in-Some-pop.v (get_or old depth (pos 0))
    (sym (sym k.before ∙ sym c.if-advance.ensures.truncated ∙ c.in-Some-pop.ensures))

pub returns-in-Some-pop-clause-found : goal.returns-in-Some-pop-clause-found
returns-in-Some-pop-clause-found t c =
    let old = c.args.locals.now in
    let depth = c.args.depth in
    let e = c.in-Some.ensures.cases in
    let l = ap length e.0 in
    let k = cut old depth (omega arith) in
    let u = kept t c in
    let g : FitsSigned w64 c.in-Some-pop.v = search rules in
    let f = rw (u.0, u.1) at (simp to_z-of_z at c.first_past.ensures.found) in
    rw e.0 (on_true_weaker c.first_past.result (found_past _ _ old depth _ k c.if-advance.ensures.none _) f)

pub returns-in-Some-pop-clause-none : goal.returns-in-Some-pop-clause-none
returns-in-Some-pop-clause-none t c =
    let old = c.args.locals.now in
    let depth = c.args.depth in
    let e = c.in-Some.ensures.cases in
    let l = ap length e.0 in
    let k = cut old depth (omega arith) in
    let u = kept t c in
    let g : FitsSigned w64 c.in-Some-pop.v = search rules in
    let f = rw (u.0, u.1) at (simp to_z-of_z at c.first_past.ensures.none) in
    rw e.0 (on_false_weaker c.first_past.result (none_past c.in-Some.def.now c.in-Some.inner.now old depth _ k c.if-advance.ensures.none) f)

pub returns-in-Some-pop-clause-truncated : goal.returns-in-Some-pop-clause-truncated
returns-in-Some-pop-clause-truncated t c =
    let u = kept t c in
    on_false_weaker c.first_past.result (λ e. e ∙ u.0) c.first_past.ensures.same
