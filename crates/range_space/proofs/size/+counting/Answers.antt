use Rattle.std.proofs.Common.{◌≡◌, ◌∷◌, ◌++◌, [], rules, refl, ap, ◌∙◌, arith, FitsSigned, w64}
use Rattle.std.proofs.lemmas.Int.{to_z-of_z}
use Rattle.std.proofs.lemmas.List.{nil_from_length}
use Rattle.std.proofs.lemmas.Bool.Decides.{nat_tests}
use Rattle.std.proofs.lemmas.Result.{err_from_is_err_and}
use Rattle.range_space.proofs.Nesting.{popped}
use Rattle.range_space.proofs.Counting.{walk-bounds, walk-fault, stops_at_once, fault_at_prefix, fault_inside, one_more}
use Rattle.range_space.proofs.size.+counting.Goals as goal

pub count_from-returns-in-Err-clause-fault : goal.count_from-returns-in-Err-clause-fault
count_from-returns-in-Err-clause-fault t c =
    let b = rw c.as_slice.ensures.same at c.in-Err.ensures.fault in
    rw (c.in-Some.ensures.cases.0, walk-fault c.args.class c.in-Some.def.now c.in-Some.inner.now c.args.outer.now _ b, c.copy.ensures)
    (stops_at_once _ _ _ _ c.args.counts.now.tasks_at_most c.args.counts.now.prefixes_at_most refl)

pub count_from-returns-in-Ok-clause-ok : goal.count_from-returns-in-Ok-clause-ok
count_from-returns-in-Ok-clause-ok t c =
    let b = rw c.as_slice.ensures.same at c.in-Ok.ensures.steps in
    let last : c.in-Some.inner.now ≡ [] = nil_from_length _ (grind (arith, nat_tests)) in
    rw (c.in-Some.ensures.cases.0, walk-bounds c.args.class c.in-Some.def.now c.in-Some.inner.now c.args.outer.now _ b, last) c.count_last.ensures.ok

pub count_from-returns-in-Ok-clause-fault : goal.count_from-returns-in-Ok-clause-fault
count_from-returns-in-Ok-clause-fault t c =
    let b = rw c.as_slice.ensures.same at c.in-Ok.ensures.steps in
    let last : c.in-Some.inner.now ≡ [] = nil_from_length _ (grind (arith, nat_tests)) in
    rw (c.in-Some.ensures.cases.0, walk-bounds c.args.class c.in-Some.def.now c.in-Some.inner.now c.args.outer.now _ b, last) c.count_last.ensures.fault

pub count_from-returns-in-Ok-2-clause-ok : goal.count_from-returns-in-Ok-2-clause-ok
count_from-returns-in-Ok-2-clause-ok t c =
    let b = rw c.as_slice.ensures.same at c.in-Ok-2.ensures.steps in
    rw (c.in-Some.ensures.cases.0, walk-bounds c.args.class c.in-Some.def.now c.in-Some.inner.now c.args.outer.now _ b) c.count_among.ensures.ok

pub count_from-returns-in-Ok-2-clause-fault : goal.count_from-returns-in-Ok-2-clause-fault
count_from-returns-in-Ok-2-clause-fault t c =
    let b = rw c.as_slice.ensures.same at c.in-Ok-2.ensures.steps in
    rw (c.in-Some.ensures.cases.0, walk-bounds c.args.class c.in-Some.def.now c.in-Some.inner.now c.args.outer.now _ b) c.count_among.ensures.fault

pub count_among-returns-in_err-count_prefix-clause-fault : goal.count_among-returns-in_err-count_prefix-clause-fault
count_among-returns-in_err-count_prefix-clause-fault t c =
    let i = c.loop-v.invariant in
    let p = err_from_is_err_and c.from_residual.result c.from_residual.ensures.1 in
    rw (p.1, p.2) (fault_at_prefix _ _ _ _ c.args.class c.args.inner.now c.args.outer.now _ c.loop-v.v-iterator
    c.in-Some.v c.next.new.self c.in-Some.ensures.steps i.so_far _ c.in_err-count_prefix.ensures.fault)

pub count_among-returns-in_err-count_from-clause-fault : goal.count_among-returns-in_err-count_from-clause-fault
count_among-returns-in_err-count_from-clause-fault t c =
    let i = c.loop-v.invariant in
    let g : FitsSigned w64 c.in-Some.v = search rules in
    let q : c.push.new.self ≡ c.args.outer.now ++ c.in-Some.v ∷ [] = (simp to_z-of_z at c.push.ensures) ∙ ap (λ l. l ++ c.in-Some.v ∷ []) i.same_values in
    let f = rw q at c.in_err-count_from.ensures.fault in
    let p = err_from_is_err_and c.from_residual-in_err-count_from.result c.from_residual-in_err-count_from.ensures.1 in
    rw (p.1, p.2) (fault_inside _ _ _ _ c.args.class c.args.inner.now c.args.outer.now _ c.loop-v.v-iterator c.in-Some.v
    c.next.new.self c.in-Some.ensures.steps i.so_far _ _ c.in_ok-count_prefix.ensures.ok _ f)

pub count_among-loop-v-preserved : goal.count_among-loop-v-preserved
count_among-loop-v-preserved t c =
    let i = c.loop-v.invariant in
    let g : FitsSigned w64 c.in-Some.v = search rules in
    let q : c.push.new.self ≡ c.args.outer.now ++ c.in-Some.v ∷ [] = (simp to_z-of_z at c.push.ensures) ∙ ap (λ l. l ++ c.in-Some.v ∷ []) i.same_values in
    let w = rw q at c.in_ok-count_from.ensures.ok in
    let r = rw (c.in_ok-count_from.ensures.same ∙ q) at c.pop.ensures in
    record {
      can_next = tt;
      is_finite = tt;
      same_values = popped _ _ _ _ r;
      so_far = one_more _ _ _ _ c.args.class c.args.inner.now c.args.outer.now _ c.loop-v.v-iterator c.in-Some.v
          c.next.new.self c.in-Some.ensures.steps i.so_far _ _ c.in_ok-count_prefix.ensures.ok _ _ w;
    }
