use Rattle.std.proofs.Common.{[], rules, sym, ◌∙◌, FitsSigned, w64}
use Rattle.std.proofs.lemmas.Int.{to_z-of_z}
use Rattle.range_space.proofs.Nesting.{first_of_among, first_of_value, none_of_among, none_of_value, found_here, none_here, others}
use Rattle.range_space.proofs.walk.+nesting.Goals as goal
use Rattle.list_lemmas.proofs.Truth.{on_true_weaker, on_false_weaker}

pub first-returns-in-Ok-clause-found : goal.first-returns-in-Ok-clause-found
first-returns-in-Ok-clause-found t c =
    let e = c.in-Some.ensures.cases.0 in
    let k = c.in-Span.is in
    let b = rw c.as_slice.ensures.same at c.in-Ok.ensures.steps in
    rw (e, k) (on_true_weaker c.first_among.result (first_of_among c.in-Span.range c.in-Some.inner.now c.args.locals.now _ _ b) c.first_among.ensures.found)

pub first-returns-in-Ok-clause-none : goal.first-returns-in-Ok-clause-none
first-returns-in-Ok-clause-none t c =
    let e = c.in-Some.ensures.cases.0 in
    let k = c.in-Span.is in
    let b = rw c.as_slice.ensures.same at c.in-Ok.ensures.steps in
    rw (e, k) (on_false_weaker c.first_among.result (none_of_among c.in-Span.range c.in-Some.inner.now c.args.locals.now [] _ b) c.first_among.ensures.none)

pub first-returns-in-Ok-number-clause-found : goal.first-returns-in-Ok-number-clause-found
first-returns-in-Ok-number-clause-found t c =
    let e = c.in-Some.ensures.cases.0 in
    let k = c.in-Value.is in
    let b = rw c.as_slice-in-Value.ensures.same at c.number.ensures in
    let g : FitsSigned w64 c.in-Ok-number.z = search rules in
    rw (e, k) (on_true_weaker c.first_with.result (first_of_value c.in-Value.e c.in-Some.inner.now c.args.locals.now _
    c.in-Ok-number.z (sym b ∙ c.in-Ok-number.is)) (simp to_z-of_z at c.first_with.ensures.found))

pub first-returns-in-Ok-number-clause-none : goal.first-returns-in-Ok-number-clause-none
first-returns-in-Ok-number-clause-none t c =
    let e = c.in-Some.ensures.cases.0 in
    let k = c.in-Value.is in
    let b = rw c.as_slice-in-Value.ensures.same at c.number.ensures in
    let g : FitsSigned w64 c.in-Ok-number.z = search rules in
    rw (e, k) (on_false_weaker c.first_with.result (none_of_value c.in-Value.e c.in-Some.inner.now c.args.locals.now []
    c.in-Ok-number.z (sym b ∙ c.in-Ok-number.is)) (simp to_z-of_z at c.first_with.ensures.none))

pub first_among-returns-then-first_with-clause-found : goal.first_among-returns-then-first_with-clause-found
first_among-returns-then-first_with-clause-found t c =
    let i = c.loop-v.invariant in
    let g : FitsSigned w64 c.in-Some.v = search rules in
    let f = rw i.same_locals at (simp to_z-of_z at c.if-first_with.ensures.found) in
    found_here c.args.inner.now c.args.locals.now _ i.in_steps.0 c.in-Some.v c.loop-v.v-iterator c.next.new.self
    i.none_behind i.in_steps.1 c.in-Some.ensures.steps _ f

pub first_among-loop-v-preserved : goal.first_among-loop-v-preserved
first_among-loop-v-preserved t c =
    let i = c.loop-v.invariant in
    let g : FitsSigned w64 c.in-Some.v = search rules in
    let f = rw i.same_locals at (simp to_z-of_z at c.if-first_with.ensures.none) in
    record {
      can_next = tt;
      is_finite = tt;
      same_locals = c.if-first_with.ensures.same ∙ i.same_locals;
      in_steps = (
        _,
        others c.args.inner.now c.args.locals.now _ i.in_steps.0 c.in-Some.v c.loop-v.v-iterator
            c.next.new.self i.none_behind i.in_steps.1 c.in-Some.ensures.steps,
      );
      none_behind = none_here c.args.inner.now c.args.locals.now _ i.in_steps.0 c.in-Some.v c.loop-v.v-iterator
          c.next.new.self i.none_behind i.in_steps.1 c.in-Some.ensures.steps f;
    }
