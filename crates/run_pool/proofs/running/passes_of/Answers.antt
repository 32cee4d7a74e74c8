use Rattle.std.proofs.Common.{◌≡◌, ◌∙◌, [], ◌∷◌, ◌++◌, length, length-append, map, ap, sym, subst, inl, inr, refl, arith, append_assoc, Result, Ok, Err, OnErr}
use Rattle.std.specs.Prelude.{IsSome}
use Rattle.ptg_base.specs.Lists.{IsIn}
use Rattle.dep_table.specs.Views.{PassView}
use Rattle.run_pool.specs.declared.desk.Desk.{Desk}
use Rattle.run_pool.specs.Seated.{IsDone, pass_on}
use Rattle.run_pool.proofs.running.passes_of.Goals as goal

on_err : {A E P : Type 0} (r : Result A E) → P → OnErr r P
on_err (Ok a) p = tt
on_err (Err e) p = p

pub unwrap-requires : goal.unwrap-requires
unwrap-requires c =
    let d = c.in-Some.desk in
    let among = c.loop-desk.invariant.left d (subst (IsIn d) (sym c.in-Some.ensures.steps.0) (inl refl)) in
    subst (λ (x : Desk PassView). IsSome x.answer) (sym c.into_inner-pass.ensures) (c.requires.answered d among)

pub returns-in_err-_worked-clause-refused : goal.returns-in_err-_worked-clause-refused
returns-in_err-_worked-clause-refused c =
    let d = c.in-Some.desk in
    let among = c.loop-desk.invariant.left d (subst (IsIn d) (sym c.in-Some.ensures.steps.0) (inl refl)) in
    on_err c.from_residual.result (record {
      desk = d;
      among = among;
      refused = c.in_err-_worked.field-0.0;
      answer = let a = ap (λ (x : Desk PassView). x.answer) c.into_inner-pass.ensures in cc (a, c.unwrap.ensures, c.in_err-_worked.was);
    })

pub loop-desk-preserved : goal.loop-desk-preserved
loop-desk-preserved c =
    let d = c.in-Some.desk in
    let rest = c.next.new.self.rest.items in
    let steps = c.in-Some.ensures.steps.0 in
    let inner = c.into_inner-pass.ensures in
    let on : c.into_inner-pass.result.pass ≡ pass_on d = ap (λ (x : Desk PassView). x.pass) inner in
    let answered : IsDone d = record {
      worked = c.in_ok-_worked._worked;
      answer = let a = ap (λ (x : Desk PassView). x.answer) inner in cc (a, c.unwrap.ensures, c.in_ok-_worked.was);
    } in
    let pushed = c.push_reserved.ensures.items in
    let passes = c.loop-desk.passes.items in
    record {
      can_next = tt;
      is_finite = tt;
      passes =
          ap (λ ps. ps ++ map pass_on rest) pushed
          ∙ (append_assoc passes (c.into_inner-pass.result.pass ∷ []) (map pass_on rest)
          ∙ (ap (λ p. passes ++ (p ∷ map pass_on rest)) on
          ∙ (ap (λ ds. passes ++ map pass_on ds) (sym steps) ∙ c.loop-desk.invariant.passes)));
      room = omega (
        arith,
        ap length steps,
        ap length pushed
            ∙ length-append passes (c.into_inner-pass.result.pass ∷ []),
        c.push_reserved.ensures.capacity,
        c.loop-desk.invariant.room,
      );
      done = λ e i. elim (c.loop-desk.invariant.done e i) [
        | inl before ↦ inl before
        | inr later ↦ elim (subst (IsIn e) steps later) [ inl same ↦ inl (subst IsDone (sym same) answered) | inr further ↦ inr further ]
      ];
      left = λ e i. c.loop-desk.invariant.left e (subst (IsIn e) (sym steps) (inr i));
    }
