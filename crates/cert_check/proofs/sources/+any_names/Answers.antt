use Rattle.std.proofs.Common.{sym, ◌∙◌, refl}
use Rattle.std.proofs.lemmas.Bool.{false≢true}
use Rattle.cert_check.proofs.FarTasks.{names-here, names-later, names-none}
use Rattle.cert_check.proofs.sources.+any_names.Goals as goal

pub returns-in_default-held_target : goal.returns-in_default-held_target
returns-in_default-held_target t c = λ n.
    rw c.in-Some.ensures.cases.0
    (names-none c.args.env.now n c.args.far.now c.in-Some.d.now c.in-Some.later.now c.args.first_only c.any_names.result
    (sym c.in_default-held_target.ensures) (c.any_names.ensures n))

pub returns-then-names : goal.returns-then-names
returns-then-names t c = λ n.
    rw c.in-Some.ensures.cases.0 (
      λ q. names-here c.args.env.now n c.args.far.now c.in-Some.d.now c.in-Some.later.now c.args.first_only
          c.in-Some-held_target.target.now (sym c.in-Some-held_target.ensures) ((c.names.ensures n).0 c.if-names.true),
      λ h. refl,
    )

pub returns : goal.returns
returns t c = λ n.
    rw c.in-Some.ensures.cases.0
    (names-later c.args.env.now n c.args.far.now c.in-Some.d.now c.in-Some.later.now c.args.first_only
    c.any_names-2.result c.in-Some-held_target.target.now c.if-first_only.false (sym c.in-Some-held_target.ensures)
    (λ h. false≢true (sym c.if-names.false ∙ (c.names.ensures n).1 h)) (c.any_names-2.ensures n))
