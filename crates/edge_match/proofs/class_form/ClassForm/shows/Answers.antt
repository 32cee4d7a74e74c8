use Rattle.std.proofs.Common.{sym, subst}
use Rattle.list_lemmas.proofs.Truth.{on_true_weaker}
use Rattle.term_core.specs.ValueBounds.{AreSmall}
use Rattle.plan_core.specs.declared.plan.Plan.{Plan}
use Rattle.edge_match.specs.Harmless.{IsHarmless}
use Rattle.edge_match.proofs.class_form.ClassForm.shows.Goals as goal

pub returns : goal.returns
returns c =
    let form = c.args.self.now in
    let task = c.args.task.now in
    let shown = subst (λ (P : Plan). IsHarmless P form.class) c.requires.plan (form.shown c.if-not-self.false) in
    on_true_weaker c.are_small.result
    (λ (small : AreSmall task.locals.now). shown task.task.now (sym c.requires.class) (subst AreSmall task.are_locals small))
    c.are_small.ensures
