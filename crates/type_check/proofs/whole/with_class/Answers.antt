use Rattle.std.proofs.Common.{◌∙◌, sym, Some}
use Rattle.type_rules.proofs.CallerLemmas.{of_both, still_err}
use Rattle.type_check.proofs.ClassesRead.{with_plan}
use Rattle.type_check.proofs.whole.with_class.Goals as goal

pub returns-in-Err : goal.returns-in-Err
returns-in-Err c p q fs gs h k = still_err c.in-Err.refusal _ _ _ (c.in-Err.ensures p q fs gs h k)

pub returns-in_ok-push-in-Ok-2 : goal.returns-in_ok-push-in-Ok-2
returns-in_ok-push-in-Ok-2 c p q fs gs h k =
    let r = of_both with_plan c.in-Ok.classes c.in-Ok.class _ _ _ (c.in-Ok.ensures p q fs gs h k) in
    (r.0 ∙ (λ i. Some (sym c.in_ok-push-in-Ok.ensures.ok i, sym c.in_ok-push-in-Ok-2.ensures.ok i)), r.1)
