use Rattle.std.proofs.Common.{sym, ◌∙◌, refl}
use Rattle.std.proofs.lemmas.Bool.{false≢true}
use Rattle.std.proofs.lemmas.List.{nil_from_length}
use Rattle.cert_check.proofs.levels.is_in_place.Goals as goal

pub returns-then-not-is_task : goal.returns-then-not-is_task
returns-then-not-is_task c =
    rw c.in-Some.ensures.cases.0 (λ q. absurd (false≢true q), λ l. absurd (false≢true (sym c.if-not-is_task.true ∙ c.is_task.ensures.1 l.0)))

pub returns-in_default-split_first : goal.returns-in_default-split_first
returns-in_default-split_first c =
    let e = nil_from_length c.in-Some.later.now c.in_default-split_first.ensures.cases in
    rw (c.in-Some.ensures.cases.0, e) (λ q. (c.is_task.ensures.0 c.if-not-is_task.false, tt), λ l. refl)

pub returns : goal.returns
returns c =
    rw (c.in-Some.ensures.cases.0, c.in-Some-split_first.ensures.cases.0) (
      λ q. (c.is_task.ensures.0 c.if-not-is_task.false, sym c.is_before.ensures ∙ q),
      λ l. c.is_before.ensures ∙ l.1,
    )
