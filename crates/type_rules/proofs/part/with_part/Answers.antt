use Rattle.std.proofs.Common.{◌++◌, [], ◌∷◌}
use Rattle.type_rules.specs.Returns.{both}
use Rattle.type_rules.proofs.Joins.{still_err, of_pushed}
use Rattle.type_rules.proofs.part.with_part.Goals as goal

pub returns-in-Err : goal.returns-in-Err
returns-in-Err g c p q fs gs h k = still_err c.in-Err.refusal (both (λ x y. (x, y)) p q)
    (both (λ xs x. xs ++ x ∷ []) p q) (fs ++ gs) (c.in-Err.ensures p q fs gs h k)

pub returns-in_ok-push-in-Ok : goal.returns-in_ok-push-in-Ok
returns-in_ok-push-in-Ok g c p q fs gs h k =
    of_pushed c.in-Ok.parts c.push.new.self c.in-Ok.part p q (fs ++ gs) (c.in-Ok.ensures p q fs gs h k)
    c.in_ok-push-in-Ok.ensures.ok
