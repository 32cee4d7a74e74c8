use Rattle.type_rules.proofs.Joins.{still_err, of_both}
use Rattle.type_rules.proofs.Ways.{dep_from}
use Rattle.type_rules.proofs.dependence.dependence.Goals as goal

pub returns-in-Err : goal.returns-in-Err
returns-in-Err c =
    still_err c.in-Err.refusal _ _ _ (c.in-Err.ensures _ _ _
    (c.join-known.ensures _ _ _ _ c.option_term.ensures
    (c.join-targets.ensures _ _ _ _ c.target.ensures c.second.ensures)) c.type_rules.ensures)

pub returns-in-Ok : goal.returns-in-Ok
returns-in-Ok c =
    of_both dep_from c.in-Ok.guard c.in-Ok.targets _ _ _
    (c.in-Ok.ensures _ _ _ (c.join-known.ensures _ _ _ _ c.option_term.ensures
    (c.join-targets.ensures _ _ _ _ c.target.ensures c.second.ensures)) c.type_rules.ensures)
