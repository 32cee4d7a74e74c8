use Rattle.type_rules.proofs.Joins.{still_err, of_both}
use Rattle.type_rules.proofs.Ranges.{range_from}
use Rattle.type_rules.proofs.argument.range.Goals as goal

pub returns-in-Err : goal.returns-in-Err
returns-in-Err c = still_err c.in-Err.refusal _ _ _
    (c.in-Err.ensures _ _ _ _ c.term_of-2.ensures
    (c.join-rest.ensures _ _ _ _ c.term_of.ensures c.option_term.ensures))

pub returns-in-Ok : goal.returns-in-Ok
returns-in-Ok c = of_both range_from c.in-Ok.lo c.in-Ok.rest _ _ _
    (c.in-Ok.ensures _ _ _ _ c.term_of-2.ensures
    (c.join-rest.ensures _ _ _ _ c.term_of.ensures c.option_term.ensures))
