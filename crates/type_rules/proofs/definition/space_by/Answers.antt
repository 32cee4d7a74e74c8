use Rattle.type_rules.proofs.Joins.{still_err, of_both}
use Rattle.type_rules.proofs.Spaces.{space_from}
use Rattle.type_rules.proofs.definition.space_by.Goals as goal

pub returns-in-Err : goal.returns-in-Err
returns-in-Err c =
    still_err c.in-Err.refusal _ _ _
    (c.in-Err.ensures _ _ _ _ (c.and_rules-known.ensures _ _ _ c.definitions.ensures c.repeats.ensures)
    (c.and_rules-named.ensures _ _ _ c.params_of.ensures c.repeats-2.ensures))

pub returns-in-Ok : goal.returns-in-Ok
returns-in-Ok c =
    of_both space_from c.in-Ok.defs c.in-Ok.params _ _ _
    (c.in-Ok.ensures _ _ _ _ (c.and_rules-known.ensures _ _ _ c.definitions.ensures c.repeats.ensures)
    (c.and_rules-named.ensures _ _ _ c.params_of.ensures c.repeats-2.ensures))
