use Rattle.std.proofs.Common.{[], not, ◌==◌, Some, refl, subst}
use Rattle.type_rules.specs.TreesAndFaults.{Arity}
use Rattle.type_rules.specs.Faults.{fault_if}
use Rattle.type_rules.specs.Returns.{ReturnsChecked}
use Rattle.type_rules.proofs.coll_element.dimensioned.Goals as goal

pub returns : goal.returns
returns c =
    subst (λ n. ReturnsChecked c.and_rules.result (Some c.args.number) (fault_if (not (n == c.args.count)) c.args.word.now.spot Arity)) c.dimensions_of.ensures
    (c.and_rules.ensures (Some c.args.number) [] _ (refl, refl) c.fault_if.ensures)
