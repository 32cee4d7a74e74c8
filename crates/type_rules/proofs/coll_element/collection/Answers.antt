use Rattle.std.proofs.Common.{sym, ◌∙◌, subst}
use Rattle.type_rules.specs.Contexts.{job_of}
use Rattle.type_rules.specs.Returns.{ReturnsChecked}
use Rattle.type_rules.specs.Elements.{collection_faults}
use Rattle.type_rules.proofs.coll_element.collection.Goals as goal

pub returns-in-Some : goal.returns-in-Some
returns-in-Some c =
    subst (λ o. ReturnsChecked c.dimensioned.result o
    (collection_faults (job_of c.args.context.now) c.args.word.now c.args.count o))
    (sym c.in-Some.is ∙ c.coll_named.ensures) c.dimensioned.ensures
