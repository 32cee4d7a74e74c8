use Rattle.jdf_tree.specs.declared.expression.Word.{Word}
use Rattle.type_rules.proofs.Distinct.{distinct_names}
use Rattle.type_rules.proofs.name_laws.names_given_once_are_distinct.Goals as goal

pub returns : goal.returns
returns c = distinct_names (λ (w : Word). w)
