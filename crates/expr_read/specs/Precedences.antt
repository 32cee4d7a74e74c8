-- The productions of each precedence of operators, for the contracts of the functions that read them.
use Rattle.std.specs.Prelude.{Bool}
use Rattle.jdf_lex.specs.declared.terminal.Terminal.{Terminal}
use Rattle.jdf_tree.specs.declared.expression.ExprWithSpot.{ExprWithSpot}
use Rattle.jdf_tree.specs.declared.part.Part.{Part}
use Rattle.jdf_tree.specs.declared.part.Part.TheVariants.{Class}
use Rattle.jdf_tree.specs.Nonterminal.{Grammar}
use Rattle.jdf_tree.specs.ExpressionGrammar.{unary, product, sum, relation, equality, conjunction, disjunction, expr, outer, guard, is_product}
use Rattle.jdf_tree.specs.ExpressionGrammar.{is_sum, is_relation, is_equality, is_conjunction, is_disjunction}
use Rattle.expr_read.specs.declared.precedence.Precedence.{Precedence}
use Rattle.expr_read.specs.declared.precedence.Precedence.TheVariants as precedence
use Rattle.expr_read.specs.declared.window.Outermost.{Outermost}
use Rattle.expr_read.specs.declared.window.Outermost.TheVariants as outermost

-- the terminals of the operators of a precedence
abbrev pub operators_of : Precedence → Terminal → Bool
operators_of precedence.Product k = is_product k
operators_of precedence.Sum k = is_sum k
operators_of precedence.Relation k = is_relation k
operators_of precedence.Equality k = is_equality k
operators_of precedence.Conjunction k = is_conjunction k
operators_of precedence.Disjunction k = is_disjunction k

-- the operands of a precedence
abbrev pub operand_of : Precedence → Part → Grammar ExprWithSpot
operand_of precedence.Product part = unary part
operand_of precedence.Sum part = product part
operand_of precedence.Relation part = sum part
operand_of precedence.Equality part = relation part
operand_of precedence.Conjunction part = equality part
operand_of precedence.Disjunction part = conjunction part

-- operands of a precedence with its operators between them
abbrev pub of_precedence : Precedence → Part → Grammar ExprWithSpot
of_precedence precedence.Product part = product part
of_precedence precedence.Sum part = sum part
of_precedence precedence.Relation part = relation part
of_precedence precedence.Equality part = equality part
of_precedence precedence.Conjunction part = conjunction part
of_precedence precedence.Disjunction part = disjunction part

-- an outermost expression
abbrev pub limited_form : Outermost → Grammar ExprWithSpot
limited_form (outermost.Expression part) = outer part
limited_form outermost.Guard = guard

-- an outermost expression, without its limit
abbrev pub form_of : Outermost → Grammar ExprWithSpot
form_of (outermost.Expression part) = expr part
form_of outermost.Guard = disjunction Class
