-- The nonterminals through which the grammar of JDF recurs, and their trees.
use Rattle.grammar_core.specs.Production.{Production}
use Rattle.jdf_tree.specs.declared.expression.ExprWithSpot.{ExprWithSpot}
use Rattle.jdf_tree.specs.declared.part.Part.{Part}
use Rattle.jdf_tree.specs.declared.tree.Jdf.{Jdf}
use Rattle.jdf_tree.specs.Statements.{Statements}

-- a nonterminal through which the grammar recurs
pub data Nonterminal : Type 0 where
  -- an expression of a class, or of a body
  an_expr : Part → Nonterminal
  -- the operand of a prefix operator
  a_unary : Part → Nonterminal
  -- the rest of a text, from a global, a skipped part or the first class on
  a_file : Nonterminal
  -- the rest of a block of a body, after its opening brace
  a_block : Nonterminal

-- the type of the trees of a nonterminal
abbrev pub TreeOf : Nonterminal → Type 0
TreeOf (an_expr part) = ExprWithSpot
TreeOf (a_unary part) = ExprWithSpot
TreeOf a_file = Jdf
TreeOf a_block = Statements

-- a production of this grammar
abbrev pub Grammar : Type 0 → Type 1
Grammar A = Production Nonterminal TreeOf A
