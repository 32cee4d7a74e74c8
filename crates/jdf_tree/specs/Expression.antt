-- Expressions in the text as trees. Parentheses are not kept. Source: the JDF documentation.
use Rattle.std.specs.Prelude.{ℤ}
use Rattle.grammar_core.specs.declared.token.Spot.{Spot}
use Rattle.term_core.specs.declared.operator.UnOp.{UnOp}
use Rattle.term_core.specs.declared.operator.BinOp.{BinOp}
use Rattle.jdf_tree.specs.declared.expression.Word.{Word}

-- an expression in the text
pub data Expression : Type 0 where
  -- a number, and its spot
  Num : ℤ → Spot → Expression
  Name : Word → Expression
  -- an element of the tile of a flow
  Elem : Word → Expression → Expression
  -- a prefix operator, its operand, and the operator's spot
  Unary : UnOp → Expression → Spot → Expression
  Binary : BinOp → Expression → Expression → Expression
  -- the second expression if the first is not 0, else the third
  Choose : Expression → Expression → Expression → Expression
