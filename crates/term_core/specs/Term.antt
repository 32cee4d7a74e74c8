-- Expressions as trees. Source: the JDF documentation, with the operators of C.
use Rattle.std.specs.Prelude.{ℕ, ℤ}
use Rattle.term_core.specs.declared.operator.UnOp.{UnOp}
use Rattle.term_core.specs.declared.operator.BinOp.{BinOp}

-- an expression with its names resolved
pub data Term : Type 0 where
  -- a number
  Num : ℤ → Term
  -- a local, by its number
  Local : ℕ → Term
  -- an element of the tile of a flow
  Elem : ℕ → Term → Term
  Unary : UnOp → Term → Term
  Binary : BinOp → Term → Term → Term
  -- the second term if the first is not 0, else the third
  Choose : Term → Term → Term → Term
