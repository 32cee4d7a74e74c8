-- What the form of an expression shows of its value on small locals: that there is one, a bound on it, and that it is
-- not 0. The bound of 2^31 for locals is this project's own choice: a product of two of them fits 64 bits.
-- Carried by: `bound_of`, `are_small`.
-- Tested by: `accepted.txt`.
use Rattle.std.specs.Prelude.{◌≡◌, ◌≢◌, ◌+◌, ◌*◌, ◌≤◌, ℕ, ℤ, pos, List, Option, IfSome, IsTrue, IsOkAnd, false, unsigned_abs}
use Rattle.std.specs.List.{AllByRecursion}
use Rattle.term_core.specs.Term.{Term}
use Rattle.term_core.specs.Value.{value}
use Rattle.term_core.specs.declared.operator.BinOp.{BinOp}
use Rattle.term_core.specs.declared.operator.BinOp.TheVariants.{Add, Sub, Mul, Div, Rem, Eq, Ne, Lt, Le, Gt, Ge, And, Or}
use Rattle.term_core.specs.declared.value_bound.ValueBound.{ValueBound}

-- a number is from -(2^31) to 2^31
abbrev pub IsSmall : ℤ → Type 0
IsSmall z = unsigned_abs z ≤ 2147483648

-- each of these numbers is small
abbrev pub AreSmall : List ℤ → Type 0
AreSmall locals = AllByRecursion IsSmall locals

-- a number is within a bound
pub record IsWithin (b : ValueBound) (z : ℤ) : Type 0 where
  pub at_most : unsigned_abs z ≤ b.most
  pub nonzero : IsTrue b.nonzero → z ≢ pos 0

-- on small locals, an expression has a value, which is within the bound
pub record HasBound (e : Term) (b : ValueBound) : Type 0 where
  pub within : (locals : List ℤ) → AreSmall locals → IsOkAnd (value e locals) (IsWithin b)

-- the bound that was found for an expression, if there is one, is right
abbrev pub IsBoundOf : Term → Option ValueBound → Type 0
IsBoundOf e found = IfSome found (HasBound e)

-- the bound says no more than this greatest absolute value
abbrev pub IsAtMost : ℕ → ValueBound → Type 0
IsAtMost n b = (b.most ≡ n) × (b.nonzero ≡ false)

-- the bound of an operation by the bounds of its operands. A quotient and a remainder are no larger than the dividend,
-- if the divisor is not 0; a condition is 0 or 1
abbrev pub IsBoundBy : BinOp → ValueBound → ValueBound → ValueBound → Type 0
IsBoundBy Add a b r = IsAtMost (a.most + b.most) r
IsBoundBy Sub a b r = IsAtMost (a.most + b.most) r
IsBoundBy Mul a b r = IsAtMost (a.most * b.most) r
IsBoundBy Div a b r = IsTrue b.nonzero × IsAtMost a.most r
IsBoundBy Rem a b r = IsTrue b.nonzero × IsAtMost a.most r
IsBoundBy Eq a b r = IsAtMost 1 r
IsBoundBy Ne a b r = IsAtMost 1 r
IsBoundBy Lt a b r = IsAtMost 1 r
IsBoundBy Le a b r = IsAtMost 1 r
IsBoundBy Gt a b r = IsAtMost 1 r
IsBoundBy Ge a b r = IsAtMost 1 r
IsBoundBy And a b r = IsAtMost 1 r
IsBoundBy Or a b r = IsAtMost 1 r
