-- Arithmetic on numbers of 64 bits, with a fault if there is no such number. Source of the operators: C.
-- Carried by: `arith`, `unary`.
-- Tested by: `numbers.txt`, `body_traps.txt`.
use Rattle.std.specs.Prelude.{ℤ, pos, negsuc, ◌+ℤ◌, ◌-ℤ◌, ◌*ℤ◌, neg_ℤ, int_div, int_rem, int_lt, int_le, nat_lt, Bool, true, false, not, ◌&&◌, ◌||◌}
use Rattle.std.specs.Prelude.{Result, Ok, Err, if◌then◌else◌, Option, Some, None}
use Rattle.std.specs.Ordering.{int_eq}
use Rattle.term_core.specs.declared.fault.ExprFault.{ExprFault}
use Rattle.term_core.specs.declared.fault.ExprFault.TheVariants.{Overflow, Divide}
use Rattle.term_core.specs.declared.operator.UnOp.{UnOp}
use Rattle.term_core.specs.declared.operator.UnOp.TheVariants.{Neg, Not}
use Rattle.term_core.specs.declared.operator.BinOp.{BinOp}
use Rattle.term_core.specs.declared.operator.BinOp.TheVariants.{Add, Sub, Mul, Div, Rem, Eq, Ne, Lt, Le, Gt, Ge, And, Or}

-- whether a whole number is a number of 64 bits: from -(2^63) to 2^63 - 1
abbrev pub is_number : ℤ → Bool
is_number (pos n) = nat_lt n 9223372036854775808
is_number (negsuc n) = nat_lt n 9223372036854775808

-- a condition as a number: 1 if it holds, else 0
abbrev pub truth : Bool → ℤ
truth true = pos 1
truth false = pos 0

-- whether a number holds as a condition: any number but 0 does
abbrev pub holds : ℤ → Bool
holds z = not (int_eq z (pos 0))

-- the whole number, or Overflow if it is no number of 64 bits
abbrev pub fitted : ℤ → Result ℤ ExprFault
fitted z = if is_number z then Ok z else Err Overflow

-- z, the quotient or the remainder of a by b; Divide if b is 0, Overflow if the quotient is no number of 64 bits
abbrev pub divided : ℤ → ℤ → ℤ → Result ℤ ExprFault
divided a b z = if int_eq b (pos 0) then Err Divide else (if is_number (int_div a b) then Ok z else Err Overflow)

-- The value of an infix operator on two numbers. A quotient is rounded toward 0, and a remainder has the sign of the
-- dividend. `&&` and `||` have the values of both operands here; `decided` is for the cases in which the left one is
-- enough.
abbrev pub arithmetic : BinOp → ℤ → ℤ → Result ℤ ExprFault
arithmetic Add a b = fitted (a +ℤ b)
arithmetic Sub a b = fitted (a -ℤ b)
arithmetic Mul a b = fitted (a *ℤ b)
arithmetic Div a b = divided a b (int_div a b)
arithmetic Rem a b = divided a b (int_rem a b)
arithmetic Eq a b = Ok (truth (int_eq a b))
arithmetic Ne a b = Ok (truth (not (int_eq a b)))
arithmetic Lt a b = Ok (truth (int_lt a b))
arithmetic Le a b = Ok (truth (int_le a b))
arithmetic Gt a b = Ok (truth (int_lt b a))
arithmetic Ge a b = Ok (truth (int_le b a))
arithmetic And a b = Ok (truth (holds a && holds b))
arithmetic Or a b = Ok (truth (holds a || holds b))

-- the value of a prefix operator
abbrev pub unary_value : UnOp → ℤ → Result ℤ ExprFault
unary_value Neg a = fitted (neg_ℤ a)
unary_value Not a = Ok (truth (not (holds a)))

-- the value of an operation whose left operand decides it: of `&&` if the operand does not hold, of `||` if it does
abbrev pub decided : BinOp → ℤ → Option ℤ
decided Add a = None
decided Sub a = None
decided Mul a = None
decided Div a = None
decided Rem a = None
decided Eq a = None
decided Ne a = None
decided Lt a = None
decided Le a = None
decided Gt a = None
decided Ge a = None
decided And a = if holds a then None else Some (pos 0)
decided Or a = if holds a then Some (pos 1) else None
