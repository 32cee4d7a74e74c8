-- The value of an expression, by cases on its tree in the order of evaluation. Source: the JDF documentation, for
-- expressions as in C.
-- Carried by: `eval`.
-- Tested by: `expressions.txt`, `body_statements.txt`.
use Rattle.std.specs.Prelude.{ℕ, ℤ, pos, List, Bool, true, ◌&&◌, nat_lt, Result, Ok, Err, if◌then◌else◌, slice_index_or}
use Rattle.std.specs.Option.{option_map_or}
use Rattle.ptg_base.specs.Returns.{and_then}
use Rattle.term_core.specs.declared.fault.ExprFault.{ExprFault}
use Rattle.term_core.specs.declared.operator.BinOp.{BinOp}
use Rattle.term_core.specs.Term.{Term, Num, Local, Elem, Unary, Binary, Choose}
use Rattle.term_core.specs.Arith.{holds, arithmetic, unary_value, decided}

-- a fault of arithmetic as a fault of another kind
abbrev pub map_fault : {F : Type 0} → (ExprFault → F) → Result ℤ ExprFault → Result ℤ F
map_fault fault (Ok x) = Ok x
map_fault fault (Err e) = Err (fault e)

-- an operation on the results of two expressions: the right one counts only if the left one does not decide
abbrev pub binary_with : {F : Type 0} → (ExprFault → F) → BinOp → Result ℤ F → Result ℤ F → Result ℤ F
binary_with fault o left right =
    and_then left (λ x. option_map_or Ok (decided o x) (and_then right (λ y. map_fault fault (arithmetic o x y))))

-- The value of an expression, or the first fault in the order of evaluation. `fault` turns a fault of arithmetic into
-- one of F, and `element` returns the value of an element by its flow and index. The list has the values of the locals.
abbrev pub value_with : {F : Type 0} → (ExprFault → F) → (ℕ → ℤ → Result ℤ F) → List ℤ → Term → Result ℤ F
value_with fault element locals (Num z) = Ok z
value_with fault element locals (Local n) = Ok (slice_index_or locals n (pos 0))
value_with fault element locals (Elem flow at) = and_then (value_with fault element locals at) (λ i. element flow i)
value_with fault element locals (Unary o a) =
    and_then (value_with fault element locals a) (λ x. map_fault fault (unary_value o x))
value_with fault element locals (Binary o a b) =
    binary_with fault o (value_with fault element locals a) (value_with fault element locals b)
value_with fault element locals (Choose c a b) =
    and_then (value_with fault element locals c) (λ x.
    if holds x then value_with fault element locals a else value_with fault element locals b)

-- the value of an expression that has no element; an element counts as 0
abbrev pub value : Term → List ℤ → Result ℤ ExprFault
value e locals = value_with (λ f. f) (λ flow at. Ok (pos 0)) locals e

-- whether the number of each local is below the first number, and the flow of each element below the second
abbrev pub is_closed_with : ℕ → ℕ → Term → Bool
is_closed_with locals flows (Num z) = true
is_closed_with locals flows (Local n) = nat_lt n locals
is_closed_with locals flows (Elem flow at) = nat_lt flow flows && is_closed_with locals flows at
is_closed_with locals flows (Unary o a) = is_closed_with locals flows a
is_closed_with locals flows (Binary o a b) = is_closed_with locals flows a && is_closed_with locals flows b
is_closed_with locals flows (Choose c a b) =
    is_closed_with locals flows c && is_closed_with locals flows a && is_closed_with locals flows b

-- whether an expression has no element, and the number of each local is below this one
abbrev pub is_closed : ℕ → Term → Bool
is_closed locals e = is_closed_with locals 0 e
