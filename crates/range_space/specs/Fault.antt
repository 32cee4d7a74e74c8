-- The bounds and the values of a range under the values of the definitions before it, or the first fault. Source: the
-- JDF documentation; that a step of 0 is a fault is this project's own choice.
-- Carried by: `steps_of`.
-- Tested by: `edges.txt`, `check_codes.txt`.
use Rattle.std.specs.Prelude.{ℤ, pos, List, Option, Some, None, Result, Ok, Err, if◌then◌else◌}
use Rattle.std.specs.Ordering.{int_eq}
use Rattle.term_core.specs.Term.{Term}
use Rattle.ptg_base.specs.Returns.{and_then}
use Rattle.term_core.specs.Value.{value, map_fault}
use Rattle.term_core.specs.declared.space.Range.{Range}
use Rattle.range_space.specs.declared.fault.SpanFault.{SpanFault}
use Rattle.range_space.specs.declared.fault.SpanFault.TheVariants.{Expr, ZeroStep}
use Rattle.range_space.specs.Values.{values}

-- the value of an expression, with a fault as one of a range
abbrev pub number : Term → List ℤ → Result ℤ SpanFault
number e env = map_fault Expr (value e env)

-- the step of a range is 1 if none is written; otherwise its value must not be 0
abbrev pub nonzero : ℤ → Result ℤ SpanFault
nonzero z = if int_eq z (pos 0) then Err ZeroStep else Ok z

-- the value of a range's step
abbrev pub step_number : Option Term → List ℤ → Result ℤ SpanFault
step_number None env = Ok (pos 1)
step_number (Some e) env = and_then (number e env) nonzero

-- the values of a range's parts
pub record Bounds : Type 0 where
  pub lo : ℤ
  pub hi : ℤ
  pub step : ℤ

-- lo, hi and the step, evaluated in this order
abbrev pub bounds : Range → List ℤ → Result Bounds SpanFault
bounds r env =
    and_then (number r.lo env) (λ lo.
    and_then (number r.hi env) (λ hi.
    and_then (step_number r.step env) (λ step.
    Ok (record { lo = lo; hi = hi; step = step }))))

-- the values of a range
abbrev pub range_values : Range → List ℤ → Result (List ℤ) SpanFault
range_values r env = and_then (bounds r env) (λ b. Ok (values b.lo b.hi b.step))
