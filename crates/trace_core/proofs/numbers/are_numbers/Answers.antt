use Rattle.std.proofs.Common.{◌==◌, length, ap, sym, ◌∙◌}
use Rattle.trace_core.specs.Rows.{number_fields}
use Rattle.trace_core.proofs.Fields.{no_numbers, none_left, numbers_more}
use Rattle.trace_core.proofs.Heads.{empty}
use Rattle.trace_core.proofs.numbers.are_numbers.Goals as goal

pub numbers-preserved : goal.numbers-preserved
numbers-preserved c =
    let s = numbers_more c.numbers.left.now c.in-Some.later.now c.in-Some.field-0-0 c.in-Some.ensures in
    (λ p. c.numbers.invariant.0 (s.0 p), λ p. s.1 (c.numbers.invariant.1 p))

pub returns : goal.returns
returns c = (
  λ h. c.numbers.invariant.0 (no_numbers c.numbers.left.now (empty c.numbers.left.now (sym c.is_empty.ensures ∙ h))),
  λ p.
      let q = c.numbers.invariant.1 p in
      let none = q.1.spelled ∙ ap number_fields (none_left c.numbers.left.now q.0 c.in_default.ensures q.1) in
      c.is_empty.ensures ∙ ap (λ l. length l == 0) none,
)
