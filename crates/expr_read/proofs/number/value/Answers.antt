use Rattle.std.proofs.Common.{◌≡◌, ◌≤◌, false, pos, refl, sym, ap, ◌∙◌, arith, w64}
use Rattle.std.proofs.lemmas.Int.{to_z_pos}
use Rattle.jdf_tree.specs.Numbers.{has_leading_zero, is_number}
use Rattle.jdf_tree.proofs.CallerLemmas.{decimal_parts}
use Rattle.expr_read.proofs.number.value.Goals as goal

-- the number is within the limit
within : (c : goal.In_ok-number) → c.in_ok-number.number ≤ 9223372036854775807
within c =
    let e = c.in_ok-number.ensures in
    let bound = (decimal_parts 9223372036854775807 c.args.text.now e.0).1 in
    omega (arith, e.1, bound)

pub overflow_cast-result : goal.overflow_cast-result
overflow_cast-result c = let bound = within c in omega (arith, bound)

pub returns : goal.returns
unfolding is_number
returns c =
    let e = c.in_ok-number.ensures in
    let zero : has_leading_zero c.args.text.now ≡ false = sym c.has_leading_zero.ensures ∙ c.if-has_leading_zero.false in
    (rw (zero, e.0) refl, to_z_pos w64 c.in_ok-number.number (let bound = within c in omega (arith, bound)) ∙ ap pos e.1)
