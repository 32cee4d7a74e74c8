-- The parts of the test for numbers: it holds if and only if each part does.
use Rattle.std.proofs.Common.{◌≡◌, ℕ, ◌<◌, ◌≤◌, true, false, List, [], ◌∷◌, length, refl, arith}
use Rattle.std.specs.Prelude.{not}
use Rattle.std.specs.List.{list_all}
use Rattle.std.proofs.lemmas.Bool.{and_parts, not-true}
use Rattle.std.proofs.lemmas.Bool.Decides.{nat_tests}
use Rattle.ptg_base.specs.Decimal.{is_digit, decimal, is_decimal}
use Rattle.jdf_tree.specs.Numbers.{has_leading_zero, is_number}
use Rattle.jdf_tree.proofs.CallerLemmas.{decimal_parts}

decimal_from : (most : ℕ) (text : List ℕ) → 0 < length text → list_all is_digit text ≡ true → decimal text ≤ most → is_decimal most text ≡ true
unfolding is_decimal
decimal_from most [] some digits le = absurd (omega (arith, some))
decimal_from most (b ∷ bs) some digits le = rw digits (grind (arith, nat_tests, le))

-- a number has digits alone and no leading zero, and is at most 2^63 - 1
pub number_parts : (text : List ℕ) → is_number text ≡ true → (has_leading_zero text ≡ false)
    × (list_all is_digit text ≡ true) × (decimal text ≤ 9223372036854775807)
unfolding is_number
number_parts text e =
    let parts = and_parts (not (has_leading_zero text)) (is_decimal 9223372036854775807 text) e in
    let number = decimal_parts 9223372036854775807 text parts.1 in
    (not-true (has_leading_zero text) parts.0, number.0, number.1)

-- and conversely
pub number_from : (text : List ℕ) → 0 < length text → has_leading_zero text ≡ false → list_all is_digit text ≡ true
    → decimal text ≤ 9223372036854775807 → is_number text ≡ true
unfolding is_number
number_from text some zero digits le = rw (zero, decimal_from 9223372036854775807 text some digits le) refl
