-- How numbers are written in an expression.
use Rattle.std.specs.Prelude.{ℕ, Bool, false, not, ◌&&◌, ◌==◌, List, [], ◌∷◌}
use Rattle.ptg_base.specs.Limits.{most_number}
use Rattle.ptg_base.specs.Decimal.{is_decimal}
pub use Rattle.ptg_base.specs.Decimal.{decimal}

-- Whether a number of several digits begins with 0.
abbrev pub has_leading_zero : List ℕ → Bool
has_leading_zero [] = false
has_leading_zero (b ∷ []) = false
has_leading_zero (b ∷ c ∷ bs) = b == 48

-- Whether a text is a number of an expression: decimal digits without a leading zero, and at most 2^63 - 1.
unfoldable pub is_number : List ℕ → Bool
is_number text = not (has_leading_zero text) && is_decimal most_number text
