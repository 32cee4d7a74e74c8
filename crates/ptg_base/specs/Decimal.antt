-- Numbers in decimal digits.
-- Carried by: `decimal`.
-- Tested by: `options.txt`.
use Rattle.std.specs.Prelude.{ℕ, ◌+◌, ◌-◌, ◌*◌, ◌^◌, nat_le, Bool, false, ◌&&◌, List, [], ◌∷◌, length}
use Rattle.std.specs.List.{list_all}

-- whether a byte is a digit: `0` to `9`
abbrev pub is_digit : ℕ → Bool
is_digit b = nat_le 48 b && nat_le b 57

-- the number that these digits spell, the most significant digit first
abbrev pub decimal : List ℕ → ℕ
decimal [] = 0
decimal (b ∷ bs) = (b - 48) * 10 ^ length bs + decimal bs

-- whether a text is one or more digits and nothing else, which spell a number of at most `most`
unfoldable pub is_decimal : ℕ → List ℕ → Bool
is_decimal most [] = false
is_decimal most (b ∷ bs) = list_all is_digit (b ∷ bs) && nat_le (decimal (b ∷ bs)) most
