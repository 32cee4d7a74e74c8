-- Names and their letters, according to the JDF documentation: in a JDF, in data and in a trace alike.
-- Carried by: `is_letter`, `is_part`, `is_name`.
-- Tested by: `data_codes.txt`.
use Rattle.std.specs.Prelude.{ℕ, Bool, false, ◌&&◌, ◌||◌, ◌==◌, nat_le, List, [], ◌∷◌}
use Rattle.std.specs.List.{list_all}
use Rattle.ptg_base.specs.Decimal.{is_digit}

-- whether a byte may begin a name: `A` to `Z`, `a` to `z` or `_`
abbrev pub is_letter : ℕ → Bool
is_letter b = (nat_le 65 b && nat_le b 90) || ((nat_le 97 b && nat_le b 122) || (b == 95))

-- whether a byte may follow the first byte of a name or a number
abbrev pub is_part : ℕ → Bool
is_part b = is_letter b || is_digit b

-- whether bytes are a name: a letter or `_`, and then letters, `_` and digits; reserved words are names too
abbrev pub is_name : List ℕ → Bool
is_name [] = false
is_name (b ∷ bs) = is_letter b && list_all is_part bs
