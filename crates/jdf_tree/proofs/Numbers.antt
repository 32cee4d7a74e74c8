-- What the tests of a number imply.
use Rattle.std.proofs.Common.{◌≡◌, ℕ, ◌≤◌, true, List, [], ◌∷◌}
use Rattle.std.specs.Prelude.{nat_le}
use Rattle.std.specs.List.{list_all}
use Rattle.std.proofs.lemmas.Bool.{and_parts, leb-true}
use Rattle.ptg_base.specs.Decimal.{is_digit, decimal, is_decimal}

-- a decimal number has digits alone, and is at most the bound
pub decimal_parts : (most : ℕ) (text : List ℕ) → is_decimal most text ≡ true → (list_all is_digit text ≡ true) × (decimal text ≤ most)
unfolding is_decimal
decimal_parts most [] e = absurd cc
decimal_parts most (b ∷ bs) e =
    let parts = and_parts (list_all is_digit (b ∷ bs)) (nat_le (decimal (b ∷ bs)) most) e in
    (parts.0, leb-true (decimal (b ∷ bs)) most parts.1)
