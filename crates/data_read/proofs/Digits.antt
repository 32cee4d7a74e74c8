-- Digits that spell a number within a limit.
use Rattle.std.specs.Prelude.{nat_le}
use Rattle.std.proofs.Common.{◌≡◌, ℕ, ◌≤◌, true, false, cond, List, [], ◌∷◌, Option, Some, None, refl, arith}
use Rattle.std.specs.Prelude.{MatchOption, IfSome}
use Rattle.std.specs.List.{list_all}
use Rattle.std.proofs.lemmas.Bool.{leb-true}
use Rattle.ptg_base.specs.Decimal.{decimal, is_decimal, is_digit}
use Rattle.std.specs.Cmp.{second_so}

at_most : (most : ℕ) (bytes : List ℕ) → is_decimal most bytes ≡ true → decimal bytes ≤ most
unfolding is_decimal
at_most most [] e = absurd cc
at_most most (b ∷ bs) e = leb-true (decimal (b ∷ bs)) most (second_so (list_all is_digit (b ∷ bs)) (nat_le (decimal (b ∷ bs)) most) e)

abbrev Spelled : ℕ → List ℕ → Option ℕ → Type 0
Spelled most bytes o = MatchOption o (is_decimal most bytes ≡ false) (λ n. (is_decimal most bytes ≡ true) × (n ≡ decimal bytes))

pub number_is : (most : ℕ) (bytes : List ℕ) (o : Option ℕ) → Spelled most bytes o → o ≡ cond (is_decimal most bytes) (Some (decimal bytes)) None
number_is most bytes None h = rw h refl
number_is most bytes (Some n) h = rw (h.0, h.1) refl

pub number_within : (most : ℕ) (bytes : List ℕ) (o : Option ℕ) → Spelled most bytes o → IfSome o (λ n. n ≤ most)
number_within most bytes None h = tt
number_within most bytes (Some n) h = let most_at = at_most most bytes h.0 in let same : n ≡ decimal bytes = h.1 in omega arith
