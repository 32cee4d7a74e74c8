-- Exactly the places of a collection have indices, and these are below the number of tiles.
use Rattle.std.proofs.Common.{◌≡◌, ℕ, zero, suc, ◌+◌, ◌*◌, ◌<◌, ◌≤◌, ◌↔◌, ℤ, pos, negsuc, ◌⊎◌, inl, inr, get_or, nat_lt, List, [], length, Option}
use Rattle.std.proofs.Common.{Some, None, IsSome, slice_get, option_and_then, refl, subst, rules, arith}
use Rattle.std.proofs.lemmas.Int.{ints}
use Rattle.std.proofs.lemmas.Nat.{row_fits}
use Rattle.std.proofs.lemmas.Option.{slice_get-get_or}
use Rattle.std.proofs.lemmas.Bool.Decides.{nat_tests}
use Rattle.ptg_base.specs.Index.{index_in}
use Rattle.coll_data.specs.Tiles.{tile_count, IsRow, IsColumn, tile_index}
use Rattle.list_lemmas.proofs.Truth.{by_test}

pub row_and_column : (row column rows cols : ℕ) → row < rows → column < cols → row * cols + column < rows * cols
row_and_column row column rows cols h k = let e = row_fits row cols rows cols h (omega arith) in omega arith

-- a number is within a limit, at this index, or it is not
pub record IsIndex (limit : ℕ) (n : ℤ) (k : ℕ) : Type 0 where
  pub is : index_in limit n ≡ Some k
  pub within : k < limit
  pub row : IsRow limit n

index_in_cases : (limit : ℕ) (n : ℤ) → ((k : ℕ) × IsIndex limit n k) ⊎ ((index_in limit n ≡ None) × (IsRow limit n → ⊥))
index_in_cases limit (pos m) =
    by_test (nat_lt m limit)
    (λ h. let lt : m < limit = grind (arith, nat_tests) in
    inl (m, record { is = rw h refl; within = lt; row = (omega (arith, ints), omega (arith, ints)) }))
    (λ h. let ge : limit ≤ m = grind (arith, nat_tests) in
    inr (rw h refl, λ w. let u = w.1 in omega (arith, ints)))
index_in_cases limit (negsuc m) = inr (refl, λ w. let u = w.0 in omega (arith, ints))

column_zero : (j : ℤ) → IsRow 1 j → j ≡ pos 0
column_zero (pos zero) w = refl
column_zero (pos (suc n)) w = let u = w.1 in absurd (omega (arith, ints))
column_zero (negsuc n) w = let u = w.0 in absurd (omega (arith, ints))

-- a row and a column have an index, or are no place
pub record HasIndex (rows : ℕ) (cols : Option ℕ) (i j : ℤ) : Type 0 where
  pub index : ℕ
  pub is : tile_index rows cols i j ≡ Some index
  pub within : index < tile_count rows cols
  pub row : IsRow rows i
  pub column : IsColumn cols j

index_cases : (rows : ℕ) (cols : Option ℕ) (i j : ℤ) → HasIndex rows cols i j ⊎ ((tile_index rows cols i j ≡ None) × (IsRow rows i → IsColumn cols j → ⊥))
index_cases rows None i j = elim (index_in_cases 1 j) [
  | inl p ↦ elim (index_in_cases rows i) [
    | inl q ↦ inl (record { index = q.0; is = rw (p.1.is) q.1.is; within = q.1.within; row = q.1.row; column = column_zero j p.1.row })
    | inr n ↦ inr (rw (p.1.is) n.0, λ r c. n.1 r)
  ]
  | inr n ↦ inr (rw (n.0) refl, λ r c. n.1 (rw c (omega (arith, ints), omega (arith, ints))))
]
index_cases rows (Some cols) i j = elim (index_in_cases cols j) [
  | inl p ↦ elim (index_in_cases rows i) [
    | inl q ↦ inl (record {
      index = q.0 * cols + p.0;
      is = rw (p.1.is, q.1.is) refl;
      within =
          row_and_column q.0 p.0 rows cols q.1.within p.1.within;
      row = q.1.row;
      column = p.1.row;
    })
    | inr n ↦ inr (rw (p.1.is, n.0) refl, λ r c. n.1 r)
  ]
  | inr n ↦ inr (rw (n.0) refl, λ r c. n.1 c)
]

some_of : {A : Type 0} (o : Option A) (x : A) → o ≡ Some x → IsSome o
some_of None x e = absurd cc
some_of (Some y) x e = search rules

none_of : {A : Type 0} (o : Option A) → o ≡ None → IsSome o → ⊥
none_of None e h = absurd cc
none_of (Some y) e h = absurd cc

-- a collection with a tile for each place has a tile exactly at its rows and columns
pub tile_exists : (rows : ℕ) (cols : Option ℕ) (i j : ℤ) (tiles : List (List ℤ))
    → length tiles ≡ tile_count rows cols
    → IsSome (option_and_then (slice_get tiles) (tile_index rows cols i j)) ↔ (IsRow rows i × IsColumn cols j)
tile_exists rows cols i j tiles e = elim (index_cases rows cols i j) [
  | inl p ↦
      let found : option_and_then (slice_get tiles) (tile_index rows cols i j) ≡ Some (get_or tiles p.index []) =
      rw (p.is) (slice_get-get_or tiles p.index [] (omega (arith, p.within))) in
      (λ s. (p.row, p.column), λ w. some_of _ _ found)
  | inr n ↦
      let nothing : option_and_then (slice_get tiles) (tile_index rows cols i j) ≡ None = rw (n.0) refl in
      (λ s. absurd (none_of _ nothing s), λ w. absurd (n.1 w.0 w.1))
]

-- an index of a tile is below the number of tiles
pub index_within : (rows : ℕ) (cols : Option ℕ) (i j : ℤ) (k : ℕ) → tile_index rows cols i j ≡ Some k → k < tile_count rows cols
index_within rows cols i j k e = elim (index_cases rows cols i j) [
  | inl p ↦ let is = p.is in let same : p.index ≡ k = cc in subst (λ n. n < tile_count rows cols) same p.within
  | inr n ↦ let none = n.0 in absurd cc
]
