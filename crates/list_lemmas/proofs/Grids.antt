-- The rows and columns of a grid as one list.
use Rattle.std.proofs.Common.{List, [], map, ℕ, ◌∷◌, flat_map, arith, length, length-append, suc, zero, ◌*◌, ◌+◌, ◌≡◌}
use Rattle.std.proofs.Common.{ap, sym, ◌%◌, ◌/◌, ◌<◌, ◌∙◌, ◌-◌, ◌≤◌, get_or, zero-add}
use Rattle.std.proofs.Math.Decide.{dec_lt}
use Rattle.std.proofs.Math.ListN.{get_or-append}
use Rattle.std.proofs.Math.Nat.{suc-mul, div-eq_of_lt, mod-eq_of_lt, div-eq-sub-div, mod-eq-sub-mod}
use Rattle.std.proofs.lemmas.List.{get_or-append_right}
use Rattle.std.proofs.lemmas.List.FromFn.{length-map-range_with_len, get_or-map-range_with_len}
use Rattle.std.specs.List.{range_with_len}

-- the places of a row
abbrev pub cells : ℕ → ℕ → List (List ℕ)
cells cols i = map (λ j. i ∷ j ∷ []) (range_with_len 0 cols)

-- the places of this many rows, from row a on
abbrev pub rows_from : ℕ → ℕ → ℕ → List (List ℕ)
rows_from cols a rows = flat_map (cells cols) (range_with_len a rows)

pub length_rows : (cols a rows : ℕ) → length (rows_from cols a rows) ≡ rows * cols
length_rows cols a zero = omega arith
length_rows cols a (suc rows) =
    let first : length (cells cols a) ≡ cols = length-map-range_with_len (λ j. a ∷ j ∷ []) 0 cols in
    let rest : length (rows_from cols (a + 1) rows) ≡ rows * cols = length_rows cols (a + 1) rows in
    let all : length (rows_from cols a (suc rows)) ≡ length (cells cols a) + length (rows_from cols (a + 1) rows) =
    length-append (cells cols a) (rows_from cols (a + 1) rows) in
    omega (arith, first, rest, all, suc-mul rows cols)

pub in_first_row : (cols a n : ℕ) → n < cols → a ∷ n ∷ [] ≡ (a + n / cols) ∷ n % cols ∷ []
in_first_row cols a n within =
    let row : a ≡ a + n / cols = omega (arith, div-eq_of_lt within) in
    ap (λ i. i ∷ n ∷ []) row ∙ ap (λ j. (a + n / cols) ∷ j ∷ []) (sym (mod-eq_of_lt within))

pub in_next_rows : (cols a n : ℕ) → 0 < cols → cols ≤ n
    → (a + 1 + (n - cols) / cols) ∷ (n - cols) % cols ∷ [] ≡ (a + n / cols) ∷ n % cols ∷ []
in_next_rows cols a n some past =
    let row : a + 1 + (n - cols) / cols ≡ a + n / cols = omega (arith, div-eq-sub-div some past) in
    ap (λ i. i ∷ (n - cols) % cols ∷ []) row ∙ ap (λ j. (a + n / cols) ∷ j ∷ []) (sym (mod-eq-sub-mod past))

pub place_in : (cols a rows n : ℕ) (d : List ℕ) → 0 < cols → n < rows * cols
    → get_or (rows_from cols a rows) n d ≡ (a + n / cols) ∷ n % cols ∷ []
place_in cols a zero n d some within = absurd (omega (arith, within))
place_in cols a (suc rows) n d some within = by_row (λ left. place_in cols (a + 1) rows (n - cols) d some left) (dec_lt n cols) where
  first : length (cells cols a) ≡ cols
  first = length-map-range_with_len (λ j. a ∷ j ∷ []) 0 cols

  by_row : (n - cols < rows * cols → get_or (rows_from cols (a + 1) rows) (n - cols) d ≡ (a + 1 + (n - cols) / cols) ∷ (n - cols) % cols ∷ [])
      → Dec (n < cols) → get_or (rows_from cols a (suc rows)) n d ≡ (a + n / cols) ∷ n % cols ∷ []
  by_row next (yes here) =
      get_or-append (cells cols a) (rows_from cols (a + 1) rows) d n (omega (arith, here, first))
      ∙ get_or-map-range_with_len (λ j. a ∷ j ∷ []) 0 cols n n d here (zero-add n)
      ∙ in_first_row cols a n here
  by_row next (no past) =
      let later : cols ≤ n = omega (arith, past) in
      let left : n - cols < rows * cols = omega (arith, later, within, suc-mul rows cols) in
      get_or-append_right (cells cols a) (rows_from cols (a + 1) rows) cols n d first later ∙ next left ∙ in_next_rows cols a n some later
