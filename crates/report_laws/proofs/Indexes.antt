-- The index of a place, as the number from which its row and its column are found.
use Rattle.std.proofs.Common.{◌≡◌, ℕ, zero, suc, ◌+◌, ◌*◌, ◌/◌, ◌%◌, ◌<◌, ℤ, pos, negsuc, true, List, [], ◌∷◌, nat_lt}
use Rattle.std.proofs.Common.{Option, Some, None, refl, sym, ap, ◌∙◌, subst, arith}
use Rattle.std.specs.Prelude.{option_and_then, option_map, IsSomeAnd}
use Rattle.std.proofs.lemmas.Bool.Decides.{nat_tests}
use Rattle.std.proofs.lemmas.Int.{ints}
use Rattle.std.proofs.lemmas.Nat.{div-mul-add, mod-mul-add, div-add-mod'}
use Rattle.std.proofs.Math.Nat.{div-lt_iff_lt-mul, mod-lt}
use Rattle.ptg_base.specs.Index.{index_in}
use Rattle.coll_data.specs.Tiles.{tile_count, IsRow, IsColumn, tile_index}
use Rattle.coll_data.proofs.CallerLemmas.{index_in_is, row_and_column}
use Rattle.report_text.specs.Places.{place_after}
use Rattle.report_laws.specs.Listed.{listed_index}

-- a number below a limit
pub index_in-pos : (limit n : ℕ) → n < limit → index_in limit (pos n) ≡ Some n
index_in-pos limit n h = let e : nat_lt n limit ≡ true = grind (arith, nat_tests) in rw e refl

-- the row and the column of the place with this index
abbrev pub row_of : Option ℕ → ℕ → ℤ
row_of None n = pos n
row_of (Some cols) n = pos (n / cols)

abbrev pub column_of : Option ℕ → ℕ → ℤ
column_of None n = pos 0
column_of (Some cols) n = pos (n % cols)

-- what has an index is the row and the column that are found from it
pub record IsFoundFrom (rows : ℕ) (cols : Option ℕ) (i j : ℤ) (n : ℕ) : Type 0 where
  pub row : i ≡ row_of cols n
  pub column : j ≡ column_of cols n
  pub is_row : IsRow rows i
  pub is_column : IsColumn cols j
  pub within : n < tile_count rows cols

in_one_column : (rows : ℕ) (i j : ℤ) (n : ℕ) (c : Option ℕ) → index_in 1 j ≡ c
    → option_and_then (λ column. index_in rows i) c ≡ Some n → IsFoundFrom rows None i j n
in_one_column rows i j n None at e = absurd cc
in_one_column rows i j n (Some c) at e =
    let col = index_in_is 1 j c at in
    let row = index_in_is rows i n e in
    let zeroth : c ≡ 0 = omega (arith, col.within) in
    let is_column : j ≡ pos 0 = col.is ∙ ap pos zeroth in
    let w : n < rows = row.within in
    record {
      row = row.is;
      column = is_column;
      is_row = subst (IsRow rows) (sym row.is) (omega (arith, ints), omega (arith, ints, w));
      is_column = is_column;
      within = w;
    }

in_row : (rows cols : ℕ) (i j : ℤ) (n c : ℕ) (r : Option ℕ) → c < cols → j ≡ pos c → index_in rows i ≡ r
    → option_map (λ row. row * cols + c) r ≡ Some n → IsFoundFrom rows (Some cols) i j n
in_row rows cols i j n c None within column at e = absurd cc
in_row rows cols i j n c (Some r) within column at e =
    let row = index_in_is rows i r at in
    let sum : r * cols + c ≡ n = cc in
    let quotient : r ≡ n / cols = sym (div-mul-add r cols c within) ∙ ap (λ m. m / cols) sum in
    let rest : c ≡ n % cols = sym (mod-mul-add r cols c within) ∙ ap (λ m. m % cols) sum in
    let w : r < rows = row.within in
    record {
      row = row.is ∙ ap pos quotient;
      column = column ∙ ap pos rest;
      is_row = subst (IsRow rows) (sym row.is) (omega (arith, ints), omega (arith, ints, w));
      is_column = subst (IsRow cols) (sym column) (omega (arith, ints), omega (arith, ints, within));
      within = subst (λ m. m < rows * cols) sum (row_and_column r c rows cols w within);
    }

in_columns : (rows cols : ℕ) (i j : ℤ) (n : ℕ) (c : Option ℕ) → index_in cols j ≡ c
    → option_and_then (λ column. option_map (λ row. row * cols + column) (index_in rows i)) c ≡ Some n
    → IsFoundFrom rows (Some cols) i j n
in_columns rows cols i j n None at e = absurd cc
in_columns rows cols i j n (Some c) at e = let col = index_in_is cols j c at in in_row rows cols i j n c (index_in rows i) col.within col.is refl e

pub found_from : (rows : ℕ) (cols : Option ℕ) (i j : ℤ) (n : ℕ) → tile_index rows cols i j ≡ Some n → IsFoundFrom rows cols i j n
found_from rows None i j n e = in_one_column rows i j n (index_in 1 j) refl e
found_from rows (Some cols) i j n e = in_columns rows cols i j n (index_in cols j) refl e

-- a row and a column have an index
pub index_of_pair : (rows cols i j : ℕ) → i < rows → j < cols → tile_index rows (Some cols) (pos i) (pos j) ≡ Some (i * cols + j)
index_of_pair rows cols i j row column = rw (index_in-pos cols j column, index_in-pos rows i row) refl

pub index_of_row : (rows i : ℕ) → i < rows → tile_index rows None (pos i) (pos 0) ≡ Some i
index_of_row rows i row = index_in-pos rows i row

some_index : (rows : ℕ) (cols : Option ℕ) (i j : ℤ) (n : ℕ) → tile_index rows cols i j ≡ Some n
    → IsSomeAnd (tile_index rows cols i j) (λ k. k < tile_count rows cols)
some_index rows cols i j n e = let f = found_from rows cols i j n e in rw e f.within

in_range : (limit : ℕ) (i : ℤ) → IsRow limit i → (k : ℕ) × (i ≡ pos k) × (k < limit)
in_range limit (pos n) w = let u = w.1 in (n, refl, omega (arith, ints))
in_range limit (negsuc n) w = let u = w.0 in absurd (omega (arith, ints))

pub has_index : (rows : ℕ) (cols : Option ℕ) (i j : ℤ) → IsRow rows i → IsColumn cols j → IsSomeAnd (tile_index rows cols i j) (λ n. n < tile_count rows cols)
has_index rows None i j row column =
    let r = in_range rows i row in
    some_index rows None i j r.0 (ap (λ x. tile_index rows None x j) r.1 ∙ ap (λ y. tile_index rows None (pos r.0) y) column ∙ index_of_row rows r.0 r.2)
has_index rows (Some cols) i j row column =
    let r = in_range rows i row in
    let c = in_range cols j column in
    some_index rows (Some cols) i j (r.0 * cols + c.0)
    (ap (λ x. tile_index rows (Some cols) x j) r.1 ∙ ap (λ y. tile_index rows (Some cols) (pos r.0) y) c.1 ∙ index_of_pair rows cols r.0 c.0 r.2 c.2)

-- the place that has n places before it has the index n, and no other place has it
pub index_after : (rows : ℕ) (cols : Option ℕ) (n : ℕ) → n < tile_count rows cols → listed_index rows cols (place_after cols n) ≡ Some n
index_after rows None n within = index_of_row rows n within
index_after rows (Some zero) n within = absurd (omega (arith, within))
index_after rows (Some (suc cols)) n within =
    index_of_pair rows (suc cols) (n / suc cols) (n % suc cols) ((div-lt_iff_lt-mul (omega arith)).1 within) (mod-lt n (omega arith))
    ∙ ap Some (div-add-mod' n (suc cols))

same_pos : (a b : ℕ) → ◌≡◌ {A = ℤ} (pos a) (pos b) → a ≡ b
same_pos a b e = cc

pub after_index : (rows : ℕ) (cols : Option ℕ) (place : List ℕ) (n : ℕ) → listed_index rows cols place ≡ Some n
    → (place ≡ place_after cols n) × (n < tile_count rows cols)
after_index rows None [] n e = absurd cc
after_index rows None (i ∷ []) n e =
    let f = found_from rows None (pos i) (pos 0) n e in
    (ap (λ x. x ∷ []) (same_pos i n f.row), f.within)
after_index rows None (i ∷ j ∷ place) n e = absurd cc
after_index rows (Some cols) [] n e = absurd cc
after_index rows (Some cols) (i ∷ []) n e = absurd cc
after_index rows (Some cols) (i ∷ j ∷ []) n e =
    let f = found_from rows (Some cols) (pos i) (pos j) n e in
    (ap (λ x. x ∷ j ∷ []) (same_pos i (n / cols) f.row) ∙ ap (λ y. (n / cols) ∷ y ∷ []) (same_pos j (n % cols) f.column), f.within)
after_index rows (Some cols) (i ∷ j ∷ k ∷ place) n e = absurd cc
