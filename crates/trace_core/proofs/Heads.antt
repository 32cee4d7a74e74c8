-- The head with which a text begins, and the rows after it.
use Rattle.std.proofs.Common.{◌≡◌, ◌≢◌, ℕ, ◌≤◌, ℤ, pos, true, ◌==◌, List, [], ◌∷◌, ◌++◌, codes, length, refl, ap, sym, ◌∙◌, subst, append_assoc, arith}
use Rattle.std.specs.Fmt.{decimal, signed_decimal}
use Rattle.std.proofs.lemmas.Bool.{eqb-true, lt-ltb}
use Rattle.std.proofs.lemmas.List.{append-nil}
use Rattle.std.proofs.lemmas.List.Concat.{flat_map-append}
use Rattle.trace_core.specs.Cutting.{IsCut}
use Rattle.trace_core.specs.Rows.{BeginsWithRow}
use Rattle.trace_core.specs.Spelling.{BeginsWith, HasNoHead, IsSpelled, IsWellSpelled, is_number}
use Rattle.trace_core.specs.Text.{TraceRow, head_line, row_line, rows_text}
use Rattle.trace_core.proofs.Cuts.{cut_once}
use Rattle.trace_core.proofs.Spelled.{decimal_free, head_split, same_head, same_number}
use Rattle.list_lemmas.proofs.Places.{each_push}

module _ (text fields field rest : List ℕ) (word : text ≡ codes "trace," ++ fields) (cut : IsCut 10 fields field rest) where
  -- the number of the head is the field up to LF
  pub head_parts : (n : ℕ) (later : List ℕ) → n ≤ 1000000 → text ≡ head_line n ++ later → (field ≡ decimal n) × (rest ≡ 10 ∷ later)
  head_parts n later le h =
      let whole : codes "trace," ++ fields ≡ codes "trace," ++ (decimal n ++ 10 ∷ later) = sym word ∙ h ∙ head_split n later in
      let tail : fields ≡ decimal n ++ 10 ∷ later = cc in
      cut_once 10 field (decimal n) rest (10 ∷ later) cut.free (decimal_free 10 n (omega arith) refl) cut.next refl (sym cut.split ∙ tail)

  pub head_no_count : ((n : ℕ) → n ≤ 1000000 → field ≢ decimal n) → HasNoHead text
  head_no_count none n later le h = none n le (head_parts n later le h).0

-- a number of rows fits 64 bits
small_fits : (n : ℕ) → n ≤ 1000000 → is_number (pos n) ≡ true
small_fits n le = lt-ltb n 9223372036854775808 (omega arith)

pub no_count : (field : List ℕ) → ((z : ℤ) → is_number z ≡ true → field ≢ signed_decimal z) → (n : ℕ) → n ≤ 1000000 → field ≢ decimal n
no_count field none n le h = none (pos n) (small_fits n le) h

pub other_count : (field : List ℕ) (z : ℤ) → is_number z ≡ true → field ≡ signed_decimal z
    → ((n : ℕ) → n ≤ 1000000 → z ≢ pos n) → (n : ℕ) → n ≤ 1000000 → field ≢ decimal n
other_count field z fits is none n le h = none n le (same_number z (pos n) fits (small_fits n le) (sym is ∙ h))

pub rows_push : (es : List TraceRow) (e : TraceRow) (rest : List ℕ) → rows_text (es ++ e ∷ []) ++ rest ≡ rows_text es ++ (row_line e ++ rest)
rows_push es e rest =
    ap (λ t. t ++ rest) (flat_map-append row_line es (e ∷ []) ∙ ap (λ t. rows_text es ++ t) (append-nil (row_line e)))
    ∙ append_assoc (rows_text es) (row_line e) rest

pub begin_more : (text : List ℕ) (n : ℕ) (es : List TraceRow) (rest name numbers later : List ℕ)
    → BeginsWith text n es rest → (r : BeginsWithRow rest name numbers later)
    → BeginsWith text n (es ++ r.entry ∷ []) later
begin_more text n es rest name numbers later w r = record {
  at_most = w.at_most;
  split = w.split ∙ ap (λ t. head_line n ++ t) (ap (λ t. rows_text es ++ t) r.split ∙ sym (rows_push es r.entry later));
  spelled = each_push IsSpelled es r.entry w.spelled r.row.spelled;
}

pub empty : (xs : List ℕ) → (length xs == 0) ≡ true → xs ≡ []
empty [] h = refl
empty (x ∷ xs) h = let z = eqb-true (length (x ∷ xs)) 0 h in absurd (omega arith)

-- as many rows as the head states, and nothing after them
pub ended_rows : (text : List ℕ) (n : ℕ) (es : List TraceRow) (first left : List ℕ) → text ≡ head_line n ++ first
    → BeginsWith text n es left → length es ≡ n → (length left == 0) ≡ true
    → (ds : List TraceRow) × IsWellSpelled text ds × (first ≡ rows_text ds)
ended_rows text n es first left is w all none =
    let nothing = empty left none in
    let same = same_head n n first (rows_text es ++ left) w.at_most w.at_most (sym is ∙ w.split) in
    let whole : BeginsWith text (length es) es [] = subst (λ l. BeginsWith text (length es) es l) nothing
    (subst (λ m. BeginsWith text m es left) (sym all) w) in
    (es, whole, same.1 ∙ ap (λ l. rows_text es ++ l) nothing ∙ append-nil (rows_text es))
