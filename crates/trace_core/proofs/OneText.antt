-- A text is well spelled in one way, or has one first row that is not.
use Rattle.std.proofs.Common.{◌≡◌, ℕ, ◌+◌, ◌<◌, ◌≤◌, List, [], ◌∷◌, ◌++◌, length, refl, ap, sym, ◌∙◌, ◌⊎◌, inl, inr, append_assoc, length-append, arith}
use Rattle.std.specs.List.{AllByRecursion}
use Rattle.std.proofs.lemmas.List.{append-nil}
use Rattle.trace_core.specs.Spelling.{BeginsWith, HasNoHead, HasNoRow, IsBadRow, bad_head, bad_row, row_too_many, IsSpelled, IsWellSpelled}
use Rattle.trace_core.specs.Text.{TraceRow, row_line, rows_text}
use Rattle.trace_core.proofs.Spelled.{same_head, same_row}

-- the rest of a text after the rows `es` goes on with more rows, up to `ds` and their rest
pub record GoesOn (es : List TraceRow) (rest : List ℕ) (ds : List TraceRow) (later : List ℕ) : Type 0 where
  pub more : List TraceRow
  pub all : ds ≡ es ++ more
  pub spelled : AllByRecursion IsSpelled more
  pub text : rest ≡ rows_text more ++ later

-- of two lists of rows that a text begins with, one is continued by the other
pub one_goes_on : (es ds : List TraceRow) (r s : List ℕ) → AllByRecursion IsSpelled es → AllByRecursion IsSpelled ds
    → rows_text es ++ r ≡ rows_text ds ++ s → GoesOn es r ds s ⊎ GoesOn ds s es r
one_goes_on [] ds r s h k e = inl (record { more = ds; all = refl; spelled = k; text = e })
one_goes_on (x ∷ es) [] r s h k e = inr (record { more = x ∷ es; all = refl; spelled = h; text = sym e })
one_goes_on (x ∷ es) (y ∷ ds) r s h k e =
    let first = same_row x y (rows_text es ++ r) (rows_text ds ++ s) h.0 k.0
    (sym (append_assoc (row_line x) (rows_text es) r) ∙ e ∙ append_assoc (row_line y) (rows_text ds) s) in
    elim (one_goes_on es ds r s h.1 k.1 first.1) [
      | inl g ↦ inl (record { more = g.more; all = (λ i. sym first.0 i ∷ g.all i); spelled = g.spelled; text = g.text })
      | inr g ↦ inr (record { more = g.more; all = (λ i. first.0 i ∷ g.all i); spelled = g.spelled; text = g.text })
    ]

longer : (es : List TraceRow) (rest : List ℕ) (ds : List TraceRow) (later : List ℕ) (g : GoesOn es rest ds later) → length ds ≡ length es + length g.more
longer es rest ds later g = ap length g.all ∙ length-append es g.more

-- if no row follows, no longer list continues these rows
stops : (es : List TraceRow) (rest : List ℕ) (ds : List TraceRow) (later : List ℕ) → HasNoRow rest → GoesOn es rest ds later → (ds ≡ es)
stops es rest ds later none g = by g.more g.all g.spelled g.text
  where
    by : (more : List TraceRow) → ds ≡ es ++ more → AllByRecursion IsSpelled more → rest ≡ rows_text more ++ later → ds ≡ es
    by [] all s t = all ∙ append-nil es
    by (x ∷ xs) all s t = absurd (none x (rows_text xs ++ later) s.0 (t ∙ append_assoc (row_line x) (rows_text xs) later))

-- if the other list is no longer, it is the same, and so is the rest
as_many : (es : List TraceRow) (rest : List ℕ) (ds : List TraceRow) (later : List ℕ) → length ds ≤ length es
    → GoesOn es rest ds later → (ds ≡ es) × (rest ≡ later)
as_many es rest ds later le g = by g.more g.all g.text
  where
    by : (more : List TraceRow) → ds ≡ es ++ more → rest ≡ rows_text more ++ later → (ds ≡ es) × (rest ≡ later)
    by [] all t = (all ∙ append-nil es, t)
    by (x ∷ xs) all t = let l = ap length all in absurd (omega (arith, l, length-append es (x ∷ xs)))

module _ (text : List ℕ) (n m : ℕ) (es ds : List TraceRow) (r s : List ℕ) (w : BeginsWith text n es r) (v : BeginsWith text m ds s) where
  both_heads : (n ≡ m) × (rows_text es ++ r ≡ rows_text ds ++ s)
  both_heads = same_head n m (rows_text es ++ r) (rows_text ds ++ s) w.at_most v.at_most (sym w.split ∙ v.split)

  pub head_number : n ≡ m
  head_number = both_heads.0

  pub goes_on : GoesOn es r ds s ⊎ GoesOn ds s es r
  goes_on = one_goes_on es ds r s w.spelled v.spelled both_heads.1

pub not_without_head : (text : List ℕ) (n : ℕ) (es : List TraceRow) (r : List ℕ) → BeginsWith text n es r → HasNoHead text → ⊥
not_without_head text n es r w none = none n (rows_text es ++ r) w.at_most w.split

-- two lists after which a row is missing have the same length
two_bad : (text : List ℕ) (n m : ℕ) (es ds : List TraceRow) (r s : List ℕ) → BeginsWith text n es r
    → BeginsWith text m ds s → HasNoRow r → HasNoRow s → length es ≡ length ds
two_bad text n m es ds r s w v fails ne = elim (goes_on text n m es ds r s w v) [
  | inl g ↦ sym (ap length (stops es r ds s fails g))
  | inr g ↦ ap length (stops ds s es r ne g)
]

-- if a row is missing, no list has as many rows as the head states
bad_before : (text : List ℕ) (n m : ℕ) (es ds : List TraceRow) (r s : List ℕ) → BeginsWith text n es r
    → BeginsWith text m ds s → HasNoRow r → length es < n → length ds ≡ m → ⊥
bad_before text n m es ds r s w v fails lt all =
    let same = head_number text n m es ds r s w v in
    elim (goes_on text n m es ds r s w v) [
      | inl g ↦ let l = ap length (stops es r ds s fails g) in absurd (omega arith)
      | inr g ↦ let l = longer ds s es r g in absurd (omega arith)
    ]

-- lists of as many rows as the head states are the same, and so are their rests
all_rows : (text : List ℕ) (n m : ℕ) (es ds : List TraceRow) (r s : List ℕ) → BeginsWith text n es r
    → BeginsWith text m ds s → length es ≡ n → length ds ≡ m → (es ≡ ds) × (r ≡ s)
all_rows text n m es ds r s w v here there =
    let same = head_number text n m es ds r s w v in
    elim (goes_on text n m es ds r s w v) [
      | inl g ↦ let a = as_many es r ds s (omega arith) g in (sym a.0, a.1)
      | inr g ↦ let a = as_many ds s es r (omega arith) g in (a.0, sym a.1)
    ]

pub one_spelling : (text : List ℕ) (es ds : List TraceRow) → IsWellSpelled text es → IsWellSpelled text ds → es ≡ ds
one_spelling text es ds w v = (all_rows text (length es) (length ds) es ds [] [] w v refl refl).0

pub one_bad_row : (text : List ℕ) (j k : ℕ) → IsBadRow text j → IsBadRow text k → j ≡ k
one_bad_row text j k (bad_head h p) (bad_head g q) = p ∙ sym q
one_bad_row text j k (bad_head h p) (bad_row m ds s v lt fails q) = absurd (not_without_head text m ds s v h)
one_bad_row text j k (bad_head h p) (row_too_many m ds s v all some q) = absurd (not_without_head text m ds s v h)
one_bad_row text j k (bad_row n es r w lt fails p) (bad_head g q) = absurd (not_without_head text n es r w g)
one_bad_row text j k (bad_row n es r w lt fails p) (bad_row m ds s v less ne q) = let e = two_bad text n m es ds r s w v
    fails ne in p ∙ ap (λ l. l + 2) e ∙ sym q
one_bad_row text j k (bad_row n es r w lt fails p) (row_too_many m ds s v all some q) = absurd (bad_before text n m es ds r s w v fails lt all)
one_bad_row text j k (row_too_many n es r w all some p) (bad_head g q) = absurd (not_without_head text n es r w g)
one_bad_row text j k (row_too_many n es r w all some p) (bad_row m ds s v less ne q) = absurd (bad_before text m n ds es s r v w ne less all)
one_bad_row text j k (row_too_many n es r w all some p) (row_too_many m ds s v every more q) =
    let e = ap length (all_rows text n m es ds r s w v all every).0 in p ∙ ap (λ l. l + 2) e ∙ sym q

pub spelled_or_bad : (text : List ℕ) (es : List TraceRow) (j : ℕ) → IsWellSpelled text es → IsBadRow text j → ⊥
spelled_or_bad text es j w (bad_head h p) = not_without_head text (length es) es [] w h
spelled_or_bad text es j w (bad_row m ds s v lt fails p) = bad_before text m (length es) ds es s [] v w fails lt refl
spelled_or_bad text es j w (row_too_many m ds s v all some p) = some (sym (all_rows text (length es) m es ds [] s w v refl all).1)
