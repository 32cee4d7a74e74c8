-- A text is well spelled, or has a first row that is not.
use Rattle.std.proofs.Common.{◌≡◌, ℕ, zero, suc, ◌+◌, ◌≤◌, List, [], ◌∷◌, ◌++◌, length, refl, subst, ◌⊎◌, inl, inr, arith}
use Rattle.trace_core.specs.Spelling.{BeginsWith, HasNoHead, IsBadRow, bad_head, bad_row, row_too_many, IsWellSpelled}
use Rattle.trace_core.specs.Text.{TraceRow, head_line}
use Rattle.trace_core.proofs.Heads.{begin_more}
use Rattle.trace_core.proofs.Deciding.{begins_or_not, one_below}
use Rattle.trace_core.proofs.EitherRows.{row_or_none}
use Rattle.std.proofs.lemmas.List.{length_push}

-- no row yet, and one more
begin_with : (text : List ℕ) (n : ℕ) (rest : List ℕ) → n ≤ 1000000 → text ≡ head_line n ++ rest → BeginsWith text n [] rest
begin_with text n rest le is = record { at_most = le; split = is; spelled = tt }

abbrev HasHead : List ℕ → ℕ → Type 0
HasHead text n = (rest : List ℕ) × (text ≡ head_line n ++ rest)

head_or_none : (text : List ℕ) → ((n : ℕ) × (n ≤ 1000000) × HasHead text n) ⊎ HasNoHead text
head_or_none text = elim (one_below (HasHead text) has 1000001) [
  | inl p ↦ inl (p.0, omega (arith, p.1), p.2)
  | inr none ↦ inr (λ n rest le e. none n (omega (arith, le)) (rest, e))
]
  where
    has : (n : ℕ) → HasHead text n ⊎ (HasHead text n → ⊥)
    has n = elim (begins_or_not (head_line n) text) [ inl word ↦ inl word | inr fails ↦ inr (λ word. fails word.0 word.1) ]

-- a text is well spelled, or has a first row that is not
abbrev IsSpelledOrBad : List ℕ → Type 0
IsSpelledOrBad text = ((es : List TraceRow) × IsWellSpelled text es) ⊎ ((row : ℕ) × IsBadRow text row)

-- with `left` rows to come of those that the head states
rows_or_bad : (left : ℕ) (text : List ℕ) (n : ℕ) (es : List TraceRow) (rest : List ℕ) → BeginsWith text n es rest → n ≡ length es + left → IsSpelledOrBad text
rows_or_bad zero text n es [] w all = let same : n ≡ length es = omega (arith, all) in inl (es, subst (λ m. BeginsWith text m es []) same w)
rows_or_bad zero text n es (b ∷ bs) w all = inr (length es + 2, row_too_many n es (b ∷ bs) w (omega (arith, all)) (λ e. cc) refl)
rows_or_bad (suc left) text n es rest w all = elim (row_or_none rest) [
  | inr none ↦ inr (length es + 2, bad_row n es rest w (omega (arith, all)) none refl)
  | inl p ↦
      let e = p.3.entry in
      rows_or_bad left text n (es ++ e ∷ []) p.2 (begin_more text n es rest p.0 p.1 p.2 w p.3) (omega (arith, all, length_push es e))
]

pub spelled_or_bad : (text : List ℕ) → IsSpelledOrBad text
spelled_or_bad text = elim (head_or_none text) [
  | inr none ↦ inr (1, bad_head none refl)
  | inl p ↦ rows_or_bad p.0 text p.0 [] p.2.0 (begin_with text p.0 p.2.0 p.1 p.2.1) (omega arith)
]
