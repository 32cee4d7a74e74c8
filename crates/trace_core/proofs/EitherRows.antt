-- Whether a text begins with a row.
use Rattle.std.proofs.Common.{◌≡◌, ℕ, List, [], ◌∷◌, codes, length, refl, sym, ◌∙◌, ◌⊎◌, inl, inr, arith}
use Rattle.std.proofs.lemmas.Bool.{false≢true}
use Rattle.list_lemmas.proofs.Truth.{by_test}
use Rattle.trace_core.specs.Cutting.{IsCut}
use Rattle.trace_core.specs.Rows.{BeginsWithRow, IsRowOf, row_content}
use Rattle.trace_core.specs.Spelling.{HasNoRow, IsSpelled, is_name}
use Rattle.trace_core.specs.Text.{TraceRow}
use Rattle.trace_core.proofs.Fields.{a_row, no_row, parts_none, parts_some}
use Rattle.trace_core.proofs.NoRows.{no_lf, no_word}
use Rattle.trace_core.proofs.Deciding.{begins_or_not, cut_at}
use Rattle.trace_core.proofs.EitherNumbers.{numbers_or_not}

-- a line without its LF has the name and the numbers of a row
abbrev HasParts : List ℕ → List ℕ → List ℕ → Type 0
HasParts line name numbers = (e : TraceRow) × IsRowOf e name numbers × (line ≡ row_content e)

abbrev IsContent : List ℕ → Type 0
IsContent line = (name numbers : List ℕ) × HasParts line name numbers

content_or_none : (line : List ℕ) → IsContent line ⊎ ((e : TraceRow) → IsSpelled e → line ≡ row_content e → ⊥)
content_or_none line = elim (begins_or_not (codes "ran,") line) [
  | inr none ↦ inr (no_word line none)
  | inl word ↦
      let cut = cut_at 44 word.0 in
      by_test (is_name cut.0)
      (λ named. elim (numbers_or_not (length cut.1) cut.1 (omega arith)) [
        | inl all ↦ inl (cut.0, cut.1, parts_some line word.0 cut.0 cut.1 word.1 cut.2 named all)
        | inr fails ↦ inr (parts_none line word.0 cut.0 cut.1 word.1 cut.2 (λ h k. fails k))
      ])
      (λ unnamed. inr (parts_none line word.0 cut.0 cut.1 word.1 cut.2 (λ h k. false≢true (sym unnamed ∙ h))))
]

pub row_or_none : (text : List ℕ) → ((name numbers later : List ℕ) × BeginsWithRow text name numbers later) ⊎ HasNoRow text
row_or_none text = let cut = cut_at 10 text in by cut.0 cut.1 cut.2
  where
    by : (line rest : List ℕ) → IsCut 10 text line rest → ((name numbers later : List ℕ) × BeginsWithRow text name numbers later) ⊎ HasNoRow text
    by line [] cut = inr (no_lf text line [] cut refl)
    by line (b ∷ later) cut = elim (content_or_none line) [
      | inl p ↦ inl (p.0, p.1, later, a_row text line (b ∷ later) b later p.0 p.1 cut refl p.2)
      | inr none ↦ inr (no_row text line (b ∷ later) b later cut refl none)
    ]
