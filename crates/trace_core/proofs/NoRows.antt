-- Texts that begin with a number or a row, or with none.
use Rattle.std.proofs.Common.{◌≡◌, ◌≢◌, ℕ, ◌<◌, ℤ, true, List, [], ◌∷◌, ◌++◌, codes, length, refl, ap, sym, ◌∙◌, length-append, arith}
use Rattle.std.specs.Fmt.{signed_decimal}
use Rattle.trace_core.specs.Cutting.{IsCut}
use Rattle.trace_core.specs.Rows.{BeginsWithNumber, HasNoNumber, IsOfNumbers, number_fields, row_content}
use Rattle.trace_core.specs.Spelling.{HasNoRow, IsSpelled, is_number}
use Rattle.trace_core.specs.Text.{TraceRow}
use Rattle.trace_core.proofs.Cuts.{cut_once}
use Rattle.trace_core.proofs.Spelled.{row_free, row_split}
use Rattle.trace_core.proofs.Fields.{none_left}

pub field_some : (text rest field later : List ℕ) (n : ℤ) → text ≡ 44 ∷ rest → IsCut 44 rest field later
    → is_number n ≡ true → field ≡ signed_decimal n → BeginsWithNumber text n later
field_some text rest field later n is cut fits same = record
    { split = is ∙ ap (λ t. 44 ∷ t) (cut.split ∙ ap (λ t. t ++ later) same); fits = fits; next = cut.next }

pub other_first : (text rest : List ℕ) (b : ℕ) → text ≡ b ∷ rest → b ≢ 44 → HasNoNumber text
other_first text rest b is other n more w = let whole : b ∷ rest ≡ 44 ∷ (signed_decimal n ++ more) = sym is ∙ w.split in other cc

pub nothing_first : (text : List ℕ) → text ≡ [] → HasNoNumber text
nothing_first text is n more w = let whole : [] ≡ 44 ∷ (signed_decimal n ++ more) = sym is ∙ w.split in cc

pub not_numbers : (text : List ℕ) → HasNoNumber text → (text ≡ [] → ⊥) → IsOfNumbers text → ⊥
not_numbers text none some p = let e = none_left text p.0 none p.1 in some (p.1.spelled ∙ ap number_fields e)

pub fewer : (text later : List ℕ) (n : ℤ) → BeginsWithNumber text n later → length later < length text
fewer text later n w = let l = ap length w.split in omega (arith, l, length-append (signed_decimal n) later)

pub no_word : (line : List ℕ) → ((rest : List ℕ) → line ≡ codes "ran," ++ rest → ⊥) → (e : TraceRow) → IsSpelled e → line ≡ row_content e → ⊥
no_word line none e s is = none (e.name ++ number_fields e.params) is

-- a row ends with the first LF, so a text without LF begins with none
pub no_lf : (text line rest : List ℕ) → IsCut 10 text line rest → rest ≡ [] → HasNoRow text
no_lf text line rest cut is e later s h =
    let whole : line ++ rest ≡ row_content e ++ 10 ∷ later = sym cut.split ∙ h ∙ row_split e later in
    let r = cut_once 10 line (row_content e) rest (10 ∷ later) cut.free (row_free e s) cut.next refl whole in
    let never : [] ≡ 10 ∷ later = sym is ∙ r.1 in
    cc
