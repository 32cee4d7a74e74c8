-- The numbers and the rows with which a text begins.
use Rattle.std.proofs.Common.{◌≡◌, ◌≢◌, ◌↔◌, ℕ, ◌+◌, ℤ, true, List, [], ◌∷◌, ◌++◌, codes, refl, ap, sym, ◌∙◌, subst}
use Rattle.std.specs.List.{list_all}
use Rattle.std.specs.Fmt.{signed_decimal}
use Rattle.std.proofs.lemmas.Bool.{eqb-true, and_from}
use Rattle.std.specs.Cmp.{first_so, second_so}
use Rattle.trace_core.specs.Cutting.{IsCut, opens_with}
use Rattle.trace_core.specs.Rows.{AreNumbers, BeginsWithNumber, BeginsWithRow, HasNoNumber, IsOfNumbers, IsRowOf, number_field, number_fields, row_content}
use Rattle.trace_core.specs.Spelling.{HasNoRow, IsSpelled, is_number, is_name}
use Rattle.trace_core.specs.Text.{TraceRow}
use Rattle.trace_core.proofs.Cuts.{cut_once}
use Rattle.trace_core.proofs.Spelled.{fields_open, name_free, row_free, row_split, same_number, signed_free}

-- the field after a comma is no number, or is one
pub field_none : (text rest field later : List ℕ) → text ≡ 44 ∷ rest → IsCut 44 rest field later
    → ((n : ℤ) → is_number n ≡ true → field ≢ signed_decimal n) → HasNoNumber text
field_none text rest field later is cut none n more w =
    let whole : 44 ∷ (field ++ later) ≡ 44 ∷ (signed_decimal n ++ more) = ap (λ t. 44 ∷ t) (sym cut.split) ∙ sym is ∙ w.split in
    let tail : field ++ later ≡ signed_decimal n ++ more = cc in
    none n w.fits (cut_once 44 field (signed_decimal n) later more cut.free (signed_free 44 n w.fits refl refl) cut.next w.next tail).0

-- numbers are a first one and those after it
pub numbers_next : (text later : List ℕ) (n : ℤ) (ns : List ℤ) → BeginsWithNumber text n later → AreNumbers text ns
    → (ms : List ℤ) × (ns ≡ n ∷ ms) × AreNumbers later ms
numbers_next text later n [] w a = let whole : 44 ∷ (signed_decimal n ++ later) ≡ [] = sym w.split ∙ a.spelled in absurd cc
numbers_next text later n (m ∷ ms) w a =
    let fits = first_so (is_number m) (list_all is_number ms) a.fit in
    let whole : 44 ∷ (signed_decimal n ++ later) ≡ 44 ∷ (signed_decimal m ++ number_fields ms) = sym w.split ∙ a.spelled in
    let tail : signed_decimal n ++ later ≡ signed_decimal m ++ number_fields ms = cc in
    let r = cut_once 44 (signed_decimal n) (signed_decimal m) later (number_fields ms)
    (signed_free 44 n w.fits refl refl) (signed_free 44 m fits refl refl) w.next (fields_open ms) tail in
    let same = same_number n m w.fits fits r.0 in
    (ms, (λ i. sym same i ∷ ms), record { spelled = r.1; fit = second_so (is_number m) (list_all is_number ms) a.fit })

pub numbers_more : (text later : List ℕ) (n : ℤ) → BeginsWithNumber text n later → IsOfNumbers later ↔ IsOfNumbers text
numbers_more text later n w = (
  λ p. (
    n ∷ p.0,
    record {
      spelled = w.split ∙ ap (λ t. number_field n ++ t) p.1.spelled;
      fit = and_from (is_number n)
          (list_all is_number p.0) w.fits p.1.fit;
    },
  ),
  λ p. let q = numbers_next text later n p.0 w p.1 in (q.0, q.2),
)

-- if no number comes first, there are none
pub none_left : (text : List ℕ) (ns : List ℤ) → HasNoNumber text → AreNumbers text ns → ns ≡ []
none_left text [] none a = refl
none_left text (m ∷ ms) none a = absurd (none m (number_fields ms)
    (record { split = a.spelled; fits = first_so (is_number m) (list_all is_number ms) a.fit; next = fields_open ms }))

pub no_numbers : (text : List ℕ) → text ≡ [] → IsOfNumbers text
no_numbers text is = ([], record { spelled = is; fit = refl })

-- the parts of a row
module _ (line fields name numbers : List ℕ) (word : line ≡ codes "ran," ++ fields) (cut : IsCut 44 fields name numbers) where
  pub parts_some : is_name name ≡ true → IsOfNumbers numbers → (e : TraceRow) × IsRowOf e name numbers × (line ≡ row_content e)
  parts_some named p =
      let e : TraceRow = record { name = name; params = p.0 } in (
        e,
        record { spelled = record { name = named; params = p.1.fit }; same_name = refl; same_numbers = p.1.spelled },
        word ∙ ap (λ t. codes "ran," ++ t) (cut.split ∙ ap (λ t. name ++ t) p.1.spelled),
      )

  pub parts_are : (e : TraceRow) → IsSpelled e → line ≡ row_content e → (name ≡ e.name) × (numbers ≡ number_fields e.params)
  parts_are e s is =
      let whole : codes "ran," ++ fields ≡ codes "ran," ++ (e.name ++ number_fields e.params) = sym word ∙ is in
      let same : fields ≡ e.name ++ number_fields e.params = cc in
      cut_once 44 name e.name numbers (number_fields e.params) cut.free (name_free 44 refl e.name s.name) cut.next (fields_open e.params) (sym cut.split ∙ same)

  pub parts_none : (is_name name ≡ true → IsOfNumbers numbers → ⊥) → (e : TraceRow) → IsSpelled e → line ≡ row_content e → ⊥
  parts_none none e s is =
      let r = parts_are e s is in
      none (ap is_name r.0 ∙ s.name) (e.params, record { spelled = r.1; fit = s.params })

pub lf_first : (text line rest : List ℕ) (b : ℕ) (later : List ℕ) → IsCut 10 text line rest → rest ≡ b ∷ later → text ≡ line ++ 10 ∷ later
lf_first text line rest b later cut is =
    let lf : b ≡ 10 = eqb-true b 10 (subst (λ l. opens_with 10 l ≡ true) is cut.next) in
    cut.split ∙ ap (λ t. line ++ t) (is ∙ (λ i. lf i ∷ later))

pub no_row : (text line rest : List ℕ) (b : ℕ) (later : List ℕ) → IsCut 10 text line rest → rest ≡ b ∷ later
    → ((e : TraceRow) → IsSpelled e → line ≡ row_content e → ⊥) → HasNoRow text
no_row text line rest b later cut is none e more s h =
    let whole : line ++ rest ≡ row_content e ++ 10 ∷ more = sym cut.split ∙ h ∙ row_split e more in
    none e s (cut_once 10 line (row_content e) rest (10 ∷ more) cut.free (row_free e s) cut.next refl whole).0

pub a_row : (text line rest : List ℕ) (b : ℕ) (later name numbers : List ℕ) → IsCut 10 text line rest → rest ≡ b ∷ later
    → (e : TraceRow) × IsRowOf e name numbers × (line ≡ row_content e) → BeginsWithRow text name numbers later
a_row text line rest b later name numbers cut is p =
    record { entry = p.0; row = p.1; split = lf_first text line rest b later cut is ∙ ap (λ t. t ++ 10 ∷ later) p.2 ∙ sym (row_split p.0 later) }
