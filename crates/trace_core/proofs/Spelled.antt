-- The printed forms of numbers and rows: which bytes they have, and that no two are printed alike.
use lib.Signed.{mag}
use mir.Val.{SFits}
use Rattle.std.proofs.Common.{◌≡◌, ◌==◌, ℕ, suc, ◌^◌, ◌<◌, ◌≤◌, ℤ, pos, negsuc, true, false, not, ◌||◌, List, [], ◌∷◌}
use Rattle.std.proofs.Common.{◌++◌, map, codes, refl, ap, sym, ◌∙◌, append_assoc, w64, arith}
use Rattle.std.specs.Prelude.{nat_le}
use Rattle.std.specs.List.{list_all, join_with_byte}
use Rattle.std.specs.Fmt.{decimal, signed_decimal}
use Rattle.std.specs.Str.Parse.{AllDigits}
use Rattle.std.proofs.lemmas.Bool.{false≢true, le-leb, ltb-true, and_from}
use Rattle.std.proofs.lemmas.Fmt.{decimal_is_IsNumeral, decimal_injective, signed_decimal_injective}
use Rattle.std.proofs.lemmas.List.{append-nil}
use Rattle.std.proofs.lemmas.Str.Parse.{digit_from_value}
use Rattle.ptg_base.specs.Decimal.{is_digit}
use Rattle.std.specs.Cmp.{first_so, second_so}
use Rattle.ptg_base.specs.Names.{is_letter, is_part}
use Rattle.trace_core.specs.Cutting.{is_free_of, opens_with}
use Rattle.trace_core.specs.Rows.{number_field, number_fields, row_content}
use Rattle.trace_core.specs.Spelling.{IsSpelled, is_number, is_name}
use Rattle.trace_core.specs.Text.{TraceRow, head_line, row_line}
use Rattle.trace_core.proofs.Cuts.{cut_once, free_append, free_by}

-- a number that fits 64 bits
pub fits_mag : (z : ℤ) → is_number z ≡ true → mag z < 2 ^ 63
fits_mag (pos n) h = ltb-true n 9223372036854775808 h
fits_mag (negsuc n) h = ltb-true n 9223372036854775808 h

pub fits_signed : (z : ℤ) → is_number z ≡ true → SFits w64 z
fits_signed z h = record { sfits = fits_mag z h }

-- numbers have no comma and no LF
digits_pass : (ds : List ℕ) → AllDigits 10 ds → list_all is_digit ds ≡ true
digits_pass [] h = refl
digits_pass (d ∷ ds) h =
    let r = digit_from_value d h.0 in
    and_from (is_digit d) (list_all is_digit ds) (and_from (nat_le 48 d) (nat_le d 57) (le-leb 48 d r.0) (le-leb d 57 r.1)) (digits_pass ds h.1)

pub decimal_free : (c n : ℕ) → n < 2 ^ 64 → is_digit c ≡ false → is_free_of c (decimal n) ≡ true
decimal_free c n h fails = free_by is_digit c fails (decimal n) (digits_pass (decimal n) (decimal_is_IsNumeral n h).0.1)

pub signed_free : (c : ℕ) (z : ℤ) → is_number z ≡ true → is_digit c ≡ false → (45 == c) ≡ false → is_free_of c (signed_decimal z) ≡ true
signed_free c (pos n) fits fails other = let small = ltb-true n 9223372036854775808 fits in decimal_free c n (omega arith) fails
signed_free c (negsuc n) fits fails other =
    let small = ltb-true n 9223372036854775808 fits in
    and_from (not (45 == c)) (is_free_of c (decimal (suc n))) (ap not other) (decimal_free c (suc n) (omega arith) fails)

pub same_number : (y z : ℤ) → is_number y ≡ true → is_number z ≡ true → signed_decimal y ≡ signed_decimal z → y ≡ z
same_number y z h k e = signed_decimal_injective y z (fits_mag y h) (fits_mag z k) e

-- a name has none either
pub name_free : (c : ℕ) → is_part c ≡ false → (name : List ℕ) → is_name name ≡ true → is_free_of c name ≡ true
name_free c fails [] h = absurd (false≢true h)
name_free c fails (b ∷ bs) h =
    free_by is_part c fails (b ∷ bs) (and_from (is_part b) (list_all is_part bs)
    (letter_part b (first_so (is_letter b) (list_all is_part bs) h))
    (second_so (is_letter b) (list_all is_part bs) h))
  where
    letter_part : (b : ℕ) → is_letter b ≡ true → is_part b ≡ true
    letter_part b h = ap (λ x. x || is_digit b) h

pub fields_free : (ns : List ℤ) → list_all is_number ns ≡ true → is_free_of 10 (number_fields ns) ≡ true
fields_free [] h = refl
fields_free (n ∷ ns) h =
    free_append 10 (number_field n) (number_fields ns) (signed_free 10 n
    (first_so (is_number n) (list_all is_number ns) h) refl refl)
    (fields_free ns (second_so (is_number n) (list_all is_number ns) h))

pub fields_open : (ns : List ℤ) → opens_with 44 (number_fields ns) ≡ true
fields_open [] = refl
fields_open (n ∷ ns) = refl

-- a row without its LF, and with it
joined_numbers : (text : List ℕ) (ns : List ℤ) → join_with_byte 44 (text ∷ map signed_decimal ns) ≡ text ++ number_fields ns
joined_numbers text [] = sym (append-nil text)
joined_numbers text (n ∷ ns) = ap (λ t. text ++ 44 ∷ t) (joined_numbers (signed_decimal n) ns)

pub row_line_is : (e : TraceRow) → row_line e ≡ row_content e ++ 10 ∷ []
row_line_is e = ap (λ t. (codes "ran," ++ t) ++ 10 ∷ []) (joined_numbers e.name e.params)

pub row_free : (e : TraceRow) → IsSpelled e → is_free_of 10 (row_content e) ≡ true
row_free e s = free_append 10 (codes "ran,") (e.name ++ number_fields e.params) refl
    (free_append 10 e.name (number_fields e.params) (name_free 10 refl e.name s.name) (fields_free e.params s.params))

-- a text that begins with a row
pub row_split : (e : TraceRow) (rest : List ℕ) → row_line e ++ rest ≡ row_content e ++ 10 ∷ rest
row_split e rest = ap (λ t. t ++ rest) (row_line_is e) ∙ append_assoc (row_content e) (10 ∷ []) rest

-- only equal numbers are printed alike
pub same_numbers : (ms ns : List ℤ) → list_all is_number ms ≡ true → list_all is_number ns ≡ true → number_fields ms ≡ number_fields ns → ms ≡ ns
same_numbers [] [] h k e = refl
same_numbers [] (n ∷ ns) h k e = cc
same_numbers (m ∷ ms) [] h k e = cc
same_numbers (m ∷ ms) (n ∷ ns) h k e =
    let fm = first_so (is_number m) (list_all is_number ms) h in
    let fn = first_so (is_number n) (list_all is_number ns) k in
    let tail : signed_decimal m ++ number_fields ms ≡ signed_decimal n ++ number_fields ns = cc in
    let r = cut_once 44 (signed_decimal m) (signed_decimal n) (number_fields ms) (number_fields ns)
    (signed_free 44 m fm refl refl) (signed_free 44 n fn refl refl) (fields_open ms) (fields_open ns) tail in
    let first = same_number m n fm fn r.0 in
    let later = same_numbers ms ns (second_so (is_number m) (list_all is_number ms) h) (second_so (is_number n) (list_all is_number ns) k) r.1 in
    λ i. first i ∷ later i

-- only equal rows are printed alike
pub same_content : (d e : TraceRow) → IsSpelled d → IsSpelled e → row_content d ≡ row_content e → d ≡ e
same_content d e s t h =
    let tail : d.name ++ number_fields d.params ≡ e.name ++ number_fields e.params = cc in
    let r = cut_once 44 d.name e.name (number_fields d.params) (number_fields e.params)
    (name_free 44 refl d.name s.name) (name_free 44 refl e.name t.name) (fields_open d.params)
    (fields_open e.params) tail in
    let params = same_numbers d.params e.params s.params t.params r.1 in
    λ i. record { name = r.0 i; params = params i }

-- a text begins with at most one row
pub same_row : (d e : TraceRow) (rd re : List ℕ) → IsSpelled d → IsSpelled e → row_line d ++ rd ≡ row_line e ++ re → (d ≡ e) × (rd ≡ re)
same_row d e rd re s t h =
    let r = cut_once 10 (row_content d) (row_content e) (10 ∷ rd) (10 ∷ re) (row_free d s) (row_free e t) refl refl
    (sym (row_split d rd) ∙ h ∙ row_split e re) in
    (same_content d e s t r.0, cc)

-- and with at most one head
pub head_split : (n : ℕ) (rest : List ℕ) → head_line n ++ rest ≡ codes "trace," ++ (decimal n ++ 10 ∷ rest)
head_split n rest = ap (λ t. codes "trace," ++ t) (append_assoc (decimal n) (10 ∷ []) rest)

pub same_head : (m n : ℕ) (rm rn : List ℕ) → m ≤ 1000000 → n ≤ 1000000 → head_line m ++ rm ≡ head_line n ++ rn → (m ≡ n) × (rm ≡ rn)
same_head m n rm rn h k e =
    let whole : codes "trace," ++ (decimal m ++ 10 ∷ rm) ≡ codes "trace," ++ (decimal n ++ 10 ∷ rn) = sym (head_split m rm) ∙ e ∙ head_split n rn in
    let tail : decimal m ++ 10 ∷ rm ≡ decimal n ++ 10 ∷ rn = cc in
    let r = cut_once 10 (decimal m) (decimal n) (10 ∷ rm) (10 ∷ rn) (decimal_free 10 m (omega arith) refl)
    (decimal_free 10 n (omega arith) refl) refl refl tail in
    (decimal_injective m n (omega arith) (omega arith) r.0, cc)
