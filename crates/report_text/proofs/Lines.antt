-- The parts of a line, in the order in which they are put.
use lib.Signed.{le_z}
use Rattle.std.proofs.lemmas.Int.{ints}
use Rattle.std.proofs.Common.{◌≡◌, ℕ, ℤ, pos, negsuc, nat_abs, false, List, [], ◌∷◌, ◌++◌, map, flat_map, sym, ap, ◌∙◌, refl, append_assoc, arith, append-nil}
use Rattle.std.specs.List.{join_with_byte}
use Rattle.std.specs.Fmt.{decimal, signed_decimal}
use Rattle.std.proofs.lemmas.List.Concat.{flat_map-append}
use Rattle.report_text.specs.declared.fields.Field.{Field}
use Rattle.report_text.specs.Field.{field_texts, line, with_commas}

joined : (word : List ℕ) (texts : List (List ℕ)) → join_with_byte 44 (word ∷ texts) ≡ word ++ with_commas texts
joined word [] = sym (append-nil word)
joined word (text ∷ texts) = ap (λ t. word ++ 44 ∷ t) (joined text texts)

-- the texts of fields, field by field
each_field : (fields : List Field) → with_commas (flat_map field_texts fields) ≡ flat_map (λ field. with_commas (field_texts field)) fields
each_field [] = refl
each_field (field ∷ fields) =
    flat_map-append (λ (text : List ℕ). 44 ∷ text) (field_texts field) (flat_map field_texts fields)
    ∙ ap (λ t. with_commas (field_texts field) ++ t) (each_field fields)

-- a word, fields and LF
pub line_parts : (word : List ℕ) (fields : List Field) → line (word ∷ flat_map field_texts fields)
    ≡ word ++ (flat_map (λ field. with_commas (field_texts field)) fields ++ 10 ∷ [])
line_parts word fields =
    let texts = flat_map (λ (field : Field). with_commas (field_texts field)) fields in
    ap (λ t. t ++ 10 ∷ []) (joined word (flat_map field_texts fields) ∙ ap (λ t. word ++ t) (each_field fields))
    ∙ append_assoc word texts (10 ∷ [])

-- one text
pub one_text : (text : List ℕ) → with_commas (text ∷ []) ≡ 44 ∷ text
one_text text = append-nil (44 ∷ text)

-- integers
pub integer_texts : (integers : List ℤ) → with_commas (map signed_decimal integers) ≡ flat_map (λ n. 44 ∷ signed_decimal n) integers
integer_texts [] = refl
integer_texts (n ∷ integers) = ap (λ t. (44 ∷ signed_decimal n) ++ t) (integer_texts integers)

-- a negative integer is written with a sign
pub negative_text : (n : ℤ) (m : ℕ) → le_z (pos 0) n ≡ false → m ≡ nat_abs n → signed_decimal n ≡ 45 ∷ decimal m
negative_text (pos k) m low is = absurd (grind (arith, ints))
negative_text (negsuc k) m low is = rw is refl
