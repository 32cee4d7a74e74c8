-- The values of a tile, one field after another.
use Rattle.std.proofs.Common.{◌≡◌, ℕ, zero, suc, ◌+◌, ◌-◌, ◌<◌, ◌≤◌, ℤ, pos, List, [], ◌∷◌, ◌++◌, length, take, get_or, set, replicate, Option, Some}
use Rattle.std.proofs.Common.{None, option_map, option_and_then, refl, sym, ◌∙◌, ap, arith, append_assoc, length-append}
use Rattle.std.proofs.lemmas.List.{take_more, take_all, set_at, length_push, length-replicate, length-take-le}
use Rattle.data_read.specs.Fields.{whole, without_blanks}
use Rattle.data_read.specs.Draft.{opened}
use Rattle.data_read.specs.Records.{numbers}

-- ---- numbers, field by field

abbrev joined : Option ℤ → Option (List ℤ) → Option (List ℤ)
joined o p = option_and_then (λ z. option_map (λ zs. z ∷ zs) p) o

record AreJoined (o : Option ℤ) (p : Option (List ℤ)) (all : List ℤ) : Type 0 where
  first : ℤ
  rest : List ℤ
  is_first : o ≡ Some first
  is_rest : p ≡ Some rest
  is_all : first ∷ rest ≡ all

joined_parts : (o : Option ℤ) (p : Option (List ℤ)) (all : List ℤ) → joined o p ≡ Some all → AreJoined o p all
joined_parts None p all e = absurd cc
joined_parts (Some z) None all e = absurd cc
joined_parts (Some z) (Some zs) all e = record { first = z; rest = zs; is_first = refl; is_rest = refl; is_all = cc }

joined_none : (o : Option ℤ) (p : Option (List ℤ)) → p ≡ None → joined o p ≡ None
joined_none None p e = refl
joined_none (Some z) p e = rw e refl

numbers_push : (fields : List (List ℕ)) (zs : List ℤ) (bytes : List ℕ) (z : ℤ) → numbers fields ≡ Some zs
    → whole (without_blanks bytes) ≡ Some z → numbers (fields ++ bytes ∷ []) ≡ Some (zs ++ z ∷ [])
numbers_push [] zs bytes z all one = let none : [] ≡ zs = cc in ap (λ o. joined o (Some [])) one ∙ ap (λ (ys : List ℤ). Some (ys ++ z ∷ [])) none
numbers_push (g ∷ fields) zs bytes z all one =
    let parts = joined_parts (whole (without_blanks g)) (numbers fields) zs all in
    let more = numbers_push fields parts.rest bytes z parts.is_rest one in
    ap (joined (whole (without_blanks g))) more ∙ ap (λ o. joined o (Some (parts.rest ++ z ∷ []))) parts.is_first
    ∙ ap (λ (ys : List ℤ). Some (ys ++ z ∷ [])) parts.is_all

pub numbers_length : (fields : List (List ℕ)) (zs : List ℤ) → numbers fields ≡ Some zs → length zs ≡ length fields
numbers_length [] zs all = let none : [] ≡ zs = cc in ap length (sym none)
numbers_length (g ∷ fields) zs all =
    let parts = joined_parts (whole (without_blanks g)) (numbers fields) zs all in
    let rest = numbers_length fields parts.rest parts.is_rest in
    let size : length zs ≡ length (parts.first ∷ parts.rest) = ap length (sym parts.is_all) in
    omega arith

-- a field spells no number
pub no_numbers : (fields : List (List ℕ)) (i : ℕ) → i < length fields → whole (without_blanks (get_or fields i [])) ≡ None → numbers fields ≡ None
no_numbers [] i within e = absurd (omega arith)
no_numbers (g ∷ fields) zero within e = ap (λ o. joined o (numbers fields)) e
no_numbers (g ∷ fields) (suc i) within e = joined_none (whole (without_blanks g)) (numbers fields) (no_numbers fields i (omega arith) e)

-- ---- the tile of the fields so far

pub record IsOpening (elements : ℕ) (fields : List (List ℕ)) (tile : List ℤ) : Type 0 where
  pub values : List ℤ
  pub all : numbers fields ≡ Some values
  pub made : tile ≡ opened elements values

pub length_opened : (elements : ℕ) (values : List ℤ) → length values ≤ elements → length (opened elements values) ≡ elements
length_opened elements values few = omega (
  arith,
  length-append values (replicate (elements - length values) (pos 0)),
  length-replicate
      (elements - length values) (pos 0),
)

opened_more : (elements : ℕ) (values : List ℤ) (z : ℤ) → length values < elements
    → set (opened elements values) (length values) z ≡ opened elements (values ++ z ∷ [])
opened_more elements values z room =
    let left : elements - length values ≡ suc (elements - length (values ++ z ∷ [])) = omega (arith, length_push values z) in
    let zeros = replicate (elements - length (values ++ z ∷ [])) (pos 0) in
    ap (λ n. set (values ++ replicate n (pos 0)) (length values) z) left
    ∙ set_at values (pos 0) zeros z (length values) refl
    ∙ sym (append_assoc values (z ∷ []) zeros)

pub opening_first : (elements : ℕ) (tile : List ℤ) → tile ≡ replicate elements (pos 0) → IsOpening elements [] tile
opening_first elements tile zeros = record {
  values = [];
  all = refl;
  made = zeros
      ∙ ap (λ n. replicate n (pos 0)) (let all : elements ≡ elements - 0 = omega arith in all);
}

pub opening_more : (elements : ℕ) (fields : List (List ℕ)) (i : ℕ) (z : ℤ) (tile next : List ℤ) → i < length fields → length fields ≤ elements
    → IsOpening elements (take i fields) tile → whole (without_blanks (get_or fields i [])) ≡ Some z
    → next ≡ set tile i z → IsOpening elements (take (i + 1) fields) next
opening_more elements fields i z tile next within few opening one is =
    let front : length (take i fields) ≡ i = length-take-le i fields (omega arith) in
    let size : length opening.values ≡ i = numbers_length (take i fields) opening.values opening.all ∙ front in
    record {
      values = opening.values ++ z ∷ [];
      all = ap numbers (take_more fields i [] within) ∙ numbers_push (take i fields) opening.values (get_or fields i []) z opening.all one;
      made =
          is ∙ ap (λ t. set t i z) opening.made ∙ ap (λ n. set (opened elements opening.values) n z) (sym size)
          ∙ opened_more elements opening.values z (omega (arith, size));
    }

pub opening_last : (elements : ℕ) (fields : List (List ℕ)) (tile : List ℤ) (n : ℕ)
    → IsOpening elements (take n fields) tile → length fields ≤ n
    → Some tile ≡ option_map (opened elements) (numbers fields)
opening_last elements fields tile n opening all =
    ap (λ (t : List ℤ). Some t) opening.made
    ∙ ap (option_map (opened elements)) (sym (ap numbers (sym (take_all n fields all)) ∙ opening.all))
