-- The integers of data have 64 bits.
use Rattle.std.proofs.Common.{◌≡◌, ℕ, zero, suc, ◌+◌, ◌≤◌, ◌==◌, ℤ, pos, true, cond, List, [], ◌∷◌, Option, Some, None}
use Rattle.std.proofs.Common.{option_map, codes, refl, ap, sym, subst, arith, inl, inr}
use Rattle.std.specs.Prelude.{neg_ℤ, nat_le, Ok}
use Rattle.std.specs.List.{list_all}
use Rattle.std.proofs.lemmas.Bool.{and_parts, leb-true, lt-ltb}
use Rattle.std.proofs.lemmas.Option.{same_Some}
use Rattle.ptg_base.specs.Decimal.{decimal, is_decimal, is_digit}
use Rattle.ptg_base.specs.Limits.{most_number}
use Rattle.list_lemmas.proofs.Members.{from_filter_map, list_all-from_members}
use Rattle.list_lemmas.proofs.Truth.{chosen}
use Rattle.term_core.specs.Arith.{is_number}
use Rattle.coll_data.specs.Data.{Data}
use Rattle.data_read.specs.Fields.{begins, field, negative, positive, whole}
use Rattle.data_read.specs.Reading.{data_of}
use Rattle.data_laws.specs.Integers.{has_64_bits}
use Rattle.data_laws.specs.WholeRecords.{Record, int_in, ints_of}
use Rattle.data_laws.proofs.AllRecords.{data_by_records}

decimal_within : (most : ℕ) (text : List ℕ) → is_decimal most text ≡ true → decimal text ≤ most
unfolding is_decimal
decimal_within most [] h = absurd cc
decimal_within most (b ∷ bs) h =
    leb-true (decimal (b ∷ bs)) most (and_parts (list_all is_digit (b ∷ bs)) (nat_le (decimal (b ∷ bs)) most) h).1

positive_number : (digits : List ℕ) (z : ℤ) → positive digits ≡ Some z → is_number z ≡ true
positive_number digits z e =
    elim (chosen (is_decimal most_number digits) (Some (pos (decimal digits))) None (Some z) e) [
      | inl p ↦
          let within = decimal_within most_number digits p.0 in
          subst (λ x. is_number x ≡ true) (same_Some (pos (decimal digits)) z p.1) (lt-ltb (decimal digits) 9223372036854775808 (omega arith))
      | inr p ↦ let k = p.1 in absurd cc
    ]

negated_number : (n : ℕ) → n ≤ 9223372036854775808 → is_number (neg_ℤ (pos n)) ≡ true
negated_number zero h = refl
negated_number (suc n) h = lt-ltb n 9223372036854775808 (omega arith)

negative_number : (digits : List ℕ) (z : ℤ) → negative digits ≡ Some z → is_number z ≡ true
negative_number digits z e =
    elim (chosen (is_decimal (most_number + 1) digits) (Some (neg_ℤ (pos (decimal digits)))) None (Some z) e) [
      | inl p ↦
          subst (λ x. is_number x ≡ true) (same_Some (neg_ℤ (pos (decimal digits))) z p.1)
          (negated_number (decimal digits) (decimal_within (most_number + 1) digits p.0))
      | inr p ↦ let k = p.1 in absurd cc
    ]

whole_number : (bytes : List ℕ) (z : ℤ) → whole bytes ≡ Some z → is_number z ≡ true
whole_number [] z e = absurd cc
whole_number (b ∷ bs) z e =
    elim (chosen (b == 45) (negative bs) (cond (b == 43) (positive bs) (positive (b ∷ bs))) (Some z) e) [
      | inl p ↦ negative_number bs z p.1
      | inr p ↦ elim (chosen (b == 43) (positive bs) (positive (b ∷ bs)) (Some z) p.1) [
        | inl q ↦ positive_number bs z q.1
        | inr q ↦ positive_number (b ∷ bs) z q.1
      ]
    ]

int_number : (fields : Record) (entry : List ℕ × ℤ) → int_in fields ≡ Some entry → has_64_bits entry ≡ true
int_number fields entry e =
    elim (chosen (begins (codes "int") fields) (option_map (λ z. (field fields 1, z)) (whole (field fields 2))) None (Some entry) e) [
      | inl p ↦ go (whole (field fields 2)) refl p.1
      | inr p ↦ let k = p.1 in absurd cc
    ]
  where
    go : (o : Option ℤ) → whole (field fields 2) ≡ o → option_map (λ z. (field fields 1, z)) o ≡ Some entry → has_64_bits entry ≡ true
    go None f e = absurd cc
    go (Some z) f e = subst (λ x. has_64_bits x ≡ true) (same_Some (field fields 1, z) entry e) (whole_number (field fields 2) z f)

ints_numbers : (records : List Record) → list_all has_64_bits (ints_of records) ≡ true
ints_numbers records = list_all-from_members has_64_bits (ints_of records) (λ entry i.
    let p = from_filter_map int_in records entry i in
    int_number p.member entry p.gives)

pub integers_numbers : (text : List ℕ) (given : Data) → data_of text ≡ Ok given → list_all has_64_bits given.ints ≡ true
integers_numbers text given e =
    let all = data_by_records text given e in
    subst (λ ints. list_all has_64_bits ints ≡ true) (sym (ap (λ (d : Data). d.ints) all.3.data_are)) (ints_numbers all.1)
