-- A unit with a closing mark ends at the first byte that ends it.
use Rattle.std.proofs.Common.{◌≡◌, ℕ, suc, ◌+◌, ◌<◌, ◌≤◌, Bool, true, List, [], ◌∷◌, ◌++◌, length, take, Option, Some, None, refl, sym, ◌∙◌, subst}
use Rattle.std.proofs.Common.{inl, inr, arith}
use Rattle.std.proofs.lemmas.Bool.{cases_Bool, false≢true, cond-true, cond-false}
use Rattle.std.specs.Option.{option_map}
use Rattle.jdf_lex.specs.declared.lexical_unit.LexicalUnit.{LexicalUnit}
use Rattle.jdf_lex.specs.Spelling.{ends_unit, affects_next, is_empty, is_closed}
use Rattle.jdf_lex.specs.Reading.{closed_len}
use Rattle.list_lemmas.proofs.Truth.{chosen}

abbrev Length : Type 0
Length = Option ℕ

abbrev some_length : ℕ → Length
some_length n = Some n

abbrev no_length : Length
no_length = None

pub one_more : (n : ℕ) → suc n ≡ 1 + n
one_more n = omega arith

pub add_length_found : (n : ℕ) (o : Length) (m : ℕ) → option_map (λ len. n + len) o ≡ some_length m → (k : ℕ) × (o ≡ some_length k) × (m ≡ n + k)
add_length_found n None m e = absurd (cc)
add_length_found n (Some k) m e = (k, refl, cc)

pub add_length_none : (n : ℕ) (o : Length) → option_map (λ len. n + len) o ≡ no_length → o ≡ no_length
add_length_none n None e = refl
add_length_none n (Some k) e = absurd (cc)

pub record IsClosedIn (p : LexicalUnit) (h : Bool) (xs : List ℕ) (m : ℕ) : Type 0 where
  pub nonempty : 0 < m
  pub within : m ≤ length xs
  pub closed : is_closed p h (take m xs) ≡ true

pub closed_found : (p : LexicalUnit) (h : Bool) (xs : List ℕ) (m : ℕ) → closed_len p h xs ≡ some_length m → IsClosedIn p h xs m
closed_found p h [] m e = absurd (cc)
closed_found p h (b ∷ bs) m e =
    let affected = affects_next p h b in
    elim (chosen (ends_unit p h b) (some_length 1) (option_map (λ len. 1 + len) (closed_len p affected bs)) (some_length m) e) [
      | inl ends ↦
          let one : 1 ≡ m = (let same : some_length 1 ≡ some_length m = ends.1 in cc) in
          subst (λ n. IsClosedIn p h (b ∷ bs) n) one
          (record { nonempty = omega arith; within = omega arith; closed = cond-true (ends_unit p h b) true (is_closed p affected []) ends.0 })
      | inr goes ↦
          let found = add_length_found 1 (closed_len p affected bs) m goes.1 in
          let later = closed_found p affected bs found.0 found.1 in
          let size : suc found.0 ≡ m = one_more found.0 ∙ sym found.2 in
          subst (λ n. IsClosedIn p h (b ∷ bs) n) size
          (record {
            nonempty = omega arith;
            within = omega (arith, later.within);
            closed = cond-false (ends_unit p h b) (is_empty (take found.0 bs)) (is_closed p affected (take found.0 bs)) goes.0 ∙ later.closed;
          })
    ]

empty_more : (bs more : List ℕ) → is_empty bs ≡ true → is_empty (bs ++ more) ≡ true → more ≡ []
empty_more [] [] e f = refl
empty_more [] (m ∷ ms) e f = absurd (false≢true f)
empty_more (b ∷ bs) more e f = absurd (false≢true e)

-- If a word ends at the first such byte, no longer word does.
pub closed_once : (p : LexicalUnit) (h : Bool) (w more : List ℕ) → is_closed p h w ≡ true → is_closed p h (w ++ more) ≡ true → more ≡ []
closed_once p h [] more e f = absurd (false≢true e)
closed_once p h (b ∷ bs) more e f =
    let t = ends_unit p h b in
    let affected = affects_next p h b in
    elim (cases_Bool t) [
      | inl ends ↦
          empty_more bs more (sym (cond-true t (is_empty bs) (is_closed p affected bs) ends) ∙ e)
          (sym (cond-true t (is_empty (bs ++ more)) (is_closed p affected (bs ++ more)) ends) ∙ f)
      | inr goes ↦
          closed_once p affected bs more (sym (cond-false t (is_empty bs) (is_closed p affected bs) goes) ∙ e)
          (sym (cond-false t (is_empty (bs ++ more)) (is_closed p affected (bs ++ more)) goes) ∙ f)
    ]

-- If no such byte is found, no front ends at one.
pub closed_none : (p : LexicalUnit) (h : Bool) (xs : List ℕ) → closed_len p h xs ≡ no_length → (w after : List ℕ) → xs ≡ w ++ after → is_closed p h w ≡ true → ⊥
closed_none p h xs e [] after is closed = false≢true closed
closed_none p h [] e (b ∷ w) after is closed = cc
closed_none p h (x ∷ xs) e (b ∷ w) after is closed =
    let heads : x ≡ b = cc in
    let tails : xs ≡ w ++ after = cc in
    let t = ends_unit p h x in
    let affected = affects_next p h x in
    let here : is_closed p h (x ∷ w) ≡ true = subst (λ z. is_closed p h (z ∷ w) ≡ true) (sym heads) closed in
    elim (chosen t (some_length 1) (option_map (λ len. 1 + len) (closed_len p affected xs)) no_length e) [
      | inl ends ↦ (let never : some_length 1 ≡ no_length = ends.1 in cc)
      | inr goes ↦ closed_none p affected xs (add_length_none 1 (closed_len p affected xs) goes.1) w after tails
          (sym (cond-false t (is_empty w) (is_closed p affected w) goes.0) ∙ here)
    ]
