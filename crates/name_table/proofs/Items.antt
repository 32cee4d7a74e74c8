-- What a list has at an index, before and after one more item.
use Rattle.std.proofs.Common.{◌≡◌, ℕ, zero, suc, true, false, List, [], ◌∷◌, ◌++◌, length, Option, Some, None, refl, ap, ◌∙◌}
use Rattle.std.specs.Prelude.{slice_get}
use Rattle.std.specs.Str.{bytes_eq}
use Rattle.std.proofs.lemmas.Slice.Eq.{bytes_eq-Decides}
use Rattle.name_table.specs.Index.{has_number}
use Rattle.std.proofs.lemmas.Option.{same_Some}
use Rattle.std.specs.Option.{option_map_or}

pub same_bytes : (a b : List ℕ) → bytes_eq a b ≡ true → a ≡ b
same_bytes a b e = (bytes_eq-Decides a b).0 e

pub bytes_same : (a b : List ℕ) → a ≡ b → bytes_eq a b ≡ true
bytes_same a b e = (bytes_eq-Decides a b).1 e

-- the name that has a number
pub number_has : (names : List (List ℕ)) (name : List ℕ) (i : ℕ) → has_number names name i ≡ true → slice_get names i ≡ Some name
number_has names name i h = go (slice_get names i) h
  where
    go : (r : Option (List ℕ)) → option_map_or (λ (n : List ℕ). bytes_eq n name) r false ≡ true → r ≡ Some name
    go (Some n) e = ap Some (same_bytes n name e)
    go None e = absurd cc

pub has_number_of : (names : List (List ℕ)) (name : List ℕ) (i : ℕ) → slice_get names i ≡ Some name → has_number names name i ≡ true
has_number_of names name i h = ap (λ (r : Option (List ℕ)). option_map_or (λ (n : List ℕ). bytes_eq n name) r false) h ∙ bytes_same name name refl

module _ {X : Type 0} where
  pub kept_at : (xs : List X) (y x : X) (i : ℕ) → slice_get xs i ≡ Some x → slice_get (xs ++ y ∷ []) i ≡ Some x
  kept_at [] y x i h = absurd cc
  kept_at (z ∷ xs) y x zero h = h
  kept_at (z ∷ xs) y x (suc i) h = kept_at xs y x i h

  pub last_at : (xs : List X) (y : X) → slice_get (xs ++ y ∷ []) (length xs) ≡ Some y
  last_at [] y = refl
  last_at (x ∷ xs) y = last_at xs y

  -- what a list with one more item has at an index, the list has there, or it is that item at the end
  pub old_or_last : (P : Type 0) (xs : List X) (y x : X) (i : ℕ) → slice_get (xs ++ y ∷ []) i ≡ Some x
      → (slice_get xs i ≡ Some x → P) → (i ≡ length xs → y ≡ x → P) → P
  old_or_last P [] y x zero h old last = last refl (same_Some y x h)
  old_or_last P [] y x (suc i) h old last = absurd cc
  old_or_last P (z ∷ xs) y x zero h old last = old h
  old_or_last P (z ∷ xs) y x (suc i) h old last = old_or_last P xs y x i h old (λ e s. last (ap suc e) s)

-- one more name changes no number of another name
pub number_kept : (names : List (List ℕ)) (new name : List ℕ) (i : ℕ) → bytes_eq new name ≡ false
    → has_number (names ++ new ∷ []) name i ≡ has_number names name i
number_kept [] new name zero e = e
number_kept [] new name (suc i) e = refl
number_kept (n ∷ names) new name zero e = refl
number_kept (n ∷ names) new name (suc i) e = number_kept names new name i e
