-- What a list has at an index.
use Rattle.std.proofs.Common.{List, Some, [], arith, length, refl, slice_get, suc, zero, ℕ, ◌<◌, ◌∷◌, ◌≡◌, inl, inr, ap}
use Rattle.std.proofs.Common.{slice_index_or, sym, IsSomeAnd, ◌++◌, ◌⊎◌, slice_set, ◌≢◌, drop, slice_index, Bool}
use Rattle.std.proofs.Common.{IsTrue, subst, set, cond, false, true, ◌+◌, ◌∙◌, pos, replicate, get_or}
use Rattle.std.proofs.lemmas.Iterator.Adapters.{position_from-zero}
use Rattle.std.specs.Cmp.{first_so, second_so}
use Rattle.std.specs.List.{list_all, AllByRecursion, position_from, position}
use Rattle.ptg_base.specs.Lists.{IsIn}

pub slice_get_there : {A : Type 0} (xs : List A) (n : ℕ) → n < length xs → (x : A) × (slice_get xs n ≡ Some x)
slice_get_there [] n h = absurd (omega arith)
slice_get_there (x ∷ xs) zero h = (x, refl)
slice_get_there (x ∷ xs) (suc n) h = slice_get_there xs n (omega arith)

-- at an index below its length a list has a member
pub slice_get_member : {A : Type 0} (xs : List A) (n : ℕ) → n < length xs
    → (x : A) × (slice_get xs n ≡ Some x) × IsIn x xs
slice_get_member [] n h = absurd (omega arith)
slice_get_member (x ∷ xs) zero h = (x, refl, inl refl)
slice_get_member (x ∷ xs) (suc n) h = let p = slice_get_member xs n (omega arith) in (p.0, p.1, inr p.2)

-- from `slice_index_or` to `slice_get`
pub slice_get_at : {A : Type 0} (xs : List A) (n : ℕ) (x : A) → n < length xs → x ≡ slice_index_or xs n x
    → slice_get xs n ≡ Some x
slice_get_at [] n x h e = absurd (omega arith)
slice_get_at (y ∷ ys) zero x h e = ap Some (sym e)
slice_get_at (y ∷ ys) (suc n) x h e = slice_get_at ys n x (omega arith) e

-- an index at which a list has an element is below its length
pub slice_get_below : {A : Type 0} (xs : List A) (n : ℕ) (Q : A → Type 0) → IsSomeAnd (slice_get xs n) Q → n < length xs
slice_get_below [] n Q h = absurd h
slice_get_below (x ∷ xs) zero Q h = omega arith
slice_get_below (x ∷ xs) (suc n) Q h = let k = slice_get_below xs n Q h in omega arith

-- what is at an index after a push was there before, or is the pushed element
pub slice_get_push : {A : Type 0} (xs : List A) (x : A) (k : ℕ) (y : A) → slice_get (xs ++ x ∷ []) k ≡ Some y
    → (slice_get xs k ≡ Some y) ⊎ (x ≡ y)
slice_get_push [] x zero y e = inr cc
slice_get_push [] x (suc k) y e = absurd cc
slice_get_push (z ∷ xs) x zero y e = inl e
slice_get_push (z ∷ xs) x (suc k) y e = slice_get_push xs x k y e

pub slice_get-set_other : {A : Type 0} (xs : List A) (k j : ℕ) (x : A) → j ≢ k
    → slice_get (slice_set xs k x) j ≡ slice_get xs j
slice_get-set_other [] k j x h = refl
slice_get-set_other (z ∷ zs) zero zero x h = absurd (h refl)
slice_get-set_other (z ∷ zs) zero (suc j) x h = refl
slice_get-set_other (z ∷ zs) (suc k) zero x h = refl
slice_get-set_other (z ∷ zs) (suc k) (suc j) x h = slice_get-set_other zs k j x (λ e. h (ap suc e))

-- a read returns what was written at its index
pub slice_get-set_same : {A : Type 0} (xs : List A) (k : ℕ) (x y : A) → slice_get (slice_set xs k x) k ≡ Some y → x ≡ y
slice_get-set_same [] k x y h = absurd cc
slice_get-set_same (z ∷ zs) zero x y h = cc
slice_get-set_same (z ∷ zs) (suc k) x y h = slice_get-set_same zs k x y h

-- a list from an index on: the element there, and the list from the next index on
pub drop_from : {A : Type 0} (xs : List A) (k : ℕ) (x : A) → slice_get xs k ≡ Some x → drop k xs ≡ x ∷ drop (suc k) xs
drop_from [] k x e = absurd cc
drop_from (y ∷ xs) zero x e = let same : y ≡ x = cc in ap (λ z. z ∷ xs) same
drop_from (y ∷ xs) (suc k) x e = drop_from xs k x e

pub IsIn-slice_get : {A : Type 0} (xs : List A) (k : ℕ) (x : A) → slice_get xs k ≡ Some x → IsIn x xs
IsIn-slice_get [] k x e = absurd cc
IsIn-slice_get (y ∷ ys) zero x e = inl cc
IsIn-slice_get (y ∷ ys) (suc k) x e = inr (IsIn-slice_get ys k x e)

-- a member has an index
pub place_of_member : {A : Type 0} (xs : List A) (x : A) → IsIn x xs → (n : ℕ) × (slice_get xs n ≡ Some x)
place_of_member [] x i = absurd i
place_of_member (y ∷ ys) x i = elim i [
  | inl e ↦ (0, ap (λ z. Some z) (sym e))
  | inr j ↦ let p = place_of_member ys x j in (suc p.0, p.1)
]

pub index_of_member : {A : Type 0} (y : A) (xs : List A) → IsIn y xs
    → (k : ℕ) × (k < length xs) × ((d : A) → get_or xs k d ≡ y)
index_of_member y [] i = absurd i
index_of_member y (x ∷ xs) i = elim i [
  | inl e ↦ (0, omega arith, λ d. sym e)
  | inr t ↦ let p = index_of_member y xs t in (suc p.0, omega (arith, p.1), λ d. p.2 d)
]

-- from `slice_get` to `slice_index`
pub slice_index_at : (ns : List ℕ) (k n : ℕ) → slice_get ns k ≡ Some n → slice_index ns k ≡ n
slice_index_at [] k n e = absurd cc
slice_index_at (m ∷ ns) zero n e = cc
slice_index_at (m ∷ ns) (suc k) n e = slice_index_at ns k n e

pub passes_at : {A : Type 0} (p : A → Bool) (xs : List A) (i : ℕ) (x : A) → IsTrue (list_all p xs)
    → slice_get xs i ≡ Some x → IsTrue (p x)
passes_at p [] zero x h e = absurd cc
passes_at p [] (suc i) x h e = absurd cc
passes_at p (y ∷ ys) zero x h e = let same : y ≡ x = cc in subst (λ z. IsTrue (p z)) same (first_so (p y) (list_all p ys) h)
passes_at p (y ∷ ys) (suc i) x h e = passes_at p ys i x (second_so (p y) (list_all p ys) h) e

pub each_at : {A : Type 0} (P : A → Type 0) (xs : List A) (i : ℕ) (x : A) → AllByRecursion P xs
    → slice_get xs i ≡ Some x → P x
each_at P [] zero x h e = absurd cc
each_at P [] (suc i) x h e = absurd cc
each_at P (y ∷ ys) zero x h e = let same : y ≡ x = cc in subst P same h.0
each_at P (y ∷ ys) (suc i) x h e = each_at P ys i x h.1 e

pub each_weaker : {A : Type 0} (P Q : A → Type 0) (xs : List A) → ((x : A) → P x → Q x) → AllByRecursion P xs
    → AllByRecursion Q xs
each_weaker P Q [] each all = tt
each_weaker P Q (x ∷ xs) each all = (each x all.0, each_weaker P Q xs each all.1)

pub each_set : {A : Type 0} (P : A → Type 0) (xs : List A) (i : ℕ) (x : A) → AllByRecursion P xs → P x
    → AllByRecursion P (set xs i x)
each_set P [] i x all one = tt
each_set P (y ∷ ys) zero x all one = (one, all.1)
each_set P (y ∷ ys) (suc i) x all one = (all.0, each_set P ys i x all.1 one)

pub each_push : {A : Type 0} (P : A → Type 0) (xs : List A) (x : A) → AllByRecursion P xs → P x
    → AllByRecursion P (xs ++ x ∷ [])
each_push P [] x all one = (one, tt)
each_push P (y ∷ ys) x all one = (all.0, each_push P ys x all.1 one)

-- the index that `position` finds is within the list
from_within : {A : Type 0} (p : A → Bool) (i : ℕ) (xs : List A) (n : ℕ) → position_from p i xs ≡ Some n
    → n < i + length xs
from_within p i [] n e = absurd cc
from_within {A} p i (x ∷ xs) n e = go (p x) e (from_within p (i + 1) xs n)
  where
    go : (b : Bool) → cond b (Some i) (position_from p (i + 1) xs) ≡ Some n
        → (position_from p (i + 1) xs ≡ Some n → n < (i + 1) + length xs) → n < i + length (x ∷ xs)
    go true f more = let same : i ≡ n = cc in omega (arith, same)
    go false f more = omega (arith, more f)

pub position_within : {A : Type 0} (p : A → Bool) (xs : List A) (n : ℕ) → position p xs ≡ Some n → n < length xs
position_within p xs n e = let f : position_from p 0 xs ≡ Some n = sym (position_from-zero p xs) ∙ e in omega (arith, from_within p 0 xs n f)

pub length-zeros : (n : ℕ) → length (replicate n (pos 0)) ≡ n
length-zeros zero = refl
length-zeros (suc n) = ap suc (length-zeros n)
