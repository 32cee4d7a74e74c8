-- Members of lists by their index.
use Rattle.std.proofs.Common.{◌≡◌, ℕ, suc, List, [], ◌∷◌, length, map, refl, ap, sym, ◌∙◌, inl, inr, Some, slice_get, arith}
use Rattle.ptg_base.specs.Lists.{IsIn}

-- the index of a member, and what another list of that length has there
pub record HasBoth {A : Type 0} (xs ys : List A) (y : A) : Type 0 where
  pub place : ℕ
  pub other : A
  pub before : slice_get xs place ≡ Some other
  pub after : slice_get ys place ≡ Some y

pub has_both : {A : Type 0} (xs ys : List A) (y : A) → length ys ≡ length xs → IsIn y ys → HasBoth xs ys y
has_both xs [] y n i = absurd i
has_both [] (z ∷ ys) y n i = absurd (omega arith)
has_both (x ∷ xs) (z ∷ ys) y n i = elim i [
  | inl e ↦ record { place = 0; other = x; before = refl; after = ap (λ u. Some u) (sym e) }
  | inr t ↦ let p = has_both xs ys y (omega arith) t in record { place = suc p.place; other = p.other; before = p.before; after = p.after }
]

-- two lists of one length whose members have the same view at each index
pub same_looks : {A B : Type 0} (f : A → B) (xs ys : List A) → length ys ≡ length xs
    → ((k : ℕ) (x y : A) → slice_get xs k ≡ Some x → slice_get ys k ≡ Some y → f y ≡ f x) → map f ys ≡ map f xs
same_looks f [] [] n h = refl
same_looks f (x ∷ xs) [] n h = absurd (omega arith)
same_looks f [] (y ∷ ys) n h = absurd (omega arith)
same_looks f (x ∷ xs) (y ∷ ys) n h =
    let rest = same_looks f xs ys (omega arith) (λ k. h (suc k)) in
    let here = h 0 x y refl refl in
    ap (λ u. u ∷ map f ys) here ∙ ap (λ us. f x ∷ us) rest
