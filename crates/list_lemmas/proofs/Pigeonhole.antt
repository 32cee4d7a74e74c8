-- A pigeonhole: a list without repeats whose members are all in another list that is no longer.
use Rattle.std.proofs.Common.{List, [], inl, inr, sym, ◌++◌, ◌∷◌, ◌≡◌, ap, arith, length, length-append, refl, subst}
use Rattle.std.proofs.Common.{◌≤◌}
use Rattle.ptg_base.specs.Lists.{HasNoRepeats, IsIn}
use Rattle.list_lemmas.proofs.Members.{IsIn-append_left, IsIn-append_right, from_append}

once-inserted : {A : Type 0} (us : List A) (x : A) (vs : List A) → HasNoRepeats (us ++ vs) → (IsIn x (us ++ vs) → ⊥)
    → HasNoRepeats (us ++ x ∷ vs)
once-inserted [] x vs h n = (n, h)
once-inserted (u ∷ us) x vs h n = (
  λ k. elim (from_append u us (x ∷ vs) k) [
    | inl a ↦ h.0 (IsIn-append_left u us vs a)
    | inr b ↦ elim b [ inl e ↦ n (inl (sym e)) | inr c ↦ h.0 (IsIn-append_right u us vs c) ]
  ],
  once-inserted us x vs h.1 (λ k. n (inr k)),
)

with_this : {A : Type 0} (x : A) (xs us vs : List A) → ((z : A) → IsIn z (us ++ vs) → IsIn z xs) → (z : A)
    → IsIn z (us ++ x ∷ vs) → IsIn z (x ∷ xs)
with_this x xs us vs f z h = elim (from_append z us (x ∷ vs) h) [
  | inl a ↦ inr (f z (IsIn-append_left z us vs a))
  | inr b ↦ elim b [ inl e ↦ inl e | inr c ↦ inr (f z (IsIn-append_right z us vs c)) ]
]

without_this : {A : Type 0} (x z : A) (us vs : List A) → (z ≡ x → ⊥) → IsIn z (us ++ x ∷ vs) → IsIn z (us ++ vs)
without_this x z us vs n h = elim (from_append z us (x ∷ vs) h) [
  | inl a ↦ IsIn-append_left z us vs a
  | inr b ↦ elim b [ inl e ↦ absurd (n e) | inr c ↦ IsIn-append_right z us vs c ]
]

-- a list, split at one of its members
pub cut_at : {A : Type 0} (x : A) (ys : List A) → IsIn x ys → (us : List A) × (vs : List A) × (ys ≡ us ++ x ∷ vs)
cut_at x [] h = absurd h
cut_at x (y ∷ ys) h = elim h [
  | inl e ↦ ([], ys, ap (λ z. z ∷ ys) (sym e))
  | inr k ↦ let p = cut_at x ys k in (y ∷ p.0, p.1, ap (λ l. y ∷ l) p.2)
]

-- then the other list has no repeats and no other members
pub pigeonhole : {A : Type 0} (xs ys : List A) → HasNoRepeats xs → ((x : A) → IsIn x xs → IsIn x ys)
    → length ys ≤ length xs → HasNoRepeats ys × ((y : A) → IsIn y ys → IsIn y xs)
pigeonhole [] [] w among short = (tt, λ y h. h)
pigeonhole [] (y ∷ ys) w among short = absurd (omega arith)
pigeonhole (x ∷ xs) ys w among short =
    let c = cut_at x ys (among x (inl refl)) in
    let us = c.0 in
    let vs = c.1 in
    let l = ap length c.2 in
    let m = length-append us (x ∷ vs) in
    let n = length-append us vs in
    let r = pigeonhole xs (us ++ vs) w.1 (λ z h. without_this x z us vs (λ e. w.0 (subst (λ u. IsIn u xs) e h))
    (subst (IsIn z) c.2 (among z (inr h)))) (omega arith) in (
      subst HasNoRepeats (sym c.2) (once-inserted us x vs r.0 (λ k. w.0 (r.1 x k))),
      λ y h. with_this x xs us vs r.1 y (subst (IsIn y) c.2 h),
    )
