-- All members of a list have a property, or one lacks it; and lists that grow member by member for as long as one may
-- follow.
use Rattle.std.proofs.Common.{ℕ, zero, suc, ◌+◌, ◌≤◌, List, [], ◌∷◌, ◌++◌, length, refl, sym, subst, ◌⊎◌, inl, inr, arith, length-append}
use Rattle.ptg_base.specs.Lists.{IsIn}

-- if each member has the property or lacks it, all members have it, or one lacks it
pub all_or_one : {A : Type 0} (Has Lacks : A → Type 0) (xs : List A) → ((x : A) → IsIn x xs → Has x ⊎ Lacks x)
    → ((x : A) → IsIn x xs → Has x) ⊎ ((x : A) × IsIn x xs × Lacks x)
all_or_one Has Lacks [] decide = inl (λ x i. absurd i)
all_or_one Has Lacks (x ∷ xs) decide = elim (decide x (inl refl)) [
  | inr lacks ↦ inr (x, inl refl, lacks)
  | inl has ↦ elim (all_or_one Has Lacks xs (λ y i. decide y (inr i))) [
    | inr p ↦ inr (p.0, inr p.1, p.2)
    | inl all ↦ inl (λ y i. elim i [ inl e ↦ subst Has (sym e) has | inr later ↦ all y later ])
  ]
]

-- lists that begin empty and grow by members of `all` that may follow: they are never longer than `all`
module _ {A : Type 0} (all : List A) (MayFollow : List A → A → Type 0) (IsGrown : List A → Type 0)
    (decide : (xs : List A) (x : A) → IsIn x all → (MayFollow xs x → ⊥) ⊎ MayFollow xs x)
    (push : (xs : List A) (x : A) → IsGrown xs → MayFollow xs x → IsGrown (xs ++ x ∷ []))
    (few : (xs : List A) → IsGrown xs → length xs ≤ length all)
  where
    grow : (n : ℕ) (xs : List A) → IsGrown xs → length all ≤ length xs + n
        → (ys : List A) × IsGrown ys × ((x : A) → IsIn x all → MayFollow ys x → ⊥)
    grow zero xs grown room = elim (all_or_one (λ x. MayFollow xs x → ⊥) (MayFollow xs) all (decide xs)) [
      | inl none ↦ (xs, grown, none)
      | inr p ↦ absurd (omega (arith, room, few (xs ++ p.0 ∷ []) (push xs p.0 grown p.2), length-append xs (p.0 ∷ [])))
    ]
    grow (suc n) xs grown room = elim (all_or_one (λ x. MayFollow xs x → ⊥) (MayFollow xs) all (decide xs)) [
      | inl none ↦ (xs, grown, none)
      | inr p ↦ grow n (xs ++ p.0 ∷ []) (push xs p.0 grown p.2) (omega (arith, room, length-append xs (p.0 ∷ [])))
    ]

    -- such a list that no member may follow
    pub grown_to_the_end : IsGrown [] → (ys : List A) × IsGrown ys × ((x : A) → IsIn x all → MayFollow ys x → ⊥)
    grown_to_the_end none = grow (length all) [] none (omega arith)
