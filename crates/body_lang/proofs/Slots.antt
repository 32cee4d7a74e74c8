-- The slots of the variables that are seen.
use Rattle.std.proofs.Common.{◌≡◌, ℕ, zero, suc, ◌<◌, ◌≤◌, Bool, true, false, cond, List, [], ◌∷◌, ◌++◌, take, sym, subst, arith}
use Rattle.std.specs.Prelude.{Some, reverse, find}
use Rattle.std.proofs.lemmas.List.{reverse-append}
use Rattle.body_lang.specs.declared.variable.Variable.{Variable}

-- each slot is at least `first` and below `end`
abbrev pub AreSlots : ℕ → ℕ → List Variable → Type 0
AreSlots first end [] = Unit {0}
AreSlots first end (v ∷ vs) = (first ≤ v.slot) × (v.slot < end) × AreSlots first end vs

pub slots_append : (first end : ℕ) (xs ys : List Variable) → AreSlots first end xs → AreSlots first end ys → AreSlots first end (xs ++ ys)
slots_append first end [] ys h k = k
slots_append first end (v ∷ vs) ys h k = (h.0, h.1, slots_append first end vs ys h.2 k)

pub slots_take : (first end n : ℕ) (xs : List Variable) → AreSlots first end xs → AreSlots first end (take n xs)
slots_take first end zero [] h = tt
slots_take first end zero (v ∷ vs) h = tt
slots_take first end (suc n) [] h = tt
slots_take first end (suc n) (v ∷ vs) h = (h.0, h.1, slots_take first end n vs h.2)

pub slots_raise : (first end later : ℕ) (xs : List Variable) → end ≤ later → AreSlots first end xs → AreSlots first later xs
slots_raise first end later [] le h = tt
slots_raise first end later (v ∷ vs) le h = let a = h.1 in (h.0, omega (arith, a, le), slots_raise first end later vs le h.2)

slots_reverse : (first end : ℕ) (xs : List Variable) → AreSlots first end xs → AreSlots first end (reverse xs)
slots_reverse first end [] h = tt
slots_reverse first end (v ∷ vs) h =
    let e : reverse (v ∷ vs) ≡ reverse vs ++ v ∷ [] = reverse-append (v ∷ []) vs in
    subst (λ (l : List Variable). AreSlots first end l) (sym e) (slots_append first end (reverse vs) (v ∷ []) (slots_reverse first end vs h.2) (h.0, h.1, tt))

-- the slot of a variable that is found is within the same bounds
slot_found : (first end : ℕ) (p : Variable → Bool) (xs : List Variable) (v : Variable) → AreSlots first end xs
    → find p xs ≡ Some v → (first ≤ v.slot) × (v.slot < end)
slot_found first end p [] v h e = absurd cc
slot_found first end p (x ∷ xs) v h e = first_or (p x) e (slot_found first end p xs v h.2)
  where
    first_or : (b : Bool) → cond b (Some x) (find p xs) ≡ Some v → (find p xs ≡ Some v → (first ≤ v.slot) × (v.slot < end)) → (first ≤ v.slot) × (v.slot < end)
    first_or true e later = let same : x ≡ v = cc in subst (λ (y : Variable). (first ≤ y.slot) × (y.slot < end)) same (h.0, h.1)
    first_or false e later = later e

pub last_found : (first end : ℕ) (p : Variable → Bool) (xs : List Variable) (v : Variable) → AreSlots first end xs
    → find p (reverse xs) ≡ Some v → (first ≤ v.slot) × (v.slot < end)
last_found first end p xs v h e = slot_found first end p (reverse xs) v (slots_reverse first end xs h) e
