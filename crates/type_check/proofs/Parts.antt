-- If a function has a value at each element of a list: these values, element by element.
use Rattle.std.proofs.Common.{◌≡◌, ℕ, zero, suc, List, [], ◌∷◌, map, Option, Some, slice_get, sym, ◌∙◌, ap}
use Rattle.type_rules.specs.Returns.{each}
use Rattle.std.proofs.lemmas.Option.{same_Some}
use Rattle.type_rules.proofs.CallerLemmas.{parts_of}

pub parts_map : {A B C : Type 0} (f : A → Option B) (g : B → C) (k : A → C)
    → ((a : A) (b : B) → f a ≡ Some b → g b ≡ k a) → (xs : List A) (ys : List B) → each f xs ≡ Some ys
    → map g ys ≡ map k xs
parts_map f g k h [] ys e = ap (map g) (sym (same_Some [] ys e))
parts_map f g k h (x ∷ xs) ys e =
    let q = parts_of (λ y ys. y ∷ ys) (f x) (each f xs) ys e in
    let first = h x q.0 q.2 in
    let rest = parts_map f g k h xs q.1 q.3 in
    ap (map g) (sym q.4) ∙ (λ i. first i ∷ rest i)

-- the value at one element
pub part_at : {A B : Type 0} (f : A → Option B) (xs : List A) (ys : List B) (n : ℕ) (x : A) → each f xs ≡ Some ys
    → slice_get xs n ≡ Some x → (y : B) × (f x ≡ Some y) × (slice_get ys n ≡ Some y)
part_at f [] ys n x e at = absurd cc
part_at f (z ∷ xs) ys zero x e at =
    let q = parts_of (λ y ys. y ∷ ys) (f z) (each f xs) ys e in
    (q.0, ap f (sym (same_Some z x at)) ∙ q.2, ap (λ l. slice_get l zero) (sym q.4))
part_at f (z ∷ xs) ys (suc n) x e at =
    let q = parts_of (λ y ys. y ∷ ys) (f z) (each f xs) ys e in
    let r = part_at f xs q.1 n x q.3 at in
    (r.0, r.1, ap (λ l. slice_get l (suc n)) (sym q.4) ∙ r.2)
