-- Lists made element by element, with one element more or one element changed.
use Rattle.std.proofs.Common.{◌≡◌, ℕ, zero, suc, ◌+◌, ◌<◌, ◌≤◌, Bool, false, List, [], ◌∷◌, ◌++◌, map, set, replicate}
use Rattle.std.proofs.Common.{Option, Some, None, refl, sym, ◌∙◌, ap, arith}
use Rattle.std.specs.List.{AllByRecursion, cons_option, filter_map, list_any, range_with_len}
use Rattle.std.proofs.lemmas.Bool.{or_parts}
use Rattle.std.proofs.lemmas.List.{append-nil}
use Rattle.std.proofs.lemmas.List.Elements.{filter_map-append}

-- ---- what is kept of the elements

pub kept_push : {X Y : Type 0} (h : X → Option Y) (xs : List X) (x : X) (y : Y) → h x ≡ Some y → filter_map h (xs ++ x ∷ []) ≡ filter_map h xs ++ y ∷ []
kept_push h xs x y is = filter_map-append h xs (x ∷ []) ∙ ap (λ o. filter_map h xs ++ cons_option o []) is

pub left_out : {X Y : Type 0} (h : X → Option Y) (xs : List X) (x : X) → h x ≡ None → filter_map h (xs ++ x ∷ []) ≡ filter_map h xs
left_out h xs x none = filter_map-append h xs (x ∷ []) ∙ ap (λ o. filter_map h xs ++ cons_option o []) none ∙ append-nil (filter_map h xs)

pub kept_same : {X Y : Type 0} (h g : X → Option Y) (xs : List X) → AllByRecursion (λ x. h x ≡ g x) xs → filter_map h xs ≡ filter_map g xs
kept_same h g [] all = refl
kept_same h g (x ∷ xs) all = let first = all.0 in let rest = kept_same h g xs all.1 in λ i. cons_option (first i) (rest i)

pub none_kept : {X Y : Type 0} (h : X → Option Y) (xs : List X) → AllByRecursion (λ x. h x ≡ None) xs → filter_map h xs ≡ []
none_kept h [] all = refl
none_kept h (x ∷ xs) all = ap (λ o. cons_option o (filter_map h xs)) all.0 ∙ none_kept h xs all.1

-- ---- each element changed in the same way

pub map_same : {X Y : Type 0} (f g : X → Y) (xs : List X) → AllByRecursion (λ x. f x ≡ g x) xs → map f xs ≡ map g xs
map_same f g [] all = refl
map_same f g (x ∷ xs) all = let first = all.0 in let rest = map_same f g xs all.1 in λ i. first i ∷ rest i

pub all_of : {X : Type 0} (P : X → Type 0) (xs : List X) → ((x : X) → P x) → AllByRecursion P xs
all_of P [] each = tt
all_of P (x ∷ xs) each = (each x, all_of P xs each)

-- no element passes the test
pub none_pass : {X : Type 0} (p : X → Bool) (xs : List X) → list_any p xs ≡ false → AllByRecursion (λ x. p x ≡ false) xs
none_pass p [] none = tt
none_pass p (x ∷ xs) none = let parts = or_parts (p x) (list_any p xs) none in (parts.0, none_pass p xs parts.1)

-- ---- lists made from their indices

pub range_same : {X : Type 0} (f g : ℕ → X) (a n : ℕ) → ((k : ℕ) → a ≤ k → g k ≡ f k) → map g (range_with_len a n) ≡ map f (range_with_len a n)
range_same f g a zero same = refl
range_same f g a (suc n) same =
    let first = same a (omega arith) in
    let rest = range_same f g (a + 1) n (λ k above. same k (omega (arith, above))) in
    λ i. first i ∷ rest i

pub range_constant : {X : Type 0} (f : ℕ → X) (x : X) (a n : ℕ) → ((k : ℕ) → f k ≡ x) → map f (range_with_len a n) ≡ replicate n x
range_constant f x a zero same = refl
range_constant f x a (suc n) same =
    let first = same a in
    let rest = range_constant f x (a + 1) n same in
    λ i. first i ∷ rest i

pub range_set : {X : Type 0} (f g : ℕ → X) (a n i : ℕ) (v : X) → i < n → g (a + i) ≡ v
    → ((k : ℕ) → (k ≡ a + i → ⊥) → g k ≡ f k) → map g (range_with_len a n) ≡ set (map f (range_with_len a n)) i v
range_set f g a zero i v within is other = absurd (omega arith)
range_set f g a (suc n) zero v within is other =
    let here : a ≡ a + 0 = omega arith in
    let first : g a ≡ v = ap g here ∙ is in
    let rest = range_same f g (a + 1) n (λ k above. other k (λ same. absurd (omega (arith, same, above)))) in
    λ i. first i ∷ rest i
range_set f g a (suc n) (suc j) v within is other =
    let there : a + 1 + j ≡ a + suc j = omega arith in
    let first : g a ≡ f a = other a (λ same. absurd (omega (arith, same))) in
    let rest = range_set f g (a + 1) n j v (omega arith) (ap g there ∙ is) (λ k apart. other k (λ same. apart (same ∙ sym there))) in
    λ i. first i ∷ rest i
