-- Lists that are appended, mapped, joined and filtered.
use Rattle.std.proofs.Common.{List, [], refl, ◌++◌, ◌∷◌, ◌≡◌, ap, arith, length, suc, ◌∙◌, map, Option, Bool, true}
use Rattle.std.proofs.Common.{cond, ◌≤◌, None, Some, sym}
use Rattle.std.proofs.lemmas.Bool.{and_from}
use Rattle.std.proofs.lemmas.List.{length-append, map-append, append-nil, same_from_push}
use Rattle.std.proofs.lemmas.List.Concat.{flat_map-append}
use Rattle.std.proofs.lemmas.List.Elements.{filter_map-append}
use Rattle.std.specs.Cmp.{first_so, second_so}
use Rattle.std.specs.List.{flat_map, filter_map, list_all, filter, cons_option}
use Rattle.list_lemmas.proofs.Truth.{by_test}

pub first_nil : {A : Type 0} (xs ys : List A) → xs ++ ys ≡ [] → xs ≡ []
first_nil [] ys e = refl
first_nil (x ∷ xs) ys e = absurd cc

pub rest_nil : {A : Type 0} (xs ys : List A) → xs ++ ys ≡ [] → ys ≡ []
rest_nil [] ys e = e
rest_nil (x ∷ xs) ys e = absurd cc

-- lists with one more element at the end are the same only if these elements are
pub last_from_push : {A : Type 0} (xs ys : List A) (x y : A) → xs ++ x ∷ [] ≡ ys ++ y ∷ [] → x ≡ y
last_from_push xs ys x y e = (same_from_push xs ys x y e).1

-- of two fronts of a list, the shorter one is a front of the longer one
pub longer_front : {A : Type 0} (w a u b : List A) → w ++ a ≡ u ++ b → length w ≤ length u
    → (v : List A) × (u ≡ w ++ v) × (a ≡ v ++ b)
longer_front [] a u b e shorter = (u, refl, e)
longer_front (x ∷ w) a [] b e shorter = absurd (omega arith)
longer_front (x ∷ w) a (y ∷ u) b e shorter =
    let heads : x ≡ y = cc in
    let tails : w ++ a ≡ u ++ b = cc in
    let rest = longer_front w a u b tails (omega arith) in
    (rest.0, (λ i. sym heads i ∷ rest.1 i), rest.2)

-- one more element makes a list longer by one
pub length_longer : {A : Type 0} (old new : List A) (x : A) → new ≡ old ++ x ∷ [] → length new ≡ suc (length old)
length_longer {A} old new x e = ap (λ (l : List A). length l) e ∙ (length-append old (x ∷ []) ∙ omega arith)

pub map-map : {A B C : Type 0} (g : B → C) (f : A → B) (xs : List A) → map g (map f xs) ≡ map (λ x. g (f x)) xs
map-map g f [] = refl
map-map g f (x ∷ xs) = ap (λ l. g (f x) ∷ l) (map-map g f xs)

pub map-flat_map : {A B C : Type 0} (h : B → C) (f : A → List B) (xs : List A)
    → map h (flat_map f xs) ≡ flat_map (λ x. map h (f x)) xs
map-flat_map h f [] = refl
map-flat_map h f (x ∷ xs) = map-append h (f x) (flat_map f xs) ∙ ap (λ l. map h (f x) ++ l) (map-flat_map h f xs)

pub flat_map-same : {A B : Type 0} (f g : A → List B) → ((x : A) → f x ≡ g x) → (xs : List A)
    → flat_map f xs ≡ flat_map g xs
flat_map-same f g e [] = refl
flat_map-same f g e (x ∷ xs) = ap (λ l. l ++ flat_map f xs) (e x) ∙ ap (λ l. g x ++ l) (flat_map-same f g e xs)

pub flat_map_push : {A B : Type 0} (f : A → List B) (xs : List A) (x : A)
    → flat_map f (xs ++ x ∷ []) ≡ flat_map f xs ++ f x
flat_map_push f xs x = flat_map-append f xs (x ∷ []) ∙ ap (λ l. flat_map f xs ++ l) (append-nil (f x))

pub filter_map-flat_map : {A B C : Type 0} (h : B → Option C) (f : A → List B) (xs : List A)
    → filter_map h (flat_map f xs) ≡ flat_map (λ x. filter_map h (f x)) xs
filter_map-flat_map h f [] = refl
filter_map-flat_map h f (x ∷ xs) = filter_map-append h (f x) (flat_map f xs) ∙ ap (λ l. filter_map h (f x) ++ l) (filter_map-flat_map h f xs)

pub list_all-weaker : {A : Type 0} (p q : A → Bool) → ((x : A) → p x ≡ true → q x ≡ true) → (xs : List A)
    → list_all p xs ≡ true → list_all q xs ≡ true
list_all-weaker p q f [] h = refl
list_all-weaker p q f (x ∷ xs) h = and_from _ _ (f x (first_so _ _ h)) (list_all-weaker p q f xs (second_so _ _ h))

pub length-filter_le : {A : Type 0} (test : A → Bool) (xs : List A) → length (filter test xs) ≤ length xs
length-filter_le test [] = omega arith
length-filter_le test (x ∷ xs) =
    let rest = length-filter_le test xs in
    by_test (test x)
    (λ k. let a = ap (λ b. length (cond b (x ∷ filter test xs) (filter test xs))) k in omega (arith, a, rest))
    (λ k. let a = ap (λ b. length (cond b (x ∷ filter test xs) (filter test xs))) k in omega (arith, a, rest))

pub length-filter_map_le : {A B : Type 0} (h : A → Option B) (xs : List A) → length (filter_map h xs) ≤ length xs
length-filter_map_le h [] = omega arith
length-filter_map_le {A} {B} h (x ∷ xs) = by (h x) (length-filter_map_le h xs)
  where
    by : (o : Option B) → length (filter_map h xs) ≤ length xs
        → length (cons_option o (filter_map h xs)) ≤ suc (length xs)
    by None rest = omega (arith, rest)
    by (Some y) rest = omega (arith, rest)

-- if each part is no longer, the joined list is no longer
pub length-flat_map_le : {A B C : Type 0} (f : A → List B) (g : A → List C) (xs : List A)
    → ((x : A) → length (f x) ≤ length (g x)) → length (flat_map f xs) ≤ length (flat_map g xs)
length-flat_map_le f g [] h = omega arith
length-flat_map_le f g (x ∷ xs) h = omega (arith, h x, length-append (f x) (flat_map f xs), length-append (g x) (flat_map g xs), length-flat_map_le f g xs h)
