-- Lists of parts that grow by one.
use Rattle.std.proofs.Common.{◌≡◌, ℕ, suc, ◌+◌, ◌<◌, List, [], ◌∷◌, ◌++◌, take, length, get_or, flat_map, Option, Some, None, Result, refl, sym, ◌∙◌, ap, subst}
use Rattle.std.proofs.lemmas.List.{take_more}
use Rattle.ptg_base.specs.declared.refusal.Refusal.{Refusal}
use Rattle.list_lemmas.proofs.Joins.{flat_map_push}
use Rattle.type_rules.specs.TreesAndFaults.{JdfFault}
use Rattle.type_rules.specs.Returns.{ReturnsChecked, both, each}

-- the parts of a list with one more element
pub each_more : {A B : Type 0} (f : A → Option B) (xs : List A) (x : A) → each f (xs ++ x ∷ []) ≡ both (λ ys y. ys ++ y ∷ []) (each f xs) (f x)
each_more {A} {B} f [] x = go (f x)
  where
    go : (o : Option B) → both (λ y ys. y ∷ ys) o (Some []) ≡ both (λ ys y. ys ++ y ∷ []) (Some []) o
    go None = refl
    go (Some y) = refl
each_more {A} {B} f (z ∷ xs) x = ap (both (λ y ys. y ∷ ys) (f z)) (each_more f xs x) ∙ go (f z) (each f xs) (f x)
  where
    go : (a : Option B) (b : Option (List B)) (c : Option B)
        → both (λ y ys. y ∷ ys) a (both (λ ys y. ys ++ y ∷ []) b c)
        ≡ both (λ ys y. ys ++ y ∷ []) (both (λ y ys. y ∷ ys) a b) c
    go None b c = refl
    go (Some y) None c = refl
    go (Some y) (Some ys) None = refl
    go (Some y) (Some ys) (Some z) = refl

-- the result for one more element of a list
pub next_part : {A B : Type 0} (f : A → Option B) (g : A → List JdfFault) (xs : List A) (i : ℕ) (x : A)
    (r : Result (List B) (Refusal JdfFault)) → i < length xs → x ≡ get_or xs i x
    → ReturnsChecked r (both (λ ys y. ys ++ y ∷ []) (each f (take i xs)) (f x)) (flat_map g (take i xs) ++ g x)
    → ReturnsChecked r (each f (take (i + 1) xs)) (flat_map g (take (i + 1) xs))
next_part f g xs i x r lt at h =
    let more : take i xs ++ x ∷ [] ≡ take (i + 1) xs = ap (λ y. take i xs ++ y ∷ []) at ∙ sym (take_more xs i x lt) in
    subst (λ l. ReturnsChecked r (each f l) (flat_map g l)) more
    (subst (λ o. ReturnsChecked r o (flat_map g (take i xs ++ x ∷ []))) (sym (each_more f (take i xs) x))
    (subst (λ l. ReturnsChecked r (both (λ ys y. ys ++ y ∷ []) (each f (take i xs)) (f x)) l) (sym (flat_map_push g (take i xs) x)) h))

-- the result of rules for one more element of a list
pub next_rule : {A : Type 0} (g : A → List JdfFault) (xs : List A) (i : ℕ) (x : A)
    (r : Result (Unit {0}) (Refusal JdfFault)) → i < length xs → x ≡ get_or xs i x
    → ReturnsChecked r (Some tt) (flat_map g (take i xs) ++ g x)
    → ReturnsChecked r (Some tt) (flat_map g (take (i + 1) xs))
next_rule g xs i x r lt at h =
    let more : take i xs ++ x ∷ [] ≡ take (i + 1) xs = ap (λ y. take i xs ++ y ∷ []) at ∙ sym (take_more xs i x lt) in
    subst (λ l. ReturnsChecked r (Some tt) (flat_map g l)) more (subst (λ l. ReturnsChecked r (Some tt) l) (sym (flat_map_push g (take i xs) x)) h)

-- there are as many parts as elements
pub each_length : {A B : Type 0} (f : A → Option B) (xs : List A) (ys : List B) → each f xs ≡ Some ys → length ys ≡ length xs
each_length {A} {B} f [] ys e = let same : [] ≡ ys = cc in ap length (sym same)
each_length {A} {B} f (x ∷ xs) ys e = go (f x) (each f xs) (each_length f xs) e
  where
    go : (a : Option B) (b : Option (List B)) → ((zs : List B) → b ≡ Some zs → length zs ≡ length xs)
        → both (λ z zs. z ∷ zs) a b ≡ Some ys → length ys ≡ length (x ∷ xs)
    go None b more e = absurd cc
    go (Some z) None more e = absurd cc
    go (Some z) (Some zs) more e = let same : z ∷ zs ≡ ys = cc in ap length (sym same) ∙ ap (λ n. suc n) (more zs refl)
