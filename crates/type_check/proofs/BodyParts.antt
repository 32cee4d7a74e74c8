-- Properties of each part of a resolved body: of a result, if there is one, and of the elements of lists.
use Rattle.std.proofs.Common.{◌≡◌, ℕ, zero, suc, Bool, true, false, cond, List, [], ◌∷◌, ◌++◌, take, Some, Ok, Err, sym, subst}
use Rattle.std.specs.Prelude.{reverse, find}
use Rattle.std.specs.List.{AllByRecursion}
use Rattle.std.proofs.lemmas.List.{reverse-append}
use Rattle.expr_names.specs.Symbols.{Resolved}
use Rattle.expr_names.specs.Expressions.{together}
use Rattle.body_lang.proofs.CallerLemmas.{IfValue}

-- two parts of an expression
pub pair_good : {A B : Type 0} (P : A → Type 0) (Q : B → Type 0) (r : Resolved A) (q : Resolved B) → IfValue P r
    → IfValue Q q → IfValue (λ (x : A × B). P x.0 × Q x.1) (together (λ first _. first) r q)
pair_good P Q (Ok x) (Ok y) h k = (h, k)
pair_good P Q (Ok x) (Err g) h k = tt
pair_good P Q (Err f) (Ok y) h k = tt
pair_good P Q (Err f) (Err g) h k = tt

pub good_then : {A : Type 0} (P Q : A → Type 0) (r : Resolved A) → IfValue P r → ((x : A) → P x → Q x) → IfValue Q r
good_then P Q (Ok x) h k = k x h
good_then P Q (Err e) h k = tt

pub good_both : {A : Type 0} (P Q : A → Type 0) (r : Resolved A) → IfValue P r → IfValue Q r → IfValue (λ x. P x × Q x) r
good_both P Q (Ok x) h k = (h, k)
good_both P Q (Err e) h k = tt

pub good_of : {A : Type 0} (P : A → Type 0) (r : Resolved A) (x : A) → IfValue P r → r ≡ Ok x → P x
good_of P r x h e = subst (IfValue P) e h

-- ---- lists

pub all_append : {A : Type 0} (P : A → Type 0) (xs ys : List A) → AllByRecursion P xs → AllByRecursion P ys → AllByRecursion P (xs ++ ys)
all_append P [] ys h k = k
all_append P (x ∷ xs) ys h k = (h.0, all_append P xs ys h.1 k)

pub all_take : {A : Type 0} (P : A → Type 0) (n : ℕ) (xs : List A) → AllByRecursion P xs → AllByRecursion P (take n xs)
all_take P zero [] h = tt
all_take P zero (x ∷ xs) h = tt
all_take P (suc n) [] h = tt
all_take P (suc n) (x ∷ xs) h = (h.0, all_take P n xs h.1)

all_reverse : {A : Type 0} (P : A → Type 0) (xs : List A) → AllByRecursion P xs → AllByRecursion P (reverse xs)
all_reverse P [] h = tt
all_reverse {A} P (x ∷ xs) h =
    let e : reverse (x ∷ xs) ≡ reverse xs ++ x ∷ [] = reverse-append (x ∷ []) xs in
    subst (AllByRecursion P) (sym e) (all_append P (reverse xs) (x ∷ []) (all_reverse P xs h.1) (h.0, tt))

all_found : {A : Type 0} (P : A → Type 0) (p : A → Bool) (xs : List A) (y : A) → AllByRecursion P xs → find p xs ≡ Some y → P y
all_found P p [] y h e = absurd cc
all_found {A} P p (x ∷ xs) y h e = go (p x) (all_found P p xs y h.1) e
  where
    go : (b : Bool) → (find p xs ≡ Some y → P y) → cond b (Some x) (find p xs) ≡ Some y → P y
    go true more f = let same : x ≡ y = cc in subst P same h.0
    go false more f = more f

-- the last one that is found
pub all_last : {A : Type 0} (P : A → Type 0) (p : A → Bool) (xs : List A) (y : A) → AllByRecursion P xs → find p (reverse xs) ≡ Some y → P y
all_last P p xs y h e = all_found P p (reverse xs) y (all_reverse P xs h) e
