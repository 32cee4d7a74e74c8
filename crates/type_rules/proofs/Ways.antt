-- Dependences in one direction, in lists that grow by one.
use Rattle.std.proofs.Common.{◌≡◌, ℕ, ◌+◌, ◌<◌, Bool, true, false, cond, List, [], ◌∷◌, ◌++◌, take, length, get_or, filter, flat_map, Option, Result}
use Rattle.std.proofs.Common.{sym, ◌∙◌, ap, subst}
use Rattle.std.proofs.lemmas.List.{append-nil, take_more}
use Rattle.std.proofs.lemmas.List.Elements.{filter-append}
use Rattle.ptg_base.specs.declared.refusal.Refusal.{Refusal}
use Rattle.list_lemmas.proofs.Joins.{flat_map_push}
use Rattle.term_core.specs.Term.{Term}
use Rattle.plan_core.specs.declared.target.Target.{Target}
use Rattle.plan_core.specs.declared.flow.DepPlan.{DepPlan}
use Rattle.type_rules.specs.TreesAndFaults.{JdfFault}
use Rattle.type_rules.specs.Returns.{ReturnsChecked, both, each}
use Rattle.type_rules.proofs.Parts.{each_more}

filter_kept : {A : Type 0} (p : A → Bool) (xs : List A) (x : A) → p x ≡ true → filter p (xs ++ x ∷ []) ≡ filter p xs ++ x ∷ []
filter_kept p xs x e = filter-append p xs (x ∷ []) ∙ ap (λ b. filter p xs ++ cond b (x ∷ []) []) e

filter_dropped : {A : Type 0} (p : A → Bool) (xs : List A) (x : A) → p x ≡ false → filter p (xs ++ x ∷ []) ≡ filter p xs
filter_dropped p xs x e = filter-append p xs (x ∷ []) ∙ ap (λ b. filter p xs ++ cond b (x ∷ []) []) e ∙ append-nil (filter p xs)

-- the result for one more element that is kept
pub next_kept : {A B : Type 0} (p : A → Bool) (f : A → Option B) (g : A → List JdfFault) (xs : List A) (i : ℕ)
    (x : A) (r : Result (List B) (Refusal JdfFault)) → i < length xs → x ≡ get_or xs i x → p x ≡ true
    → ReturnsChecked r (both (λ ys y. ys ++ y ∷ []) (each f (filter p (take i xs))) (f x)) (flat_map g (filter p (take i xs)) ++ g x)
    → ReturnsChecked r (each f (filter p (take (i + 1) xs))) (flat_map g (filter p (take (i + 1) xs)))
next_kept p f g xs i x r lt at e h =
    let more : take i xs ++ x ∷ [] ≡ take (i + 1) xs = ap (λ y. take i xs ++ y ∷ []) at ∙ sym (take_more xs i x lt) in
    let kept : filter p (take i xs) ++ x ∷ [] ≡ filter p (take (i + 1) xs) = sym (filter_kept p (take i xs) x e) ∙ ap (filter p) more in
    subst (λ l. ReturnsChecked r (each f l) (flat_map g l)) kept
    (subst (λ o. ReturnsChecked r o (flat_map g (filter p (take i xs) ++ x ∷ []))) (sym (each_more f (filter p (take i xs)) x))
    (subst (λ l. ReturnsChecked r (both (λ ys y. ys ++ y ∷ []) (each f (filter p (take i xs))) (f x)) l) (sym (flat_map_push g (filter p (take i xs)) x)) h))

-- the result for one more element that is dropped
pub next_dropped : {A B : Type 0} (p : A → Bool) (f : A → Option B) (g : A → List JdfFault) (xs : List A) (i : ℕ)
    (x : A) (r : Result (List B) (Refusal JdfFault)) → i < length xs → x ≡ get_or xs i x → p x ≡ false
    → ReturnsChecked r (each f (filter p (take i xs))) (flat_map g (filter p (take i xs)))
    → ReturnsChecked r (each f (filter p (take (i + 1) xs))) (flat_map g (filter p (take (i + 1) xs)))
next_dropped p f g xs i x r lt at e h =
    let more : take i xs ++ x ∷ [] ≡ take (i + 1) xs = ap (λ y. take i xs ++ y ∷ []) at ∙ sym (take_more xs i x lt) in
    let same : filter p (take i xs) ≡ filter p (take (i + 1) xs) = sym (filter_dropped p (take i xs) x e) ∙ ap (filter p) more in
    subst (λ l. ReturnsChecked r (each f l) (flat_map g l)) same h

abbrev pub dep_from : Option Term → Target × Option Target → DepPlan
dep_from x y = record { guard = x; yes = y.0; no = y.1 }
