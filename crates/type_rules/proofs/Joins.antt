-- The result of two checks together.
use Rattle.std.proofs.Common.{◌≡◌, List, [], ◌∷◌, ◌++◌, Option, Some, None, Ok, Err, option_map, sym, ◌∙◌, ap}
use Rattle.std.proofs.lemmas.List.{append-nil}
use Rattle.ptg_base.specs.declared.refusal.Refusal.{Refusal}
use Rattle.ptg_base.specs.declared.refusal.Refusal.TheVariants.{Fault, OutOfMemory}
use Rattle.type_rules.specs.TreesAndFaults.{JdfFault}
use Rattle.type_rules.specs.Faults.{earlier, earlier_of, first_fault}
use Rattle.expr_names.specs.Refusals.{reported_refusal}
use Rattle.type_rules.specs.Returns.{ReturnsChecked, both}
use Rattle.type_rules.proofs.First.{first_append}

pub both_ok : {A B : Type 0} (a : A) (b : B) (p : Option A) (q : Option B) (fs gs : List JdfFault)
    → ReturnsChecked (Ok a) p fs → ReturnsChecked (Ok b) q gs → ReturnsChecked {A = A × B} (Ok (a, b)) (both (λ x y. (x, y)) p q) (fs ++ gs)
both_ok a b p q fs gs h k = (ap (λ o. both (λ x y. (x, y)) o q) h.0 ∙ ap (both (λ x y. (x, y)) (Some a)) k.0, ap (λ l. l ++ gs) h.1 ∙ k.1)

pub second_err : {A B : Type 0} (a : A) (e : Refusal JdfFault) (p : Option A) (q : Option B) (fs gs : List JdfFault)
    → ReturnsChecked (Ok a) p fs → ReturnsChecked {A = B} (Err e) q gs → ReturnsChecked {A = A × B} (Err e) (both (λ x y. (x, y)) p q) (fs ++ gs)
second_err a (Fault f) p q fs gs h k = ap (λ l. first_fault (l ++ gs)) h.1 ∙ k
second_err a OutOfMemory p q fs gs h k = tt

pub first_err : {A B : Type 0} (b : B) (e : Refusal JdfFault) (p : Option A) (q : Option B) (fs gs : List JdfFault)
    → ReturnsChecked {A = A} (Err e) p fs → ReturnsChecked (Ok b) q gs → ReturnsChecked {A = A × B} (Err e) (both (λ x y. (x, y)) p q) (fs ++ gs)
first_err b (Fault f) p q fs gs h k = ap (λ l. first_fault (fs ++ l)) k.1 ∙ (ap first_fault (append-nil fs) ∙ h)
first_err b OutOfMemory p q fs gs h k = tt

pub both_err : {A B : Type 0} (d e : Refusal JdfFault) (p : Option A) (q : Option B) (fs gs : List JdfFault)
    → ReturnsChecked {A = A} (Err d) p fs → ReturnsChecked {A = B} (Err e) q gs
    → ReturnsChecked {A = A × B} (Err (reported_refusal earlier d e)) (both (λ x y. (x, y)) p q) (fs ++ gs)
both_err OutOfMemory e p q fs gs h k = tt
both_err (Fault f) OutOfMemory p q fs gs h k = tt
both_err (Fault f) (Fault g) p q fs gs h k = first_append fs gs ∙ (ap (λ o. earlier_of o (first_fault gs)) h ∙ ap (earlier_of (Some f)) k)

-- a function applied to both parts
pub of_both : {A B C : Type 0} (f : A → B → C) (a : A) (b : B) (p : Option A) (q : Option B) (fs : List JdfFault)
    → ReturnsChecked {A = A × B} (Ok (a, b)) (both (λ x y. (x, y)) p q) fs → ReturnsChecked (Ok (f a b)) (both f p q) fs
of_both f a b None q fs h = absurd cc
of_both f a b (Some x) None fs h = absurd cc
of_both f a b (Some x) (Some y) fs h = (ap (λ z. option_map (λ w. f w.0 w.1) z) h.0, h.1)

-- a refusal does not depend on the part
pub still_err : {A B : Type 0} (e : Refusal JdfFault) (p : Option A) (q : Option B) (fs : List JdfFault)
    → ReturnsChecked {A = A} (Err e) p fs → ReturnsChecked {A = B} (Err e) q fs
still_err (Fault f) p q fs h = h
still_err OutOfMemory p q fs h = tt

-- one more fault
pub ok_refused : {A B : Type 0} (a : A) (f : JdfFault) (p : Option A) (q : Option B) (fs : List JdfFault)
    → ReturnsChecked (Ok a) p fs → ReturnsChecked {A = B} (Err (Fault f)) q (fs ++ f ∷ [])
ok_refused a f p q fs h = ap (λ l. first_fault (l ++ f ∷ [])) h.1

pub err_refused : {A B : Type 0} (e : Refusal JdfFault) (f : JdfFault) (p : Option A) (q : Option B) (fs : List JdfFault) → ReturnsChecked {A = A} (Err e) p fs
    → ReturnsChecked {A = B} (Err (reported_refusal earlier e (Fault f))) q (fs ++ f ∷ [])
err_refused OutOfMemory f p q fs h = tt
err_refused (Fault g) f p q fs h = first_append fs (f ∷ []) ∙ ap (λ o. earlier_of o (Some f)) h

-- a part, and rules that hold
pub of_rules : {A : Type 0} (a : A) (u : Unit {0}) (p : Option A) (fs : List JdfFault)
    → ReturnsChecked {A = A × Unit {0}} (Ok (a, u)) (both (λ x y. (x, y)) p (Some tt)) fs
    → ReturnsChecked (Ok a) p fs
of_rules a u None fs h = absurd cc
of_rules a u (Some x) fs h = (ap (λ o. option_map (λ w. w.0) o) h.0, h.1)

-- a list of parts with one more part
pub of_pushed : {A : Type 0} (xs ys : List A) (x : A) (p : Option (List A)) (q : Option A) (fs : List JdfFault)
    → ReturnsChecked {A = List A × A} (Ok (xs, x)) (both (λ x y. (x, y)) p q) fs → ys ≡ xs ++ x ∷ []
    → ReturnsChecked (Ok ys) (both (λ zs z. zs ++ z ∷ []) p q) fs
of_pushed xs ys x p q fs h e = let r : ReturnsChecked (Ok (xs ++ x ∷ [])) (both (λ zs z. zs ++ z ∷ []) p q) fs =
    of_both (λ zs z. zs ++ z ∷ []) xs x p q fs h in (r.0 ∙ ap (λ l. Some l) (sym e), r.1)
