-- Lists without faults, and lists whose parts all exist.
use Rattle.std.proofs.Common.{◌≡◌, Bool, true, false, List, [], ◌∷◌, Option, Some, None, option_map, IsTrue, refl, subst}
use Rattle.std.specs.List.{list_all}
use Rattle.std.proofs.lemmas.Bool.{and_from}
use Rattle.type_rules.specs.TreesAndFaults.{Spot, JdfCode}
use Rattle.type_rules.specs.Faults.{fault_if}
use Rattle.type_rules.specs.Returns.{both, each, each_option}
use Rattle.std.proofs.lemmas.Option.{same_Some}

pub holds_not : (b : Bool) (spot : Spot) (code : JdfCode) → fault_if b spot code ≡ [] → b ≡ false
holds_not true spot code e = absurd cc
holds_not false spot code e = refl

pub parts_of : {A B C : Type 0} (f : A → B → C) (o : Option A) (p : Option B) (z : C) → both f o p ≡ Some z
    → (x : A) × (y : B) × (o ≡ Some x) × (p ≡ Some y) × (f x y ≡ z)
parts_of f None p z e = absurd cc
parts_of f (Some x) None z e = absurd cc
parts_of f (Some x) (Some y) z e = (x, y, refl, refl, same_Some (f x y) z e)

-- a part that may be left out
pub option_there : {A B : Type 0} (f : A → Option B) (a : A) (o : Option B) → each_option f (Some a) ≡ Some o → (b : B) × (f a ≡ Some b) × (Some b ≡ o)
option_there {A} {B} f a o e = go (f a) refl e
  where
    go : (r : Option B) → f a ≡ r → option_map (λ b. Some b) r ≡ Some o → (b : B) × (f a ≡ Some b) × (Some b ≡ o)
    go None s h = absurd cc
    go (Some b) s h = (b, s, same_Some (Some b) o h)

-- what holds for each part holds for the parts of a list
pub parts_all : {A B : Type 0} (f : A → Option B) (p : B → Bool) → ((a : A) (b : B) → f a ≡ Some b → IsTrue (p b))
    → (xs : List A) (ys : List B) → each f xs ≡ Some ys → IsTrue (list_all p ys)
parts_all f p h [] ys e = subst (λ l. IsTrue (list_all p l)) (same_Some [] ys e) refl
parts_all f p h (x ∷ xs) ys e =
    let q = parts_of (λ y ys. y ∷ ys) (f x) (each f xs) ys e in
    subst (λ l. IsTrue (list_all p l)) q.4 (and_from (p q.0) (list_all p q.1) (h x q.0 q.2) (parts_all f p h xs q.1 q.3))
