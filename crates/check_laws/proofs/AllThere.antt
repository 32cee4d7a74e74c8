-- Parts that are there if no rule is broken.
use Rattle.std.proofs.Common.{◌≡◌, List, [], ◌∷◌, ◌++◌, flat_map, Option, Some, None, is_none, refl}
use Rattle.std.specs.Option.{IsSome}
use Rattle.type_rules.specs.TreesAndFaults.{Spot, JdfCode, JdfFault}
use Rattle.type_rules.specs.Faults.{fault, fault_if}
use Rattle.type_rules.specs.Returns.{both, each, each_option}
use Rattle.list_lemmas.proofs.Joins.{first_nil, rest_nil}
use Rattle.list_lemmas.proofs.Options.{IsSome-option_map}

pub some_both : {A B C : Type 0} (f : A → B → C) (o : Option A) (p : Option B) → IsSome o → IsSome p → IsSome (both f o p)
some_both f None p h k = absurd cc
some_both f (Some x) None h k = absurd cc
some_both f (Some x) (Some y) h k = refl

pub not_none : {A : Type 0} (o : Option A) (spot : Spot) (code : JdfCode) → fault_if (is_none o) spot code ≡ [] → IsSome o
not_none None spot code h = absurd cc
not_none (Some x) spot code h = refl

pub no_nil : {A : Type 0} (fs : List JdfFault) (spot : Spot) (code : JdfCode) → fs ++ fault spot code ∷ [] ≡ [] → A
no_nil fs spot code h = let e = rest_nil fs (fault spot code ∷ []) h in absurd cc

-- two parts, each with its faults
pub both_there : {A B C : Type 0} (f : A → B → C) (o : Option A) (p : Option B) (fs gs : List JdfFault)
    → (fs ≡ [] → IsSome o) → (gs ≡ [] → IsSome p) → fs ++ gs ≡ [] → IsSome (both f o p)
both_there f o p fs gs h k e = some_both f o p (h (first_nil fs gs e)) (k (rest_nil fs gs e))

-- the parts of the elements of a list
pub each_there : {A B : Type 0} (f : A → Option B) (g : A → List JdfFault) → ((a : A) → g a ≡ [] → IsSome (f a))
    → (xs : List A) → flat_map g xs ≡ [] → IsSome (each f xs)
each_there f g h [] e = refl
each_there f g h (x ∷ xs) e = both_there (λ y ys. y ∷ ys) (f x) (each f xs) (g x) (flat_map g xs) (h x) (each_there f g h xs) e

-- an optional part
pub maybe_there : {A B : Type 0} (f : A → Option B) (g : Option A → List JdfFault)
    → ((a : A) → g (Some a) ≡ [] → IsSome (f a)) → (o : Option A) → g o ≡ [] → IsSome (each_option f o)
maybe_there f g h None e = refl
maybe_there f g h (Some a) e = IsSome-option_map (λ b. Some b) (f a) (h a e)
