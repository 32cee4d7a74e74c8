-- The result of a function that checks a part of a text and resolves its names.
use Rattle.std.specs.Prelude.{◌≡◌, List, [], ◌∷◌, Option, Some, None, option_map, Result, Ok, Err}
use Rattle.ptg_base.specs.declared.refusal.Refusal.{Refusal}
use Rattle.ptg_base.specs.declared.refusal.Refusal.TheVariants.{Fault, OutOfMemory}
use Rattle.type_rules.specs.TreesAndFaults.{JdfFault}
use Rattle.type_rules.specs.Faults.{first_fault}

-- The part with its names resolved, if no rule is broken; or the first of its faults; or out of memory.
abbrev pub ReturnsChecked : {A : Type 0} → Result A (Refusal JdfFault) → Option A → List JdfFault → Type 0
ReturnsChecked (Ok part) resolved faults = (resolved ≡ Some part) × (faults ≡ [])
ReturnsChecked (Err (Fault f)) resolved faults = first_fault faults ≡ Some f
ReturnsChecked (Err OutOfMemory) resolved faults = Unit {0}

-- the function applied to two parts, if both exist
abbrev pub both : {A B C : Type 0} → (A → B → C) → Option A → Option B → Option C
both f (Some a) (Some b) = Some (f a b)
both f (Some a) None = None
both f None b = None

-- the function applied to a part that may be left out
abbrev pub each_option : {A B : Type 0} → (A → Option B) → Option A → Option (Option B)
each_option f None = Some None
each_option f (Some a) = option_map (λ b. Some b) (f a)

-- the function applied to each element of a list, if it has a value for all of them
abbrev pub each : {A B : Type 0} → (A → Option B) → List A → Option (List B)
each f [] = Some []
each f (x ∷ xs) = both (λ y ys. y ∷ ys) (f x) (each f xs)
