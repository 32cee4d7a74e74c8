-- Names that are given twice. Source: the JDF documentation.
-- Carried by: `type_check::check`.
-- Tested by: `type_faults.txt`, `type_places.txt`.
use Rattle.std.specs.Prelude.{ℕ, Bool, List, [], ◌∷◌, ◌++◌}
use Rattle.std.specs.List.{list_any}
use Rattle.type_rules.specs.TreesAndFaults.{JdfCode, JdfFault, Word}
use Rattle.type_rules.specs.Faults.{fault_if}
use Rattle.type_rules.specs.Names.{word_is}

-- whether one of these has the name, given the word that names each
abbrev pub is_taken : {A : Type 0} → (A → Word) → List A → List ℕ → Bool
is_taken word xs name = list_any (λ x. word_is name (word x)) xs

-- a fault at each name that an earlier item has; `before` has the items before the list
abbrev pub repeats_after : {A : Type 0} → (A → Word) → JdfCode → List A → List A → List JdfFault
repeats_after word code before [] = []
repeats_after word code before (x ∷ xs) =
    fault_if (is_taken word before (word x).text) (word x).spot code ++ repeats_after word code (before ++ x ∷ []) xs

-- a fault at each name that an earlier item of the list has
abbrev pub repeats : {A : Type 0} → (A → Word) → JdfCode → List A → List JdfFault
repeats word code xs = repeats_after word code [] xs
