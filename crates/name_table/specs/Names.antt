-- Tables and sets of names, in the order in which names were added: what they have under a name.
-- Carried by: `NameTable`, `NameSet`.
-- Tested by: `data_codes.txt`, `body_names.txt`.
use Rattle.std.specs.Prelude.{◌≡◌, ℕ, Bool, List, Option, Some, position, slice_get}
use Rattle.std.specs.Str.{bytes_eq}
use Rattle.std.specs.List.{list_any}
use Rattle.std.specs.Map.{lookup}

-- the value of the name, if the table has it
abbrev pub value_named : {V : Type 0} → List (List ℕ × V) → List ℕ → Option V
value_named table name = lookup (bytes_eq name) table

-- whether the name is one of these
abbrev pub has_name : List (List ℕ) → List ℕ → Bool
has_name names name = list_any (λ (n : List ℕ). bytes_eq n name) names

-- the number of the name among these, from 0, if it is one of them
abbrev pub index_named : List (List ℕ) → List ℕ → Option ℕ
index_named names name = position (λ (n : List ℕ). bytes_eq n name) names

-- no name occurs twice
abbrev pub IsEachOnce : List (List ℕ) → Type 0
IsEachOnce names = (i j : ℕ) (name : List ℕ) → slice_get names i ≡ Some name → slice_get names j ≡ Some name → i ≡ j
