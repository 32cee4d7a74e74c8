-- The globals of a JDF with its data, as they are tabulated.
use Rattle.std.specs.Prelude.{◌≡◌, ℕ, Bool, not, ◌||◌, List, [], ◌∷◌, ◌++◌, is_some, if◌then◌else◌}
use Rattle.name_table.specs.Names.{value_named, has_name}
use Rattle.type_rules.specs.declared.context.Globals.{Globals}
use Rattle.type_rules.specs.Names.{Job, is_declared}
use Rattle.type_check.specs.declared.globals.Declared.{Declared}

-- the JDF and its data
abbrev pub job_with : Declared → Job
job_with declared = record { jdf = declared.jdf.now; given = declared.given.now }

-- the set has exactly the names of the JDF's globals
abbrev pub AreDeclared : Job → List (List ℕ) → Type 0
AreDeclared job names = (n : List ℕ) → has_name names n ≡ is_declared job n

-- the table with one more name and its value, or unchanged if it has that name
abbrev pub with_value : {V : Type 0} → List (List ℕ × V) → List ℕ × V → List (List ℕ × V)
with_value table x = if is_some (value_named table x.0) then table else table ++ x ∷ []

-- whether neither table has this name
abbrev pub is_missing_here : Globals → List ℕ → Bool
is_missing_here globals name = not (is_some (value_named globals.ints name) || is_some (value_named globals.colls name))
