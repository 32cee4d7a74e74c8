-- What the names in a body mean.
-- Carried by: `resolve`.
-- Tested by: `body_names.txt`, `body_variables.txt`.
use Rattle.std.specs.Prelude.{ℕ, List, reverse, Option, Some, None, find, position, if◌then◌else◌}
use Rattle.std.specs.Str.{bytes_eq}
use Rattle.name_table.specs.Names.{index_named}
use Rattle.body_lang.specs.declared.variable.Variable.{Variable}
use Rattle.expr_names.specs.declared.meaning.Meaning.{Meaning}
use Rattle.expr_names.specs.declared.meaning.Meaning.TheVariants as meaning
pub use Rattle.expr_names.specs.Meanings.{collection_or_nothing, outer_meaning}
use Rattle.body_lang.specs.Environment.{Environment}
use Rattle.body_lang.specs.declared.scope.FlowName.{FlowName}

-- among the variables that are seen, the one of this name that was declared last
abbrev pub last_named : List Variable → List ℕ → Option Variable
last_named seen name = find (λ (v : Variable). bytes_eq v.name name) (reverse seen)

-- a variable, if there is one, or else the other meaning
abbrev pub variable_or : Option Variable → Meaning → Meaning
variable_or None other = other
variable_or (Some v) other = if v.is_loop_variable then meaning.LoopVariable v.slot else meaning.Variable v.slot

-- A name in an expression means a variable of the body, or else a local of the class, or else a global.
abbrev pub meaning_of : Environment → List Variable → List ℕ → Meaning
meaning_of scope seen name =
    variable_or (last_named seen name)
    (outer_meaning (index_named scope.locals name) (scope.integer name) (scope.is_collection name))

-- the number of the first flow of this name
abbrev pub flow_named : Environment → List ℕ → Option ℕ
flow_named scope name = position (λ (x : FlowName). bytes_eq x.name name) scope.flows
