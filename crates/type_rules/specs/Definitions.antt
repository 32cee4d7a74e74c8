-- The definitions and the parameters of a class. Source: the JDF documentation; that a definition sees only those
-- before it, and that ranges define parameters alone, are this project's own choice.
-- Carried by: `type_check::check`.
-- Tested by: `type_faults.txt`, `type_places.txt`.
use Rattle.std.specs.Prelude.{ℕ, Bool, true, false, not, ◌&&◌, List, [], ◌∷◌, ◌++◌, flat_map, Option, Some, is_none, option_map}
use Rattle.std.specs.List.{list_any}
use Rattle.jdf_tree.specs.declared.tree.ArgTree.TheVariants as tree
use Rattle.term_core.specs.declared.space.Def.{Def}
use Rattle.term_core.specs.declared.space.Def.TheVariants as plan
use Rattle.term_core.specs.declared.space.ClassSpace.{ClassSpace}
use Rattle.type_rules.specs.TreesAndFaults.{JdfFault, Word, ArgTree, DefTree, NameTwice, LocalTwice, ParamUndefined, RangedLocal}
use Rattle.type_rules.specs.Faults.{fault_if}
use Rattle.type_rules.specs.Returns.{both, each}
use Rattle.type_rules.specs.Repeats.{repeats}
use Rattle.type_rules.specs.Names.{Job, word_is, local_named}
use Rattle.type_rules.specs.Expressions.{term_of}
use Rattle.type_rules.specs.Arguments.{argument_faults, range_of}

-- whether a value is a range
abbrev pub is_range : ArgTree → Bool
is_range (tree.One e) = false
is_range (tree.Span spot lo hi step) = true

-- whether a definition is a range although its name is no parameter
abbrev pub is_ranged_local : List Word → DefTree → Bool
is_ranged_local params d = is_range d.value && not (list_any (word_is d.name.text) params)

-- the faults of a definition, which sees those before it
abbrev pub definition_faults : Job → List Word → List DefTree → DefTree → List JdfFault
definition_faults job params before d =
    argument_faults job before d.value ++ fault_if (is_ranged_local params d) d.name.spot RangedLocal

-- the faults of definitions, which also see those in `before`
abbrev pub definitions_faults : Job → List Word → List DefTree → List DefTree → List JdfFault
definitions_faults job params before [] = []
definitions_faults job params before (d ∷ defs) =
    definition_faults job params before d ++ definitions_faults job params (before ++ d ∷ []) defs

-- a definition, which sees those before it, with its names resolved
abbrev pub definition_of : Job → List DefTree → ArgTree → Option Def
definition_of job before (tree.One e) = option_map plan.Value (term_of job before e)
definition_of job before (tree.Span spot lo hi step) = option_map plan.Span (range_of job before lo hi step)

-- definitions, which also see those in `before`, with their names resolved
abbrev pub definitions_of : Job → List DefTree → List DefTree → Option (List Def)
definitions_of job before [] = Some []
definitions_of job before (d ∷ defs) =
    both (λ x xs. x ∷ xs) (definition_of job before d.value) (definitions_of job (before ++ d ∷ []) defs)

-- the fault of a parameter that has no definition
abbrev pub parameter_faults : List DefTree → Word → List JdfFault
parameter_faults defs w = fault_if (is_none (local_named defs w.text)) w.spot ParamUndefined

-- the number of the definition of a parameter
abbrev pub parameter_of : List DefTree → Word → Option ℕ
parameter_of defs w = local_named defs w.text

-- all faults of the parameters and the definitions of a class
abbrev pub space_faults : Job → List Word → List DefTree → List JdfFault
space_faults job params defs =
    (definitions_faults job params [] defs ++ repeats (λ (d : DefTree). d.name) LocalTwice defs)
    ++ (flat_map (parameter_faults defs) params ++ repeats (λ (w : Word). w) NameTwice params)

-- the space of a class: its definitions, and the number of the definition of each parameter
abbrev pub space_of : Job → List Word → List DefTree → Option ClassSpace
space_of job params defs =
    both (λ x y. record { defs = x; params = y }) (definitions_of job [] defs) (each (parameter_of defs) params)
