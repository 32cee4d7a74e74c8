-- What breaks no rule is resolved: expressions, arguments, definitions and spaces.
use Rattle.std.proofs.Common.{◌≡◌, List, [], ◌∷◌, ◌++◌, flat_map, Option, refl}
use Rattle.std.specs.Option.{IsSome}
use Rattle.term_core.specs.declared.space.Def.TheVariants as def
use Rattle.jdf_tree.specs.Expression.{Expression}
use Rattle.jdf_tree.specs.declared.tree.ArgTree.TheVariants as tree
use Rattle.plan_core.specs.declared.target.Arg.TheVariants as plan
use Rattle.type_rules.specs.TreesAndFaults.{Word, DefTree, ArgTree, RangeInPlace, ParamUndefined, RangedLocal, LocalTwice, NameTwice}
use Rattle.type_rules.specs.Faults.{fault_if}
use Rattle.type_rules.specs.Returns.{both, each}
use Rattle.type_rules.specs.Names.{Job, local_named}
use Rattle.type_rules.specs.Expressions.{expression_faults, term_of, option_faults, option_term}
use Rattle.type_rules.specs.Arguments.{argument_faults, range_of, argument_of, index_faults, index_of, arguments_faults}
use Rattle.type_rules.specs.Arguments.{arguments_of, indices_faults, indices_of}
use Rattle.type_rules.specs.Definitions.{is_ranged_local, definition_faults, definitions_faults, definition_of}
use Rattle.type_rules.specs.Definitions.{definitions_of, parameter_faults, parameter_of, space_faults, space_of}
use Rattle.type_rules.specs.Repeats.{repeats}
use Rattle.list_lemmas.proofs.Joins.{first_nil, rest_nil}
use Rattle.list_lemmas.proofs.Options.{IsSome-option_map}
use Rattle.check_laws.proofs.AllThere.{some_both, not_none, no_nil, both_there, each_there, maybe_there}
use Rattle.type_rules.proofs.CallerLemmas.{agrees, faultless_there, range_from, space_from}

pub term_there : (job : Job) (seen : List DefTree) (e : Expression) → expression_faults job seen e ≡ [] → IsSome (term_of job seen e)
term_there job seen e h = faultless_there _ _ _ (agrees job seen e) h

pub option_there : (job : Job) (seen : List DefTree) (e : Option Expression) → option_faults job seen e ≡ [] → IsSome (option_term job seen e)
option_there job seen e h = maybe_there (term_of job seen) (option_faults job seen) (term_there job seen) e h

-- ---- arguments

range_there : (job : Job) (seen : List DefTree) (lo hi : Expression) (step : Option Expression)
    → expression_faults job seen lo ++ (expression_faults job seen hi ++ option_faults job seen step) ≡ []
    → IsSome (range_of job seen lo hi step)
range_there job seen lo hi step h =
    both_there range_from (term_of job seen lo) (both (λ x y. (x, y)) (term_of job seen hi) (option_term job seen step))
    (expression_faults job seen lo) (expression_faults job seen hi ++ option_faults job seen step)
    (term_there job seen lo)
    (both_there (λ x y. (x, y)) (term_of job seen hi) (option_term job seen step) (expression_faults job seen hi)
    (option_faults job seen step) (term_there job seen hi) (option_there job seen step)) h

argument_there : (job : Job) (seen : List DefTree) (arg : ArgTree) → argument_faults job seen arg ≡ [] → IsSome (argument_of job seen arg)
argument_there job seen (tree.One e) h = IsSome-option_map plan.One (term_of job seen e) (term_there job seen e h)
argument_there job seen (tree.Span spot lo hi step) h = IsSome-option_map plan.Span (range_of job seen lo hi step) (range_there job seen lo hi step h)

index_there : (job : Job) (seen : List DefTree) (arg : ArgTree) → index_faults job seen arg ≡ [] → IsSome (index_of job seen arg)
index_there job seen (tree.One e) h = term_there job seen e (first_nil (expression_faults job seen e) [] h)
index_there job seen (tree.Span spot lo hi step) h = no_nil (argument_faults job seen (tree.Span spot lo hi step)) spot RangeInPlace h

pub arguments_there : (job : Job) (seen : List DefTree) (args : List ArgTree) → arguments_faults job seen args ≡ [] → IsSome (arguments_of job seen args)
arguments_there job seen args h = each_there (argument_of job seen) (argument_faults job seen) (argument_there job seen) args h

pub indices_there : (job : Job) (seen : List DefTree) (args : List ArgTree) → indices_faults job seen args ≡ [] → IsSome (indices_of job seen args)
indices_there job seen args h = each_there (index_of job seen) (index_faults job seen) (index_there job seen) args h

-- ---- spaces

definition_there : (job : Job) (before : List DefTree) (value : ArgTree) → argument_faults job before value ≡ [] → IsSome (definition_of job before value)
definition_there job before (tree.One e) h = IsSome-option_map def.Value (term_of job before e) (term_there job before e h)
definition_there job before (tree.Span spot lo hi step) h = IsSome-option_map def.Span (range_of job before lo hi step) (range_there job before lo hi step h)

definitions_there : (job : Job) (params : List Word) (before defs : List DefTree)
    → definitions_faults job params before defs ≡ [] → IsSome (definitions_of job before defs)
definitions_there job params before [] h = refl
definitions_there job params before (d ∷ defs) h =
    both_there (λ x xs. x ∷ xs) (definition_of job before d.value) (definitions_of job (before ++ d ∷ []) defs)
    (definition_faults job params before d) (definitions_faults job params (before ++ d ∷ []) defs)
    (λ e. definition_there job before d.value (first_nil (argument_faults job before d.value) (fault_if (is_ranged_local params d) d.name.spot RangedLocal) e))
    (definitions_there job params (before ++ d ∷ []) defs) h

pub space_there : (job : Job) (params : List Word) (defs : List DefTree) → space_faults job params defs ≡ [] → IsSome (space_of job params defs)
space_there job params defs h =
    let defined = definitions_faults job params [] defs in
    let locals = repeats (λ (d : DefTree). d.name) LocalTwice defs in
    let given = flat_map (parameter_faults defs) params in
    let names = repeats (λ (w : Word). w) NameTwice params in
    some_both space_from (definitions_of job [] defs) (each (parameter_of defs) params)
    (definitions_there job params [] defs (first_nil defined locals (first_nil (defined ++ locals) (given ++ names) h)))
    (each_there (parameter_of defs) (parameter_faults defs) (λ w. not_none (local_named defs w.text) w.spot
    ParamUndefined) params (first_nil given names (rest_nil (defined ++ locals) (given ++ names) h)))
