-- The iteration space of a class and its tasks, built by nesting one definition in the one before it. Source: DAGuE
-- (Parallel Computing, 2012) and the JDF documentation.
-- Carried by: `Space::next`, `in_space`, `locals_of`, `space_size`; laws `tasks_are_distinct`,
-- `a_task_has_one_list_of_locals`, `one_first_fault`.
-- Tested by: `edges.txt`, `check_codes.txt`, `check_limits.txt`, `sizes.txt`.
use Rattle.std.specs.Prelude.{ℕ, ℤ, pos, List, [], ◌∷◌, ◌++◌, map, Result, Ok, slice_index_or}
use Rattle.std.specs.List.{flat_map}
use Rattle.std.specs.Result.{result_unwrap_or}
use Rattle.ptg_base.specs.Returns.{and_then}
use Rattle.term_core.specs.declared.space.Def.{Def}
use Rattle.term_core.specs.declared.space.Def.TheVariants.{Span, Value}
use Rattle.term_core.specs.declared.space.ClassSpace.{ClassSpace}
use Rattle.range_space.specs.declared.fault.SpanFault.{SpanFault}
use Rattle.range_space.specs.Fault.{number, range_values}

-- the values of a definition under those of the definitions before it: all of a range, or the one of an expression
abbrev pub def_values : Def → List ℤ → Result (List ℤ) SpanFault
def_values (Span r) env = range_values r env
def_values (Value e) env = and_then (number e env) (λ z. Ok (z ∷ []))

-- the full lists of locals that extend these outer values: for each value of the next definition, all that is nested in
-- it. A definition with a fault has no values here, so it leads to no task.
abbrev pub full_lists : List Def → List ℤ → List (List ℤ)
full_lists [] outer = outer ∷ []
full_lists (d ∷ ds) outer = flat_map (λ v. full_lists ds (outer ++ v ∷ [])) (result_unwrap_or (def_values d outer) [])

-- the values of the parameters, in the order of their list
abbrev pub params_of : List ℕ → List ℤ → List ℤ
params_of params locals = map (λ p. slice_index_or locals p (pos 0)) params

-- the full lists of locals of a class, in walk order
abbrev pub all_locals : ClassSpace → List (List ℤ)
all_locals s = full_lists s.defs []

-- the tasks of a class, each by its parameters, in walk order
abbrev pub tasks : ClassSpace → List (List ℤ)
tasks s = map (params_of s.params) (all_locals s)
