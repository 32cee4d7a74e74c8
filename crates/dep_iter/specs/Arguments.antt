-- The combinations of arguments of a target, and what they name: tasks, or a place. Source: the JDF documentation.
-- Carried by: `in_edges`, `out_edges`, `write_backs`, `data_source`, `affinity`, `priority`, `well_task`.
-- Tested by: `edges.txt`, `edges_cholesky.txt`.
use Rattle.std.specs.Prelude.{ℕ, ℤ, pos, List, [], ◌∷◌, map, flat_map, slice_index_or, Result, Ok}
use Rattle.std.specs.Result.{result_unwrap_or}
use Rattle.ptg_base.specs.declared.place.Place.{Place}
use Rattle.term_core.specs.Term.{Term}
use Rattle.ptg_base.specs.Returns.{and_then}
use Rattle.term_core.specs.Value.{value}
use Rattle.range_space.specs.declared.fault.SpanFault.{SpanFault}
use Rattle.range_space.specs.Fault.{number, range_values}
use Rattle.plan_core.specs.declared.target.Arg.{Arg}
use Rattle.plan_core.specs.declared.target.Arg.TheVariants.{One, Span}

-- the values of an argument, which is an expression or a range, or its fault
abbrev pub arg_values : Arg → List ℤ → Result (List ℤ) SpanFault
arg_values (One e) env = and_then (number e env) (λ z. Ok (z ∷ []))
arg_values (Span r) env = range_values r env

-- all ways to take one value of each list, the first list outermost. If a list is empty there are none
abbrev pub product : List (List ℤ) → List (List ℤ)
product [] = [] ∷ []
product (vs ∷ vss) = flat_map (λ v. map (λ ws. v ∷ ws) (product vss)) vs

-- the combinations of values of arguments, the first argument outermost. An argument with a fault counts as one without
-- values; a well task needs no such argument
abbrev pub combinations : List Arg → List ℤ → List (List ℤ)
combinations args env = product (map (λ a. result_unwrap_or (arg_values a env) []) args)

-- the value of an expression. One with a fault counts as 0; a well task needs no such expression
abbrev pub value_or_zero : List ℤ → Term → ℤ
value_or_zero env e = result_unwrap_or (value e env) (pos 0)

-- the value of an argument that is no range; a data flow's in dependence has no range
abbrev pub single_value : List ℤ → Arg → ℤ
single_value env (One e) = value_or_zero env e
single_value env (Span r) = pos 0

-- the place at these indices: a row and a column, which is 0 in a collection of one dimension
abbrev pub place_at : ℕ → List ℤ → Place
place_at coll [] = record { coll = coll; i = pos 0; j = pos 0 }
place_at coll (i ∷ js) = record { coll = coll; i = i; j = slice_index_or js 0 (pos 0) }

-- the place that indices name under these locals
abbrev pub place_of : ℕ → List Term → List ℤ → Place
place_of coll indices env = place_at coll (map (value_or_zero env) indices)
