-- Where a task would best run (its affinity, with the number of that place), and how urgent it is (its priority).
-- Source: PaRSEC (2013) and the JDF documentation; both are hints.
-- Carried by: `affinity`, `priority`, `place_number`.
-- Tested by: `edges.txt`, `edges_cholesky.txt`.
use Rattle.std.specs.Prelude.{ℕ, ℤ, pos, List, Option, Some, None, slice_get, unsigned_abs}
use Rattle.std.specs.Option.{option_map_or}
use Rattle.ptg_base.specs.Places.{number_in}
use Rattle.ptg_base.specs.Task.{Task}
use Rattle.ptg_base.specs.declared.place.Place.{Place}
use Rattle.term_core.specs.Term.{Term}
use Rattle.plan_core.specs.declared.class.ClassPlan.{ClassPlan}
use Rattle.plan_core.specs.declared.plan.Plan.{Plan}
use Rattle.plan_core.specs.declared.shape.Shape.{Shape}
use Rattle.dep_iter.specs.Tasks.{locals_of}
use Rattle.dep_iter.specs.Arguments.{place_of, value_or_zero}

-- the place of the affinity of a task
unfoldable pub affinity : Plan → Task → Place
affinity P t =
    option_map_or (λ (c : ClassPlan). place_of c.affinity.coll c.affinity.indices (locals_of P t))
    (slice_get P.classes t.class)
    (record { coll = 0; i = pos 0; j = pos 0 })

-- the index of a place in its collection, row by row; 0 if there is no such collection. A negative row or column counts
-- by its absolute value. For a place that exists, this is the index of its tile
abbrev pub place_number : Plan → Place → ℕ
place_number P p =
    option_map_or (λ (s : Shape). number_in s.cols (unsigned_abs p.i) (unsigned_abs p.j)) (slice_get P.colls p.coll) 0

-- the value of a priority, 0 if none is written
abbrev pub priority_value : List ℤ → Option Term → ℤ
priority_value env None = pos 0
priority_value env (Some e) = value_or_zero env e

-- the priority of a task
unfoldable pub priority : Plan → Task → ℤ
priority P t =
    option_map_or (λ (c : ClassPlan). priority_value (locals_of P t) c.priority) (slice_get P.classes t.class) (pos 0)
