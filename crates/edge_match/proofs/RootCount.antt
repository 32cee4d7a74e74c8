-- How many of these tasks have no edge into them.
use Rattle.std.proofs.Common.{◌≡◌, ◌+◌, ◌==◌, ℕ, Bool, true, false, List, ◌∷◌, length, arith}
use mir.Val.{bool_byte}
use Rattle.ptg_base.specs.Task.{Task}
use Rattle.plan_core.specs.declared.plan.Plan.{Plan}
use Rattle.dep_iter.specs.Consistent.{roots_among}
use Rattle.dep_iter.specs.Edges.{goal}

abbrev pub root_total : Plan → List Task → ℕ
root_total P ts = length (roots_among P ts)

-- the count with one more task before these, by whether that task has no edge into it
pub first_root : (P : Plan) (t : Task) (ts : List Task) (b : Bool) → b ≡ (goal P t == 0)
    → root_total P (t ∷ ts) ≡ bool_byte b + root_total P ts
first_root P t ts true h = rw (← h) (omega arith)
first_root P t ts false h = rw (← h) (omega arith)
