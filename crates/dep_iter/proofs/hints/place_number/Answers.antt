use Rattle.std.proofs.Common.{ℕ, ℤ, pos, negsuc, ap, Option, Some, None, rules, FitsSigned, w64, nat_abs}
use Rattle.std.proofs.lemmas.Int.{to_z-of_z}
use Rattle.plan_core.specs.Place.{IsColumn}
use Rattle.dep_iter.proofs.hints.place_number.Goals as goal

-- a valid column equals its absolute value
column_abs : (cols : Option ℕ) (j : ℤ) → IsColumn cols j → IsColumn cols (pos (nat_abs j))
column_abs None j h = ap (λ z. pos (nat_abs z)) h
column_abs (Some n) (pos k) h = h
column_abs (Some n) (negsuc k) h = absurd (search rules)

pub number_in-requires-clause-column : goal.number_in-requires-clause-column
number_in-requires-clause-column c =
    let place = rw c.coll-shape.ensures at c.requires in
    let f : FitsSigned w64 c.args.p.now.j = search rules in
    let e = simp to_z-of_z at c.unsigned_abs-2.ensures.value in
    rw e (column_abs c.coll-shape.result.now.cols c.args.p.now.j place.1)
