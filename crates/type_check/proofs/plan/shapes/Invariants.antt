use Rattle.std.proofs.Common.{◌≡◌, take, map}
use Rattle.plan_data.specs.Fit.{shape_of}
use Rattle.type_check.proofs.plan.shapes.Given as goal

abbrev pub invariant-loop-coll : goal.invariant-loop-coll
invariant-loop-coll l = l.shapes ≡ map shape_of (take l.coll-index l.colls)
