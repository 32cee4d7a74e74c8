use Rattle.std.proofs.Common.{◌≡◌, ◌++◌, map}
use Rattle.data_read.specs.Draft.{finished}
use Rattle.data_read.proofs.finish.all_finished.Given as goal

-- the collections so far, and then those that are left
abbrev pub invariant-loop-coll : goal.invariant-loop-coll
invariant-loop-coll l = l.whole ++ map finished l.coll-iterator.rest.items ≡ map finished l.fn.colls.items
