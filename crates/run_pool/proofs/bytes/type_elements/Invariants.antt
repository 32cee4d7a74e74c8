use Rattle.std.proofs.Common.{◌≡◌, sum, take}
use Rattle.run_pool.proofs.bytes.type_elements.Given as goal

abbrev pub invariant-loop-elems : goal.invariant-loop-elems
invariant-loop-elems l = l.all ≡ sum (take l.elems-index l.elems-items)
