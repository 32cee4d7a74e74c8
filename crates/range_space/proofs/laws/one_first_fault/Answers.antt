use Rattle.range_space.specs.Walk.{walk_all}
use Rattle.range_space.proofs.FirstFault.{one_fault}
use Rattle.range_space.proofs.laws.one_first_fault.Goals as goal

pub returns : goal.returns
returns c = λ ss fault other w u. one_fault 0 0 (walk_all 0 ss) fault other w u
