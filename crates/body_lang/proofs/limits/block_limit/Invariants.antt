use Rattle.body_lang.proofs.LimitSearch.{BlocksSoFar}
use Rattle.body_lang.proofs.limits.block_limit.Given as goal

abbrev pub invariant-loop-index : goal.invariant-loop-index
invariant-loop-index l = BlocksSoFar l.tokens l.index l.opened l.closed
