use Rattle.body_lang.proofs.LimitSearch.{VariablesSoFar}
use Rattle.body_lang.proofs.limits.variable_limit.Given as goal

abbrev pub invariant-loop-index : goal.invariant-loop-index
invariant-loop-index l = VariablesSoFar l.tokens l.index l.declared
