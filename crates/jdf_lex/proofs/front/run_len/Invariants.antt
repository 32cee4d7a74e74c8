use Rattle.std.proofs.Common.{◌≡◌, ℕ, ◌<◌, true, get_or}
use Rattle.jdf_lex.specs.Spelling.{continues}
use Rattle.jdf_lex.proofs.front.run_len.Given as goal

abbrev pub invariant-loop-i : goal.invariant-loop-i
invariant-loop-i l = (k : ℕ) → k < l.i → continues l.unit (get_or l.rest k 0) ≡ true
