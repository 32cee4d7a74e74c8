use Rattle.std.proofs.Common.{◌≡◌, false, drop, ◌+◌}
use Rattle.std.specs.Option.{option_map}
use Rattle.jdf_lex.specs.Reading.{closed_len}
use Rattle.jdf_lex.proofs.front.closed_len.Given as goal

abbrev pub invariant-loop-i : goal.invariant-loop-i
invariant-loop-i l = closed_len l.unit false l.rest ≡ option_map (λ len. l.i + len) (closed_len l.unit l.affected (drop l.i l.rest))
