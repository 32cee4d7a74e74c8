use Rattle.std.proofs.Common.{◌-◌, length}
use Rattle.jdf_lex.specs.Reading.{IsScanned}
use Rattle.jdf_lex.proofs.lex.lex.Given as goal

abbrev pub invariant-loop-here : goal.invariant-loop-here
invariant-loop-here l = IsScanned l.text l.tokens l.here

abbrev pub decreases-loop-here : goal.decreases-loop-here
decreases-loop-here l = length l.text - l.here.index
