use Rattle.std.proofs.Common.{◌≡◌, ◌≤◌, length}
use Rattle.jdf_lex.specs.Codes.{TooManyLocals}
use Rattle.grammar_core.specs.Reading.{reading}
use Rattle.grammar_core.proofs.CallerLemmas.{so_far}
use Rattle.jdf_tree.specs.ClassGrammar.{definition, definitions}
use Rattle.jdf_tree.specs.Grammar.{productions}
use Rattle.jdf_read.proofs.ListSteps.{counted}
use Rattle.jdf_read.proofs.head.definitions.Given as goal

abbrev pub invariant-more : goal.invariant-more
invariant-more l = record {
  reads : so_far l.list (counted 16 TooManyLocals definition (length l.list) l.rest) ≡ reading productions definitions l.tokens;
  at_most : length l.list ≤ 16;
}

abbrev pub decreases-more : goal.decreases-more
decreases-more l = length l.rest
