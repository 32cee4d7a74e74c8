use Rattle.std.proofs.Common.{◌≡◌, ◌≤◌, length}
use Rattle.jdf_lex.specs.Codes.{TooManyDeps}
use Rattle.grammar_core.specs.Reading.{reading}
use Rattle.grammar_core.proofs.CallerLemmas.{so_far}
use Rattle.jdf_tree.specs.ClassGrammar.{dependence, dependences}
use Rattle.jdf_tree.specs.Grammar.{productions}
use Rattle.jdf_read.proofs.ListSteps.{counted}
use Rattle.jdf_read.proofs.dependence.dependences.Given as goal

abbrev pub invariant-more : goal.invariant-more
invariant-more l = record {
  reads : so_far l.list (counted 16 TooManyDeps dependence (length l.list) l.rest) ≡ reading productions dependences l.tokens;
  at_most : length l.list ≤ 16;
}

abbrev pub decreases-more : goal.decreases-more
decreases-more l = length l.rest
