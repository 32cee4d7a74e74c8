use Rattle.std.proofs.Common.{◌≡◌, ◌-◌, ◌≤◌, length}
use Rattle.jdf_lex.specs.Codes.{TooManyClasses}
use Rattle.grammar_core.specs.Reading.{reading}
use Rattle.grammar_core.proofs.CallerLemmas.{so_far}
use Rattle.jdf_tree.specs.Grammar.{productions, class_and_skips, classes}
use Rattle.jdf_read.proofs.ListSteps.{counted}
use Rattle.jdf_read.proofs.class.classes.Given as goal

abbrev pub invariant-more : goal.invariant-more
invariant-more l = record {
  reads : so_far l.list (counted 63 TooManyClasses class_and_skips (length l.list - 1) l.rest) ≡ reading productions classes l.fn.tokens;
  at_most : length l.list ≤ 64;
  some : 1 ≤ length l.list;
}

abbrev pub decreases-more : goal.decreases-more
decreases-more l = length l.rest
