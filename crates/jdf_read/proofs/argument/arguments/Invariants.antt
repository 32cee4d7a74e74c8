use Rattle.std.proofs.Common.{◌≡◌, length}
use Rattle.grammar_core.specs.Reading.{reading}
use Rattle.grammar_core.proofs.CallerLemmas.{so_far}
use Rattle.jdf_tree.specs.ClassGrammar.{arguments}
use Rattle.jdf_tree.specs.Grammar.{productions}
use Rattle.jdf_read.specs.Next.{next_argument}
use Rattle.jdf_tree.proofs.CallerLemmas.{rest_of}
use Rattle.jdf_read.proofs.argument.arguments.Given as goal

abbrev pub invariant-more : goal.invariant-more
invariant-more l = so_far l.list (rest_of next_argument l.rest) ≡ reading productions arguments l.fn.tokens

abbrev pub decreases-more : goal.decreases-more
decreases-more l = length l.rest
