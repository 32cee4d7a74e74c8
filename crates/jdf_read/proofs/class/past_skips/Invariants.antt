use Rattle.std.proofs.Common.{◌≡◌, length}
use Rattle.grammar_core.specs.Production.{star}
use Rattle.jdf_tree.specs.GrammarParts.{any}
use Rattle.jdf_tree.specs.Grammar.{skip}
use Rattle.jdf_read.specs.Next.{past}
use Rattle.jdf_read.proofs.Skips.{past_all}
use Rattle.jdf_read.proofs.class.past_skips.Given as goal

abbrev pub invariant-more : goal.invariant-more
invariant-more l = past_all l.rest ≡ past (star any skip) l.tokens

abbrev pub decreases-more : goal.decreases-more
decreases-more l = length l.rest
