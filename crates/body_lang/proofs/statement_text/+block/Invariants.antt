use Rattle.std.proofs.Common.{◌≡◌, ◌+◌, ◌*◌, ◌≤◌, length}
use Rattle.grammar_core.specs.Production.{star}
use Rattle.grammar_core.specs.Reading.{reading}
use Rattle.grammar_core.proofs.CallerLemmas.{so_far}
use Rattle.jdf_tree.specs.BodyGrammar.{statement}
use Rattle.jdf_tree.specs.Grammar.{productions}
use Rattle.jdf_tree.specs.GrammarParts.{any}
use Rattle.jdf_tree.proofs.CallerLemmas.{rest_of}
use Rattle.body_lang.proofs.statement_text.+block.Given as goal

abbrev pub decreases-block_rest : goal.decreases-block_rest
decreases-block_rest l = 8 * length l.tokens.now + 5

abbrev pub decreases-statements : goal.decreases-statements
decreases-statements l = 8 * length l.tokens.now + 4

abbrev pub decreases-statement : goal.decreases-statement
decreases-statement l = 8 * length l.tokens.now + 3

abbrev pub decreases-choice : goal.decreases-choice
decreases-choice l = 8 * length l.tokens.now + 2

abbrev pub decreases-for_loop : goal.decreases-for_loop
decreases-for_loop l = 8 * length l.tokens.now + 2

abbrev pub decreases-otherwise : goal.decreases-otherwise
decreases-otherwise l = 8 * length l.tokens.now + 1

abbrev pub decreases-block : goal.decreases-block
decreases-block l = 8 * length l.tokens.now

abbrev pub invariant-statements-more : goal.invariant-statements-more
invariant-statements-more l = record {
  reads : so_far l.list (rest_of statement l.rest) ≡ reading productions (star any statement) l.tokens;
  shorter : length l.rest ≤ length l.tokens;
}

abbrev pub decreases-statements-more : goal.decreases-statements-more
decreases-statements-more l = length l.rest
