use Rattle.std.proofs.Common.{◌≡◌, ◌+◌, ◌*◌, drop}
use Rattle.jdf_tree.specs.BlockStatements.{statements_of}
use Rattle.jdf_tree.specs.Statements.{count_of_statements}
use Rattle.body_lang.specs.Environment.{environment_of}
use Rattle.body_lang.specs.Bindings.{bindings_of}
use Rattle.body_lang.specs.Statements.{resolved}
use Rattle.body_lang.proofs.Blocks.{so_far, count_of}
use Rattle.body_lang.proofs.statement.+block.Given as goal

abbrev pub invariant-block-loop-statement_tree : goal.invariant-block-loop-statement_tree
invariant-block-loop-statement_tree l =
    so_far l.list (resolved (environment_of l.context.scope.now) (statements_of (drop l.statement_tree-index l.statement_tree-items)) (bindings_of l.bindings))
    ≡ resolved (environment_of l.context.scope.now) l.tree (bindings_of l.fn.bindings)

abbrev pub decreases-block : goal.decreases-block
decreases-block l = 4 * count_of_statements l.tree.now + 1

abbrev pub decreases-statement : goal.decreases-statement
decreases-statement l = 4 * count_of l.tree.now

abbrev pub decreases-if_else : goal.decreases-if_else
decreases-if_else l = 4 * (count_of_statements l.first.now + count_of_statements l.second.now) + 3

abbrev pub decreases-for_loop : goal.decreases-for_loop
decreases-for_loop l = 4 * count_of_statements l.turn.now + 2

abbrev pub decreases-in_block : goal.decreases-in_block
decreases-in_block l = 4 * count_of_statements l.tree.now + 2
