-- The depth of a block is at most the number of its statements.
use Rattle.std.specs.Prelude.{◌≤◌, List, [], ◌∷◌, max}
use Rattle.std.proofs.Common.{arith}
use denote.Param.Weighed.{most}
use Rattle.term_core.specs.declared.body.Stmt.{Stmt}
use Rattle.term_core.specs.declared.body.Stmt.TheVariants as stmt
use Rattle.term_core.specs.declared.body.Block.TheDeep.{deep-Stmt}
use Rattle.term_core.specs.StatementList.{statement_count}
use Rattle.term_core.specs.BlockStatementList.{statement_list}

-- statements are nested at most as deep as there are statements
pub depth_at_most_count : (ss : List Stmt) → max (most deep-Stmt ss) 0 ≤ statement_count (statement_list ss)
depth_at_most_count [] = omega arith
depth_at_most_count (stmt.Set n e ∷ ss) = omega (arith, depth_at_most_count ss)
depth_at_most_count (stmt.Put flow at e ∷ ss) = omega (arith, depth_at_most_count ss)
depth_at_most_count (stmt.If c first second ∷ ss) = omega (arith, depth_at_most_count ss)
depth_at_most_count (stmt.For n lo hi turn ∷ ss) = omega (arith, depth_at_most_count ss)
depth_at_most_count (stmt.Trap w ∷ ss) = omega (arith, depth_at_most_count ss)
