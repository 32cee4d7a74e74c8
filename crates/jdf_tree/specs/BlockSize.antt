-- The depth of a block is at most the number of its statements. The proof is in specs/ because the model of a block
-- cites it.
use Rattle.std.specs.Prelude.{◌≤◌, List, [], ◌∷◌, max}
use Rattle.std.proofs.Common.{arith}
use denote.Param.Weighed.{most}
use Rattle.jdf_tree.specs.declared.body.StmtTree.{StmtTree}
use Rattle.jdf_tree.specs.declared.body.StmtTree.TheVariants as stmt
use Rattle.jdf_tree.specs.declared.body.BlockTree.TheDeep.{deep-StmtTree}
use Rattle.jdf_tree.specs.Statements.{count_of_statements}
use Rattle.jdf_tree.specs.BlockStatements.{statements_of}

-- statements are nested at most as deep as there are statements
pub depth_at_most_count : (ss : List StmtTree) → max (most deep-StmtTree ss) 0 ≤ count_of_statements (statements_of ss)
depth_at_most_count [] = omega arith
depth_at_most_count (stmt.Declare w e ∷ ss) = omega (arith, depth_at_most_count ss)
depth_at_most_count (stmt.Set w e ∷ ss) = omega (arith, depth_at_most_count ss)
depth_at_most_count (stmt.Put w at e ∷ ss) = omega (arith, depth_at_most_count ss)
depth_at_most_count (stmt.If c first second ∷ ss) = omega (arith, depth_at_most_count ss)
depth_at_most_count (stmt.For w lo hi turn ∷ ss) = omega (arith, depth_at_most_count ss)
depth_at_most_count (stmt.Trap w ∷ ss) = omega (arith, depth_at_most_count ss)
