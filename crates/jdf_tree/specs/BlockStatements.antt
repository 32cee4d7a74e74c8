-- The tree of a list of statements.
use Rattle.std.specs.Prelude.{List, [], ◌∷◌}
use Rattle.jdf_tree.specs.declared.body.StmtTree.{StmtTree}
use Rattle.jdf_tree.specs.declared.body.StmtTree.TheVariants as stmt
use Rattle.jdf_tree.specs.Statements.{Statements, Done, DeclareThen, SetThen, PutThen, IfThen, ForThen, TrapThen}

-- a statement, and the statements after it
abbrev pub then : StmtTree → Statements → Statements
then (stmt.Declare w e) rest = DeclareThen w e rest
then (stmt.Set w e) rest = SetThen w e rest
then (stmt.Put w at e) rest = PutThen w at e rest
then (stmt.If c first second) rest = IfThen c first second rest
then (stmt.For w lo hi turn) rest = ForThen w lo hi turn rest
then (stmt.Trap w) rest = TrapThen w rest

-- a list of statements as a tree
abbrev pub statements_of : List StmtTree → Statements
statements_of [] = Done
statements_of (s ∷ more) = then s (statements_of more)
