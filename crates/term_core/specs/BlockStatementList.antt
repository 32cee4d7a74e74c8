-- The tree of a list of statements.
use Rattle.std.specs.Prelude.{List, [], ◌∷◌}
use Rattle.term_core.specs.declared.body.Stmt.{Stmt}
use Rattle.term_core.specs.declared.body.Stmt.TheVariants as stmt
use Rattle.term_core.specs.StatementList.{StatementList, Done, SetThen, PutThen, IfThen, ForThen, TrapThen}

-- a statement and those after it
abbrev pub then : Stmt → StatementList → StatementList
then (stmt.Set n e) rest = SetThen n e rest
then (stmt.Put flow at e) rest = PutThen flow at e rest
then (stmt.If c first second) rest = IfThen c first second rest
then (stmt.For n lo hi turn) rest = ForThen n lo hi turn rest
then (stmt.Trap w) rest = TrapThen w rest

-- the statements in their order
abbrev pub statement_list : List Stmt → StatementList
statement_list [] = Done
statement_list (s ∷ more) = then s (statement_list more)
