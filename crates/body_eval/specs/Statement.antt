-- What one statement does.
use Rattle.std.specs.Prelude.{Result, Err}
use Rattle.term_core.specs.declared.body.Stmt.{Stmt}
use Rattle.term_core.specs.declared.body.Stmt.TheVariants as stmt
use Rattle.term_core.specs.declared.trap.Trap.{Trap}
use Rattle.term_core.specs.declared.trap.Trap.TheVariants.{Word}
use Rattle.body_eval.specs.State.{State}
use Rattle.body_eval.specs.Meaning.{set_meaning, put_meaning, if_meaning, for_meaning, run}

-- the state after a statement whose unit is spent
abbrev pub statement_meaning : Stmt → State → Result State Trap
statement_meaning (stmt.Set n e) s = set_meaning n e s
statement_meaning (stmt.Put flow at e) s = put_meaning flow at e s
statement_meaning (stmt.If c first second) s = if_meaning c (run first) (run second) s
statement_meaning (stmt.For n lo hi turn) s = for_meaning n lo hi (run turn) s
statement_meaning (stmt.Trap w) s = Err (Word w)
