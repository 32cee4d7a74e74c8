-- The statements of a block, as a tree: none, or a statement and those after it.
use Rattle.std.specs.Prelude.{ℕ, ◌+◌}
use Rattle.term_core.specs.Term.{Term}

-- the statements of a block, each with the rest of the block
pub data StatementList : Type 0 where
  -- no statement
  Done : StatementList
  -- `x = e;` for the variable with this number, and the rest
  SetThen : ℕ → Term → StatementList → StatementList
  -- `A[e1] = e2;` for the flow with this number, and the rest
  PutThen : ℕ → Term → Term → StatementList → StatementList
  -- the first block if the condition is not 0, else the second one, and the rest
  IfThen : Term → StatementList → StatementList → StatementList → StatementList
  -- the block for each value of the variable with this number, from the first to the second term, and the rest
  ForThen : ℕ → Term → Term → StatementList → StatementList → StatementList
  -- `trap w;` for the word with this number, and the rest
  TrapThen : ℕ → StatementList → StatementList

-- the number of statements in a block, including those of nested blocks
abbrev pub statement_count : StatementList → ℕ
statement_count Done = 0
statement_count (SetThen n e rest) = statement_count rest + 1
statement_count (PutThen flow at e rest) = statement_count rest + 1
statement_count (IfThen c first second rest) = statement_count first + statement_count second + statement_count rest + 1
statement_count (ForThen n lo hi turn rest) = statement_count turn + statement_count rest + 1
statement_count (TrapThen w rest) = statement_count rest + 1
