-- Statements in the text of a body as a tree: none, or one and the statements after it.
use Rattle.std.specs.Prelude.{ℕ, ◌+◌}
use Rattle.jdf_tree.specs.declared.expression.Word.{Word}
use Rattle.jdf_tree.specs.Expression.{Expression}

-- the statements of a body or of a block, each with the rest
pub data Statements : Type 0 where
  -- no statement
  Done : Statements
  -- `int x = e;`, and the rest
  DeclareThen : Word → Expression → Statements → Statements
  -- `x = e;`, and the rest
  SetThen : Word → Expression → Statements → Statements
  -- `A[e1] = e2;`, and the rest
  PutThen : Word → Expression → Expression → Statements → Statements
  -- `if (e) { .. } else { .. }`, whose second block is empty if it is left out, and the rest
  IfThen : Expression → Statements → Statements → Statements → Statements
  -- `for i = a .. b { .. }`, and the rest
  ForThen : Word → Expression → Expression → Statements → Statements → Statements
  -- `trap word;`, and the rest
  TrapThen : Word → Statements → Statements

-- the number of statements, including those of inner blocks
abbrev pub count_of_statements : Statements → ℕ
count_of_statements Done = 0
count_of_statements (DeclareThen w e rest) = count_of_statements rest + 1
count_of_statements (SetThen w e rest) = count_of_statements rest + 1
count_of_statements (PutThen w at e rest) = count_of_statements rest + 1
count_of_statements (IfThen c first second rest) =
    count_of_statements first + count_of_statements second + count_of_statements rest + 1
count_of_statements (ForThen w lo hi turn rest) = count_of_statements turn + count_of_statements rest + 1
count_of_statements (TrapThen w rest) = count_of_statements rest + 1
