-- How many variables statements declare.
use Rattle.std.specs.Prelude.{ℕ, ◌+◌}
use Rattle.jdf_tree.specs.Statements.{Statements, Done, DeclareThen, SetThen, PutThen, IfThen, ForThen, TrapThen}

-- the number of variables that statements declare, with those of inner blocks and of loops
abbrev pub declarations : Statements → ℕ
declarations Done = 0
declarations (DeclareThen w e rest) = 1 + declarations rest
declarations (SetThen w e rest) = declarations rest
declarations (PutThen w at e rest) = declarations rest
declarations (IfThen c first second rest) = declarations first + declarations second + declarations rest
declarations (ForThen w lo hi turn rest) = 1 + declarations turn + declarations rest
declarations (TrapThen w rest) = declarations rest
