-- A space with its definitions and its parameters.
use Rattle.std.proofs.Common.{ℕ, List}
use Rattle.term_core.specs.declared.space.Def.{Def}
use Rattle.term_core.specs.declared.space.ClassSpace.{ClassSpace}

abbrev pub space_from : List Def → List ℕ → ClassSpace
space_from x y = record { defs = x; params = y }
