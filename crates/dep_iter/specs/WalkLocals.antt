-- The locals on which a walk over a task's dependences evaluates.
use Rattle.std.specs.Prelude.{ℤ, List}
use Rattle.dep_iter.specs.declared.locals.Locals.{Locals}
use Rattle.dep_iter.specs.declared.locals.Locals.TheVariants.{Own, Lent}

-- the values of locals that the walk owns or borrows
abbrev pub walk_locals : Locals → List ℤ
walk_locals (Own locals) = locals
walk_locals (Lent locals) = locals.now
