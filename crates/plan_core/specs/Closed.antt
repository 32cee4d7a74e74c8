-- Expressions outside bodies: they read no tile, and name only locals of their class. Source: the JDF documentation.
use Rattle.std.specs.Prelude.{ℕ, Bool, true, false}
use Rattle.term_core.specs.Value.{is_closed}
use Rattle.term_core.specs.WellSpace.{is_closed_def}
pub use Rattle.term_core.specs.WellSpace.{is_closed_option}
use Rattle.term_core.specs.declared.space.Def.TheVariants as def
use Rattle.plan_core.specs.declared.target.Arg.{Arg}
use Rattle.plan_core.specs.declared.target.Arg.TheVariants.{One, Span}

-- whether an argument names only locals among this many
abbrev pub is_closed_arg : ℕ → Arg → Bool
is_closed_arg locals (One e) = is_closed locals e
is_closed_arg locals (Span r) = is_closed_def locals (def.Span r)

-- whether an argument is a range
abbrev pub is_span : Arg → Bool
is_span (One e) = false
is_span (Span r) = true
