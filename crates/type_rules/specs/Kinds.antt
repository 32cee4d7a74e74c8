-- The kinds of a flow and of its target. Source: PaRSEC 2013.
use Rattle.std.specs.Prelude.{Bool, not, if◌then◌else◌}
use Rattle.term_core.specs.declared.flow.FlowKind.{FlowKind}
pub use Rattle.term_core.specs.Kinds.{is_control, is_write}

-- whether one of the two kinds carries order alone, and the other a tile
abbrev pub are_mixed : FlowKind → FlowKind → Bool
are_mixed one other = if is_control one then not (is_control other) else is_control other
