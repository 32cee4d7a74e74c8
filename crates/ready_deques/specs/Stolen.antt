-- What a clause says about the result of a steal.
use Rattle.ptg_base.specs.Task.{Task as TheTask}
use Rattle.ready_deques.specs.declared.stolen.Stolen.{Stolen}
use Rattle.ready_deques.specs.declared.stolen.Stolen.TheVariants.{Task, Empty}

-- If an id was taken, `taken` holds for it; if none was, `none` holds.
abbrev pub MatchStolen : Stolen → (TheTask → Type 0) → Type 0 → Type 0
MatchStolen (Task id) taken none = taken id
MatchStolen Empty taken none = none
