-- A claimed task with its stamp.
use Rattle.std.specs.Prelude.{ℕ}
use Rattle.ptg_base.specs.Task.{Task}

-- a task with the stamp of its claim
abbrev pub StampedTask : Type 0
StampedTask = Task × ℕ
