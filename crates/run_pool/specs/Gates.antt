-- What a gate has let through.
use Rattle.std.specs.Prelude.{ℕ, ◌<◌, List}
use Rattle.ptg_base.specs.Lists.{IsIn}
use Rattle.ptg_base.specs.Task.{Task}

-- the gate has let one of this many workers run each of these tasks
abbrev pub AreLetThrough : (ℕ → Task → Type 0) → ℕ → List Task → Type 0
AreLetThrough lets workers ts = (t : Task) → IsIn t ts → (worker : ℕ) × (worker < workers) × lets worker t
