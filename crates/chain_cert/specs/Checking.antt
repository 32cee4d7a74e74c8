-- Tasks in task order, and weights that may be added up.
use Rattle.std.specs.Prelude.{◌≡◌, ◌≤◌, ℕ, true, List, [], ◌∷◌}
use Rattle.std.specs.List.{AllByRecursion}
use Rattle.ptg_base.specs.Limits.{most_weight}
use Rattle.ptg_base.specs.Lists.{IsIn}
use Rattle.ptg_base.specs.Task.{Task}
use Rattle.ptg_base.specs.TaskOrder.{task_before}

-- each task is before all later ones in task order
abbrev pub IsRising : List Task → Type 0
IsRising [] = Unit {0}
IsRising (t ∷ ts) = ((u : Task) → IsIn u ts → task_before t u ≡ true) × IsRising ts

-- weights of at most 1,000,000 each, which may be added up
abbrev pub AreWeights : List ℕ → Type 0
AreWeights ws = AllByRecursion (λ w. w ≤ most_weight) ws
