-- The tasks of a measured case, by number, and what a shard has of them.
use Rattle.std.specs.Prelude.{◌≡◌, ℕ, ◌<◌, ◌≤◌, ◌%◌, ◌/◌, pos, [], ◌∷◌, None}
use Rattle.ptg_base.specs.Task.{Task}
use Rattle.dep_shard.specs.Content.{Content, HasWaiting, entry_of}

-- one of four classes, with three parameters, the last of which is the number
abbrev pub task_of : ℕ → Task
task_of number = record { class = number % 4; params = pos (number % 1000) ∷ pos (number / 1000) ∷ pos number ∷ [] }

-- no task from this number on has an entry
abbrev pub HasNoneFrom : ℕ → Content → Type 0
HasNoneFrom first y = (number : ℕ) → first ≤ number → entry_of y (task_of number) ≡ None

-- the tasks with numbers from `first` to below `size` have entries that wait
abbrev pub WaitFrom : ℕ → ℕ → Content → Type 0
WaitFrom first size y = (number : ℕ) → first ≤ number → number < size → HasWaiting y (task_of number)
