-- The rule of a deque of ready tasks, over all holders of an end of it. Each id is taken from the deque at most as
-- often as it was pushed to it. Source: DAGuE (Parallel Computing, 2012) for work stealing; the rule is this project's
-- own choice.
-- Carried by: `Hands::pop`, `Hands::steal`, `Hands::settle`.
-- Tested by: `ready_deques`.
use Rattle.std.specs.Prelude.{◌≡◌, ℕ, ◌+◌, ◌≤◌, ⊤, List, [], ◌∷◌, ◌++◌, length, Contains, All, sum_by, count_by}
use Rattle.ptg_base.specs.Limits.{most_workers}
use Rattle.ptg_base.specs.Task.{Task}
use Rattle.ptg_base.specs.TaskComparing.{same_task}
use Rattle.ready_deques.specs.declared.tally.Tally.{Tally}

-- How many parts the right to know the whole of a deque has: one for its owner, and one for each worker of the largest
-- team.
abbrev pub all_parts : ℕ
all_parts = most_workers + 1

-- How often an id is in a list.
abbrev pub times : Task → List Task → ℕ
times id ids = count_by (same_task id) ids

-- The tally with these parts of the right, these pushed ids and these taken ones.
abbrev pub tally : ℕ → List Task → List Task → Tally
tally parts pushed taken = record { parts = parts; pushed = pushed; taken = taken }

-- A holder without a part of the right to know the whole has pushed and taken nothing.
abbrev pub IdleIsEmpty : Tally → Type 0
IdleIsEmpty t = t.parts ≡ 0 → (t.pushed ≡ []) × (t.taken ≡ [])

-- The tally is of a holder that has pushed nothing.
abbrev pub HasNotPushed : Tally → Type 0
HasNotPushed t = t.pushed ≡ []

-- The first tally is that of the deque's worker. No other one pushes.
abbrev pub OnlyFirstPushes : List Tally → Type 0
OnlyFirstPushes [] = ⊤
OnlyFirstPushes (own ∷ others) = All HasNotPushed others

-- By all tallies together, each id was pushed as often as it was taken and is held. Together they have all parts.
pub record Balanced (held : List Task) (tallies : List Tally) : Type 0 where
  pub ids : (id : Task)
      → sum_by (λ t. times id t.pushed) tallies ≡ sum_by (λ t. times id t.taken) tallies + times id held
  pub parts : sum_by (λ t. t.parts) tallies ≡ all_parts
  pub idle : All IdleIsEmpty tallies
  pub pushes : OnlyFirstPushes tallies

-- Each id was taken as often as it was pushed.
abbrev pub AllTaken : List Task → List Task → Type 0
AllTaken pushed taken = (id : Task) → times id taken ≡ times id pushed

-- At one moment the deque held no id, and the rule held for all tallies. The worker's tally, the first, has this many
-- parts and these pushed and taken ids.
abbrev pub WasEmpty : ℕ → List Task → List Task → Type 0
WasEmpty parts pushed taken = (others : List Tally) × Balanced [] (tally parts pushed taken ∷ others)

-- At one moment the deque held these ids, and the rule held for them and all tallies. One of the tallies has these
-- pushed and taken ids.
abbrev pub AtOneMoment : List Task → List Task → List Task → Type 0
AtOneMoment held pushed taken =
    (tallies : List Tally) × (parts : ℕ) × Contains tallies (tally parts pushed taken) × Balanced held tallies

-- At one moment the deque held at most this many ids, and the rule held for them and all tallies. One of the tallies
-- has these pushed and taken ids.
abbrev pub HeldAtMost : ℕ → List Task → List Task → Type 0
HeldAtMost most pushed taken = (held : List Task) × (length held ≤ most) × AtOneMoment held pushed taken

-- One tally takes over another.
abbrev pub joined : Tally → Tally → Tally
joined t other = tally (t.parts + other.parts) (t.pushed ++ other.pushed) (t.taken ++ other.taken)
