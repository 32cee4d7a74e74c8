-- What contracts see of the ends of a deque.
use Rattle.std.specs.Prelude.{◌≡◌, ◌≢◌, ℕ, ◌+◌, ◌-◌, ◌<◌, ◌≤◌, List, [], Some, length, map, slice_get}
use Rattle.std.specs.declared.alloc.Global.{Global}
use Rattle.ptg_base.specs.Task.{Task}
use Rattle.ready_deques.specs.Rule.{all_parts, times}

-- The number of ids that a deque has room for from the start.
abbrev pub initial_capacity : ℕ
initial_capacity = 16

-- Which deque it is. Clauses only compare these.
abbrev pub DequeId : Type 0
DequeId = (ℕ × ℕ) × Global

-- The owner's end, which pushes and pops at the back: its deque, its parts of the right to know the whole, and the ids
-- that it pushed and took.
pub record Owner : Type 0 where
  pub deque : DequeId
  pub parts : ℕ
  pub pushed : List Task
  pub taken : List Task

-- A thief's end, which takes at the front: its deque, its part of the right to know the whole, and the ids that it
-- took. It takes only with a part.
pub record Thief : Type 0 where
  pub deque : DequeId
  pub parts : ℕ
  pub taken : List Task

-- The owner's end after this many parts were given away.
abbrev pub less : ℕ → Owner → Owner
less given b = record b { parts = b.parts - given }

-- A thief's end of the same deque that has one part and has taken nothing.
abbrev pub new_thief : Owner → Thief
new_thief b = record { deque = b.deque; parts = 1; taken = [] }

-- Each of one worker's thieves' ends has one part, except that of its own deque.
abbrev pub OthersHaveParts : ℕ → List Thief → Type 0
OthersHaveParts number thieves =
    (k : ℕ) → k < length thieves → k ≢ number → slice_get (map (λ f. f.parts) thieves) k ≡ Some 1

-- Nothing was pushed or taken yet, and this many parts were given away.
pub record IsNew (given : ℕ) (b : Owner) : Type 0 where
  pub parts : b.parts + given ≡ all_parts
  pub pushed : b.pushed ≡ []
  pub taken : b.taken ≡ []

-- What was pushed and taken at an end with a slot, counted for each id: what the end itself pushed and took, and the
-- ids that never left the slot. An id in the slot was pushed and is not taken.
pub record CountsWithSlot (end : Owner) (slot pushed taken : List Task) : Type 0 where
  pub ids : (id : Task) → times id pushed + times id end.taken ≡ times id end.pushed + times id slot + times id taken
  pub not_less : (id : Task) → times id end.taken ≤ times id taken
  pub at_least : length end.pushed ≤ length pushed
