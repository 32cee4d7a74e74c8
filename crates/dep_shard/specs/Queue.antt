-- How a shard's queue of candidates serves its entries.
use Rattle.std.specs.Prelude.{◌≡◌, ℕ, ◌≤◌, ℤ, Bool, true, false, ◌&&◌, ◌||◌, nat_lt, nat_eq, if◌then◌else◌, List, ◌∷◌, slice_get, Option, Some, None}
use Rattle.std.specs.List.{list_any}
use Rattle.std.specs.Option.{option_map_or}
use Rattle.std.specs.Ordering.{int_eq}
use Rattle.std.specs.declared.cmp.Ordering.{Ordering}
use Rattle.std.specs.declared.cmp.Reverse.{Reverse}
use Rattle.ptg_base.specs.Entry.{Entry}
use Rattle.ptg_base.specs.Task.{Task}
use Rattle.ptg_base.specs.TaskComparing.{same_task}
use Rattle.dep_shard.specs.Content.{Entries, entry_in, priority_cmp}
use Rattle.list_lemmas.specs.Counting.{count}

-- a candidate: a priority and a task
abbrev pub Candidate : Type 0
Candidate = ℤ × Reverse Task

-- how the queue orders its candidates: by priority, and at one priority the task that is first in task order is the
-- greater
abbrev pub order : Candidate → Candidate → Ordering
order (p, a) (q, b) = priority_cmp (p, a.0) (q, b.0)

-- whether a candidate is the task at this priority
abbrev pub is_candidate : ℤ → Task → Candidate → Bool
is_candidate p t (q, u) = int_eq p q && same_task t u.0

-- whether there is an entry, it is ready, and it has this priority
abbrev pub is_ready_at : ℤ → Option Entry → Bool
is_ready_at p w = option_map_or (λ (e : Entry). nat_eq e.arrived e.goal && int_eq e.priority p) w false

-- whether the task has a ready entry of this priority: a candidate that is not live is stale
abbrev pub is_live : Entries → ℤ → Task → Bool
is_live entries p t = is_ready_at p (entry_in entries t)

-- every ready entry is among the candidates
abbrev pub HasEveryReady : Entries → List Candidate → Type 0
HasEveryReady entries cs = (t : Task) → (p : ℤ) → is_live entries p t ≡ true → list_any (is_candidate p t) cs ≡ true

-- the first candidate, if there is one, is live
abbrev pub HasLiveFront : Entries → List Candidate → Type 0
HasLiveFront entries cs = (c : Candidate) (rest : List Candidate) → cs ≡ c ∷ rest → is_live entries c.0 c.1.0 ≡ true

-- whether an entry waits
abbrev pub is_waiting : Entry → Bool
is_waiting e = nat_lt e.arrived e.goal

-- how many entries wait
abbrev pub count_waiting : Entries → ℕ
count_waiting entries = count (λ ((t, e) : Task × Entry). is_waiting e) entries

-- no entry has received more edges than it waits for
abbrev pub HaveAtMostGoal : Entries → Type 0
HaveAtMostGoal entries = (t : Task) (e : Entry) → entry_in entries t ≡ Some e → e.arrived ≤ e.goal

-- the candidate of a row of the list, if its entry is ready
abbrev pub candidate_of : Option (Task × Entry) → Option Candidate
candidate_of None = None
candidate_of (Some (t, e)) = if nat_eq e.arrived e.goal then Some (e.priority, record { 0 = t }) else None

-- the candidate of the entry at an index of the list, if the entry is ready
abbrev pub candidate_at : Entries → ℕ → Option Candidate
candidate_at entries index = candidate_of (slice_get entries index)

-- a queue: whether each ready task is to have a candidate, and the candidates
pub record QueueContent : Type 0 where
  pub listed : Bool
  pub candidates : List Candidate

-- if the queue is listed, every ready entry is among its candidates
abbrev pub Serves : Entries → QueueContent → Type 0
Serves entries q = q.listed ≡ true → HasEveryReady entries q.candidates

-- If the queue is listed now, it was before, and it has one candidate more: the task at this priority.
abbrev pub Adds : QueueContent → QueueContent → ℤ → Task → Type 0
Adds old new priority task =
    new.listed ≡ true
    → (old.listed ≡ true)
    × ((p : ℤ) (t : Task)
    → list_any (is_candidate p t) new.candidates
    ≡ (int_eq p priority && same_task t task || list_any (is_candidate p t) old.candidates))

-- the queue serves the entries, and this many of them wait
pub record IsQueueOf (entries : Entries) (q : QueueContent) (waiting : ℕ) : Type 0 where
  pub serves : Serves entries q
  pub at_most_goal : HaveAtMostGoal entries
  pub counted : count_waiting entries ≡ waiting
