-- The content of a shard as contracts see it: entries by task and index, ready or waiting, the best ready task, what
-- was written, what trapped, two numbers, and spares. Source: DAGuE 2012, where an entry counts the dependences that
-- have come.
-- Carried by: `Shard::reserve`, `Shard::add_ready`, `Shard::index_of`, `Shard::arrive`, `Shard::arrive_at`,
-- `Shard::arrive_first`, `Shard::best_ready`, `Shard::is_ready`, `Shard::take_ready`, `Shard::is_calm`,
-- `Shard::into_parts`, `Shard::write`, `Shard::end`, `Shard::trap`.
-- Tested by: `ptg_measure`.
use Rattle.std.specs.Prelude.{◌≡◌, ℕ, ◌+◌, ◌<◌, ◌≤◌, ℤ, false, cond, List, [], length, slice_get, slice_index, Option, Some, None}
use Rattle.std.specs.Map.{lookup}
use Rattle.std.specs.Option.{unwrap_or}
use Rattle.std.specs.Ordering.{int_cmp, is_lt, ordering_then}
use Rattle.std.specs.declared.cmp.Ordering.{Ordering}
use Rattle.ptg_base.specs.Entry.{Entry, FlowTile}
use Rattle.ptg_base.specs.Task.{Task}
use Rattle.ptg_base.specs.declared.edge.WriteBack.{WriteBack}
use Rattle.ptg_base.specs.TaskComparing.{same_task, task_cmp}
use Rattle.term_core.specs.declared.trap.Trap.{Trap}
use Rattle.dep_shard.specs.Arrivals.{with_tile}
use Rattle.dep_shard.specs.Stock.{UsesTile}

-- An entry is ready once all its edges have come.
abbrev pub IsReady : Entry → Type 0
IsReady e = e.arrived ≡ e.goal

-- An entry waits until all its edges have come.
abbrev pub IsWaiting : Entry → Type 0
IsWaiting e = e.arrived < e.goal

-- the entries, each with its task; no task is there twice
abbrev pub Entries : Type 0
Entries = List (Task × Entry)

-- the entry of a task, if it has one
abbrev pub entry_in : Entries → Task → Option Entry
entry_in entries t = lookup (same_task t) entries

-- How many more additions of each kind need no memory: entries, tiles by type number, write-backs and trapped tasks.
pub record Spares : Type 0 where
  pub entries : ℕ
  pub tiles : List ℕ
  pub writes : ℕ
  pub traps : ℕ

-- at least this many of each
pub record HasSpares (s : Spares) (entry_count : ℕ) (tile_counts : List ℕ) (write_count trap_count : ℕ) : Type 0 where
  pub entries : entry_count ≤ s.entries
  pub tiles : (k : ℕ) → slice_index tile_counts k ≤ slice_index s.tiles k
  pub writes : write_count ≤ s.writes
  pub traps : trap_count ≤ s.traps

-- At most this many spares are used: entries, a tile of this type (`None`: no tile), write-backs and trapped tasks.
pub record Uses (old new : Spares) (entry_count : ℕ) (datatype : Option ℕ) (write_count trap_count : ℕ) : Type 0 where
  pub entries : old.entries ≤ new.entries + entry_count
  pub tiles : UsesTile old.tiles new.tiles datatype
  pub writes : old.writes ≤ new.writes + write_count
  pub traps : old.traps ≤ new.traps + trap_count

-- no spare is used
abbrev pub KeepsSpares : Spares → Spares → Type 0
KeepsSpares old new = Uses old new 0 None 0 0

-- a shard
pub record Content : Type 0 where
  pub entries : Entries
  -- the tiles that were written back, in the order of the writes
  pub written : List (WriteBack × List ℤ)
  -- the tasks that trapped, with their causes, in the order of the traps
  pub trapped : List (Task × Trap)
  -- how many of its tasks run, and how many have ended
  pub running : ℕ
  pub ended : ℕ
  -- how many numbers a tile of each type has
  pub elems : List ℕ
  pub spare : Spares

-- the entry of a task in a shard
abbrev pub entry_of : Content → Task → Option Entry
entry_of y t = entry_in y.entries t

-- the type is one of the shard's, and the tile has as many numbers as it says
pub record IsTileOf (elems : List ℕ) (datatype : ℕ) (tile : List ℤ) : Type 0 where
  pub known : datatype < length elems
  pub fits : length tile ≡ slice_index elems datatype

-- a shard in which nothing has happened, with tiles of these lengths
pub record IsNew (y : Content) (lengths : List ℕ) : Type 0 where
  pub entries : y.entries ≡ []
  pub written : y.written ≡ []
  pub trapped : y.trapped ≡ []
  pub running : y.running ≡ 0
  pub ended : y.ended ≡ 0
  pub elems : y.elems ≡ lengths

-- the entry of a task to which nothing has come
abbrev pub fresh : ℕ → ℤ → Entry
fresh goal priority = record { goal = goal; arrived = 0; priority = priority; tiles = [] }

-- the tiles with one that comes to this flow, or with none
abbrev pub tiles_after : List FlowTile → ℕ → Option (List ℤ) → List FlowTile
tiles_after tiles flow None = tiles
tiles_after tiles flow (Some tile) = with_tile flow tile tiles

-- the entry after one more edge has come, into this flow and with this tile
abbrev pub with_arrival : Entry → ℕ → Option (List ℤ) → Entry
with_arrival e flow tile =
    record { goal = e.goal; arrived = e.arrived + 1; priority = e.priority; tiles = tiles_after e.tiles flow tile }

-- what an edge finds: the entry of its target, or a fresh one
abbrev pub entry_before : Content → Task → ℕ → ℤ → Entry
entry_before y t goal priority = unwrap_or (entry_of y t) (fresh goal priority)

-- new has this entry of t (`None`: no entry), and for each other task what old has
abbrev pub Updates : Entries → Entries → Task → Option Entry → Type 0
Updates old new t w = (u : Task) → entry_in new u ≡ cond (same_task t u) w (entry_in old u)

-- t has an entry that waits
pub record HasWaiting (y : Content) (t : Task) : Type 0 where
  pub entry : Entry
  pub is : entry_of y t ≡ Some entry
  pub waits : IsWaiting entry

-- the entry at this index of the list is that of t
pub record IsEntryAt (y : Content) (t : Task) (index : ℕ) : Type 0 where
  pub entry : Entry
  pub at : slice_get y.entries index ≡ Some (t, entry)
  pub is : entry_of y t ≡ Some entry

-- the entry at this index of the list waits
pub record HasWaitingAt (y : Content) (index : ℕ) : Type 0 where
  pub task : Task
  pub entry : Entry
  pub at : slice_get y.entries index ≡ Some (task, entry)
  pub waits : IsWaiting entry

-- the entry at this index of the list is ready
pub record HasReadyAt (y : Content) (index : ℕ) : Type 0 where
  pub task : Task
  pub entry : Entry
  pub at : slice_get y.entries index ≡ Some (task, entry)
  pub ready : IsReady entry

-- one more edge has come to the entry at this index of old, into this flow and with this tile
abbrev pub ArrivesAt : Entries → Entries → ℕ → ℕ → Option (List ℤ) → Type 0
ArrivesAt old new index flow tile =
    (t : Task) (e : Entry) → slice_get old index ≡ Some (t, e) → Updates old new t (Some (with_arrival e flow tile))

-- the shard has a ready entry of the task with these tiles
pub record HasReady (y : Content) (t : Task) (tiles : List FlowTile) : Type 0 where
  pub entry : Entry
  pub is : entry_of y t ≡ Some entry
  pub ready : IsReady entry
  pub handed : tiles ≡ entry.tiles

-- the shard has no ready entry of the task
abbrev pub HasNoReadyOf : Content → Task → Type 0
HasNoReadyOf y t = (e : Entry) → entry_of y t ≡ Some e → IsReady e → ⊥

-- Old has a ready entry of t with these tiles, and new has none: the task runs.
pub record Takes (old new : Content) (t : Task) (tiles : List FlowTile) : Type 0 where
  pub had : HasReady old t tiles
  pub entries : Updates old.entries new.entries t None
  pub running : new.running ≡ old.running + 1
  pub ended : new.ended ≡ old.ended
  pub written : new.written ≡ old.written
  pub trapped : new.trapped ≡ old.trapped
  pub elems : new.elems ≡ old.elems

-- one task fewer runs, and one more has ended
pub record Ends (old new : Content) : Type 0 where
  pub running : new.running + 1 ≡ old.running
  pub ended : new.ended ≡ old.ended + 1

-- nothing but the spares differs
pub record IsUnchanged (old new : Content) : Type 0 where
  pub entries : new.entries ≡ old.entries
  pub written : new.written ≡ old.written
  pub trapped : new.trapped ≡ old.trapped
  pub running : new.running ≡ old.running
  pub ended : new.ended ≡ old.ended
  pub elems : new.elems ≡ old.elems

-- nothing but the entries and the spares differs
pub record KeepsAllButEntries (old new : Content) : Type 0 where
  pub written : new.written ≡ old.written
  pub trapped : new.trapped ≡ old.trapped
  pub running : new.running ≡ old.running
  pub ended : new.ended ≡ old.ended
  pub elems : new.elems ≡ old.elems

-- nothing but the write-backs and the spares differs
pub record KeepsAllButWritten (old new : Content) : Type 0 where
  pub entries : new.entries ≡ old.entries
  pub trapped : new.trapped ≡ old.trapped
  pub running : new.running ≡ old.running
  pub ended : new.ended ≡ old.ended
  pub elems : new.elems ≡ old.elems

-- nothing but the two numbers, the trapped tasks and the spares differs
pub record KeepsEntriesAndWritten (old new : Content) : Type 0 where
  pub entries : new.entries ≡ old.entries
  pub written : new.written ≡ old.written
  pub elems : new.elems ≡ old.elems

-- no task has a ready entry
abbrev pub HasNoReady : Entries → Type 0
HasNoReady entries = (t : Task) (e : Entry) → entry_in entries t ≡ Some e → IsReady e → ⊥

-- A greater priority is greater; of equal ones, that of the task which is first in task order.
abbrev pub priority_cmp : ℤ × Task → ℤ × Task → Ordering
priority_cmp a b = ordering_then (int_cmp a.0 b.0) (task_cmp b.1 a.1)

-- t has a ready entry, and no ready entry is greater
pub record IsBest (entries : Entries) (t : Task) : Type 0 where
  pub entry : Entry
  pub is : entry_in entries t ≡ Some entry
  pub ready : IsReady entry
  pub best : (u : Task) (f : Entry) → entry_in entries u ≡ Some f → IsReady f
      → is_lt (priority_cmp (entry.priority, t) (f.priority, u)) ≡ false
