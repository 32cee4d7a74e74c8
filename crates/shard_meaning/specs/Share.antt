-- What a shard of the dependency table holds at a moment of a run. Source: DAGuE (Parallel Computing, 2012), where the
-- tasks that are discovered are kept in a table by task.
-- Carried by: laws `a_claim_changes_its_own_shard`, `a_send_of_an_edge_changes_its_own_shard`,
-- `a_send_of_a_write_back_changes_its_own_shard`, `an_end_changes_its_own_shard`, `nothing_changes_without_an_event`.
use Rattle.std.specs.Prelude.{◌≡◌, ℕ, ◌+◌, ℤ, Bool, ◌==◌, List, Option, Some, None, Ok, Err, if◌then◌else◌}
use Rattle.ptg_base.specs.Entry.{Entry}
use Rattle.ptg_base.specs.Task.{Task}
use Rattle.ptg_base.specs.declared.edge.Edge.{Edge}
use Rattle.ptg_base.specs.declared.edge.WriteBack.{WriteBack}
use Rattle.ptg_base.specs.declared.edge.Item.{Item}
use Rattle.ptg_base.specs.declared.edge.Item.TheVariants as item
use Rattle.term_core.specs.declared.trap.Trap.{Trap}
use Rattle.plan_core.specs.declared.plan.Plan.{Plan}
use Rattle.coll_data.specs.Data.{Data}
use Rattle.dep_iter.specs.Edges.{goal}
use Rattle.dep_iter.specs.Hints.{priority}
use Rattle.dep_iter.specs.Tasks.{IsTask}
use Rattle.dep_shard.specs.Content.{Content, entry_before, entry_of, with_arrival}
use Rattle.list_lemmas.specs.Counting.{count, weigh}
use Rattle.flow_meaning.specs.Ending.{Ended}
use Rattle.flow_meaning.specs.Backward.{ended}
use Rattle.flow_meaning.specs.Machine.{SentItem}
use Rattle.flow_meaning.specs.Table.{table_entry}
use Rattle.shard_meaning.specs.Moment.{Moment}

-- the number of the shard that a task belongs to. An edge belongs to the shard of its target, a write-back to that of
-- its task
abbrev pub Placement : Type 0
Placement = Task → ℕ

-- whether a task belongs to the shard k
abbrev pub is_of : Placement → ℕ → Task → Bool
is_of of k t = of t == k

-- the weight of an item that was sent with this tile: that of the write-back and the tile, if the item is a write-back
-- of a task of the shard k, else 0. In a consistent job each write-back has a tile
abbrev pub written_weight : Placement → ℕ → (WriteBack × List ℤ → ℕ) → Item → Option (List ℤ) → ℕ
written_weight of k f (item.Edge e) tile = 0
written_weight of k f (item.Write w) None = 0
written_weight of k f (item.Write w) (Some tile) = if is_of of k w.from then f (w, tile) else 0

-- the weight of a sent item with its tile
abbrev pub write_weight : Placement → ℕ → (WriteBack × List ℤ → ℕ) → SentItem → ℕ
write_weight of k f x = written_weight of k f x.item x.tile

-- the weight of a task that ends so: that of the task and the cause, if it traps, else 0
abbrev pub ended_weight : (Task × Trap → ℕ) → Task → Option Ended → ℕ
ended_weight f t None = 0
ended_weight f t (Some (Ok tiles)) = 0
ended_weight f t (Some (Err cause)) = f (t, cause)

-- the weight of a task of the shard k that traps in the job: that of the task and the cause; 0 for any other task
abbrev pub trap_weight : Plan → Data → Placement → ℕ → (Task × Trap → ℕ) → Task → ℕ
trap_weight P G of k f t = if is_of of k t then ended_weight f t (ended P G t) else 0

-- the shard k holds its part of this moment and nothing else, as it does whenever it is in its slot
pub record IsShardOf (P : Plan) (G : Data) (of : Placement) (k : ℕ) (R : Moment) (y : Content) : Type 0 where
  -- for each of its tasks it has the entry of the table, if the task is ready or waits; it has no other entries
  pub there : (t : Task) → IsTask P t → of t ≡ k → entry_of y t ≡ table_entry P R.state t
  pub only : (t : Task) (e : Entry) → entry_of y t ≡ Some e → IsTask P t × (of t ≡ k)
  -- the write-backs of its tasks that were sent, with their tiles, in whatever order
  pub written : (f : WriteBack × List ℤ → ℕ) → weigh f y.written ≡ weigh (write_weight of k f) R.state.sends
  -- its claimed tasks that no longer run and trap, with their causes, in whatever order
  pub trapped : (f : Task × Trap → ℕ)
      → weigh f y.trapped + weigh (trap_weight P G of k f) R.running ≡ weigh (trap_weight P G of k f) R.state.claims
  -- how many of its tasks run, and how many of its claimed tasks no longer run
  pub running : y.running ≡ count (is_of of k) R.running
  pub ended : y.running + y.ended ≡ count (is_of of k) R.state.claims
  -- how many numbers a tile of each type has
  pub elems : y.elems ≡ P.elems

-- the entry that an edge finds at its target: the one there, or a new one
abbrev pub entry_found : Plan → Edge → Content → Entry
entry_found P e y = entry_before y e.to (goal P e.to) (priority P e.to)

-- that entry once the edge has come, with this tile
abbrev pub entry_after : Plan → Edge → Option (List ℤ) → Content → Entry
entry_after P e tile y = with_arrival (entry_found P e y) e.in_flow tile
