-- The parts of the answer as the shards have them: rows of trapped and of waiting tasks, write-backs, and how many
-- tasks have ended.
-- Carried by: inside `outcome_of`.
use Rattle.std.specs.Prelude.{◌≡◌, ℕ, ℤ, List, Some, map, flat_map, slice_get}
use Rattle.std.specs.List.{IsDistinct}
use Rattle.std.specs.Map.{keys_of}
use Rattle.ptg_base.specs.Entry.{Entry}
use Rattle.ptg_base.specs.Task.{Task}
use Rattle.ptg_base.specs.TaskComparing.{same_task}
use Rattle.ptg_base.specs.declared.edge.WriteBack.{WriteBack}
use Rattle.term_core.specs.declared.trap.Trap.{Trap}
use Rattle.dep_shard.specs.Content.{Content}
use Rattle.flow_meaning.specs.declared.outcome.TrapRow.{TrapRow}
use Rattle.flow_meaning.specs.declared.outcome.WaitRow.{WaitRow}
use Rattle.list_lemmas.specs.Counting.{weigh}

-- the row of a task that trapped with this cause
abbrev pub trap_row : Task × Trap → TrapRow
trap_row x = record { task = x.0; cause = x.1 }

-- the rows of the tasks of a shard that trapped
abbrev pub traps_of : Content → List TrapRow
traps_of y = map trap_row y.trapped

-- the rows of the tasks of all shards that trapped, one shard after another
abbrev pub all_traps : List Content → List TrapRow
all_traps ys = flat_map traps_of ys

-- the row of a task that has this entry
abbrev pub wait_row : Task × Entry → WaitRow
wait_row x = record { task = x.0; arrived = x.1.arrived; goal = x.1.goal }

-- the rows of the tasks that have an entry in a shard
abbrev pub waits_of : Content → List WaitRow
waits_of y = map wait_row y.entries

-- the rows of the tasks that have an entry in some shard, one shard after another
abbrev pub all_waits : List Content → List WaitRow
all_waits ys = flat_map waits_of ys

-- what was written back in all shards, one after another
abbrev pub all_written : List Content → List (WriteBack × List ℤ)
all_written ys = flat_map (λ (y : Content). y.written) ys

-- how many tasks of all shards have ended
abbrev pub all_ended : List Content → ℕ
all_ended ys = weigh (λ (y : Content). y.ended) ys

-- no shard has two entries for one task
abbrev pub HaveDistinctEntries : List Content → Type 0
HaveDistinctEntries ys = (k : ℕ) (y : Content) → slice_get ys k ≡ Some y → IsDistinct same_task (keys_of y.entries)
