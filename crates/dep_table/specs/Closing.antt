-- A closed table, which no pass shares any more; all passes of a table.
-- Carried by: `DepTable::close`.
use Rattle.std.specs.Prelude.{◌<◌, ◌≤◌, ◌≡◌, ℕ, true, List, [], ◌∷◌, map, length, slice_get, Some}
use Rattle.table_rule.specs.Seats.{TableId}
use Rattle.ptg_base.specs.Lists.{IsIn}
use Rattle.ptg_base.specs.Task.{Task}
use Rattle.plan_data.specs.Fit.{DataFit}
use Rattle.dep_iter.specs.Consistent.{IsConsistent}
use Rattle.dep_iter.specs.Tasks.{all_tasks}
use Rattle.dep_shard.specs.Content.{Content}
use Rattle.flow_meaning.specs.Sound.{IsSoundState}
use Rattle.shard_meaning.specs.Calm.{AreFinished}
use Rattle.shard_meaning.specs.Share.{IsShardOf}
use Rattle.table_rule.specs.declared.table_job.TableJob.{TableJob}
use Rattle.table_rule.specs.Names.{AreAll}
use Rattle.table_rule.specs.Records.{joined, joined_handed, moment_of}
use Rattle.table_rule.specs.Rule.{placement_of}
use Rattle.dep_table.specs.Passes.{IsPassOf}
use Rattle.dep_table.specs.Views.{PassView, shown}
use Rattle.dep_table.specs.StampOrders.{joined_stamps}
use Rattle.work_board.specs.Handed.{WereHandedInputs}
use Rattle.work_board.specs.declared.record.PassRecord.{PassRecord}

-- The shards hold their parts of what these passes did together. What they did is sound, each claimed task was handed
-- its inputs, and it still runs, has trapped, or has sent all its items.
pub record IsClosedAt (j : TableJob) (vs : List PassRecord) (ys : List Content) : Type 0 where
  pub consistent : IsConsistent j.matched
  pub some_shards : 0 < j.shards
  pub count : length ys ≡ j.shards
  pub sound : IsSoundState j.matched j.given (joined vs).state
  pub handed : WereHandedInputs j.matched j.given (joined vs).state.claims (joined_handed vs)
  pub finished : AreFinished j.matched j.given (joined vs)
  pub shares : (k : ℕ) (y : Content) → slice_get ys k ≡ Some y
      → IsShardOf j.matched j.given (placement_of j) k (joined vs) y

-- A closed table: its shards hold their parts of what its passes did, and its data fit the plan. If it was preloaded,
-- it has room for a row of each task.
pub record IsClosedTable (j : TableJob) (vs : List PassRecord) (ys : List Content) (rows : ℕ) : Type 0 where
  pub ends : IsClosedAt j vs ys
  pub fit : DataFit j.matched j.given
  pub room : j.preloaded ≡ true → length (all_tasks j.matched) ≤ rows

-- all passes of one table, each of them clean
pub record AreAllPasses (table : TableId) (ps : List PassView) : Type 0 where
  pub each : (p : PassView) → IsIn p ps → IsPassOf table p
  pub all : AreAll (map shown ps)

-- A pass to which all others were joined. It holds no turn, and each of its claims has a stamp. It has all that the
-- passes with these records did, were handed and drew.
pub record IsLastPass (table : TableId) (p : PassView) (vs : List PassRecord) : Type 0 where
  pub of : p.table ≡ table
  pub no_shard : p.me.1 ≡ []
  pub no_turn : (shown p).turns ≡ []
  pub all : AreAll (shown p ∷ [])
  pub did : moment_of (shown p) ≡ joined vs
  pub handed : (shown p).handed ≡ joined_handed vs
  pub drew : (shown p).stamps ≡ joined_stamps vs
  pub stamped : (t : Task) → IsIn t (shown p).claims → (stamp : ℕ) × IsIn (t, stamp) (shown p).stamps
