-- A closed table as contracts see it.
-- Carried by: `DepTable::close`, `Closed::quiet`, `Closed::outcome`.
use Rattle.std.specs.Prelude.{ℕ, List}
use Rattle.dep_shard.specs.Content.{Content}
use Rattle.work_board.specs.declared.record.PassRecord.{PassRecord}
use Rattle.table_rule.specs.declared.table_job.TableJob.{TableJob}

-- its job, the records of its passes, its shards, and the number of passes that it was closed with
pub record ClosedView : Type 0 where
  pub job : TableJob
  pub records : List PassRecord
  pub shards : List Content
  pub passes : ℕ

-- the records of its passes
abbrev pub records_of : ClosedView → List PassRecord
records_of t = t.records

-- its shards
abbrev pub shards_of : ClosedView → List Content
shards_of t = t.shards
