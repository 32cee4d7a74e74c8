-- A table as contracts see it.
use Rattle.table_rule.specs.declared.table_job.TableJob.{TableJob}
use Rattle.table_rule.specs.Seats.{TableId, words_table}
use Rattle.dep_table.specs.declared.table.DepTable.{DepTable}

-- the identity of a table
abbrev pub id_of : DepTable → TableId
id_of t = words_table t.words

-- the job of a table
abbrev pub job_of : DepTable → TableJob
job_of t = t.job
