-- How large the words of a table can get.
use Rattle.std.proofs.Common.{◌≤◌, length, get_or}
use Rattle.dep_iter.specs.Tasks.{all_tasks}
use Rattle.shard_meaning.specs.Moment.{Moment}
use Rattle.table_rule.specs.declared.table_job.TableJob.{TableJob}
use Rattle.table_rule.specs.Rule.{Parts, Table}
use Rattle.table_rule.specs.Words.{live_word, stamp_word}
use Rattle.table_rule.proofs.CallerLemmas.{stamps_few}

pub stamp_at_most : (j : TableJob) (s : Table) (R : Moment) → Parts j s R → get_or s.words (stamp_word j.shards) 0 ≤ length (all_tasks j.matched)
stamp_at_most j s R r = stamps_few j.matched j.given R (get_or s.words (live_word j.shards) 0)
    (get_or s.words (stamp_word j.shards) 0) s.words s.homes s.views r.sound r.records r.live
