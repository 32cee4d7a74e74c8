-- Whether the shards of a closed table have work.
use Rattle.std.proofs.Common.{List, [], arith, get_or}
use Rattle.dep_shard.specs.Content.{Content}
use Rattle.flow_meaning.specs.Machine.{IsQuiescent}
use Rattle.shard_meaning.specs.Calm.{HaveNoWork, IsCalm}
use Rattle.work_board.specs.declared.record.PassRecord.{PassRecord}
use Rattle.shard_meaning.proofs.CallerLemmas.{calm_by_shards, calm_quiescent, calm_shard, shard_below}
use Rattle.shard_answer.specs.Ending.{HoldAnEnd}
use Rattle.table_rule.specs.declared.table_job.TableJob.{TableJob}
use Rattle.table_rule.specs.Records.{joined}
use Rattle.shard_meaning.specs.Placing.{shard_of}
use Rattle.dep_table.specs.Closing.{IsClosedAt}
use Rattle.std.proofs.lemmas.Option.{slice_get-get_or}

no_shard : Content
no_shard = record {
  entries = [];
  written = [];
  trapped = [];
  running = 0;
  ended = 0;
  elems = [];
  spare = record { entries = 0; tiles = []; writes = 0; traps = 0 };
}

pub closed_calm : (j : TableJob) (vs : List PassRecord) (ys : List Content) → IsClosedAt j vs ys → HaveNoWork ys → IsCalm j.matched (joined vs)
closed_calm j vs ys c none =
    calm_by_shards j.matched j.given (shard_of j.matched j.shards) (joined vs) j.shards
    (λ t. shard_below j.matched j.shards t c.some_shards) (λ k. get_or ys k no_shard)
    (λ k l. c.shares k (get_or ys k no_shard) (slice_get-get_or ys k no_shard (omega (arith, c.count))))
    (λ k l. none k (get_or ys k no_shard) (slice_get-get_or ys k no_shard (omega (arith, c.count))))

pub calm_closed : (j : TableJob) (vs : List PassRecord) (ys : List Content) → IsClosedAt j vs ys → IsCalm j.matched (joined vs) → HaveNoWork ys
calm_closed j vs ys c calm = λ k y e. calm_shard j.matched j.given (shard_of j.matched j.shards) k (joined vs) y (c.shares k y e) calm

pub closed_quiescent : (j : TableJob) (vs : List PassRecord) (ys : List Content) → IsClosedAt j vs ys
    → IsCalm j.matched (joined vs) → IsQuiescent j.matched j.given (joined vs).state
closed_quiescent j vs ys c calm = calm_quiescent j.matched j.given c.consistent (joined vs) c.sound calm c.finished

-- shards that have no work hold an end
pub holds_an_end : (j : TableJob) (vs : List PassRecord) (ys : List Content) → IsClosedAt j vs ys → HaveNoWork ys
    → HoldAnEnd j.matched j.given ys
holds_an_end j vs ys c none = record {
  of = shard_of j.matched j.shards;
  moment = joined vs;
  placed = λ t task. omega (arith, shard_below j.matched j.shards t c.some_shards, c.count);
  shares = c.shares;
  sound = c.sound;
  calm = closed_calm j vs ys c none;
  finished = c.finished;
}
