use Rattle.std.proofs.Common.{◌≡◌, vec_len}
use Rattle.std.specs.List.{All}
use Rattle.ptg_base.specs.Lists.{IsIn}
use Rattle.dep_shard.specs.Content.{Content}
use Rattle.flow_meaning.specs.Final.{replaced_data}
use Rattle.run_answer.specs.Written.{IsWritable}
use Rattle.run_answer.proofs.CallerLemmas.{written_to}
use Rattle.shard_answer.specs.Parts.{all_written}
use Rattle.shard_answer.proofs.answer.final_data.Given as goal

-- what is left may be written, and comes to the same answer
abbrev pub invariant-loop-shard : goal.invariant-loop-shard
invariant-loop-shard l = record {
  writable : (y : Content) → IsIn y l.shards.items → All (IsWritable l.given) y.written;
  same : replaced_data (written_to (all_written l.shards.items)) l.given ≡ replaced_data (written_to (all_written l.fn.shards.items)) l.fn.given;
}

abbrev pub decreases-loop-shard : goal.decreases-loop-shard
decreases-loop-shard l = vec_len l.shards
