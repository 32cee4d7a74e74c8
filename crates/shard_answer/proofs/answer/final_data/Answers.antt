use Rattle.std.proofs.Common.{◌≡◌, [], arith, ap, sym, ◌∙◌, subst}
use Rattle.std.proofs.lemmas.Grind.{common_steps}
use Rattle.std.specs.List.{All}
use Rattle.flow_meaning.specs.Final.{replaced_data}
use Rattle.run_answer.specs.Written.{IsWritable}
use Rattle.run_answer.proofs.CallerLemmas.{no_more, written_to}
use Rattle.shard_answer.specs.Parts.{all_written}
use Rattle.shard_answer.proofs.Steps.{in_front, in_last, one_shard, still_writable}
use Rattle.shard_answer.proofs.answer.final_data.Goals as goal

pub with_written-given-requires : goal.with_written-given-requires
with_written-given-requires c =
    subst (All (IsWritable c.loop-shard.given)) (sym c.into_parts.ensures.written)
    (c.loop-shard.invariant.writable c.in-Some.shard (in_last _ _ c.in-Some.shard c.in-Some.ensures.items))

pub loop-shard-preserved : goal.loop-shard-preserved
loop-shard-preserved c = record {
  writable = λ y i. still_writable c.into_parts.result.written.items y.written c.loop-shard.given c.with_written-given.result c.with_written-given.ensures
      (c.loop-shard.invariant.writable y (in_front _ _ c.in-Some.shard y c.in-Some.ensures.items i));
  same =
      one_shard c.loop-shard.shards.items c.pop.new.self.items c.in-Some.shard c.into_parts.result.written.items
      c.loop-shard.given c.with_written-given.result c.in-Some.ensures.items c.into_parts.ensures.written
      c.with_written-given.ensures
      ∙ c.loop-shard.invariant.same;
}

pub returns : goal.returns
returns c =
    let empty : c.loop-shard.shards.items ≡ [] = grind (arith, common_steps, c.in_default.ensures.cases) in
    sym (no_more c.loop-shard.given) ∙ ap (λ ys. replaced_data (written_to (all_written ys)) c.loop-shard.given) (sym empty) ∙ c.loop-shard.invariant.same
