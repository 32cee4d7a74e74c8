use Rattle.shard_meaning.proofs.Calming.{calm_quiescent, calm_rests}
use Rattle.shard_meaning.proofs.calm.a_calm_moment_is_at_rest.Goals as goal

pub returns : goal.returns
returns c = record {
  rest = λ P G R calm finished. calm_rests P G R calm finished;
  quiescent = λ P G R con sound calm
      finished. calm_quiescent P G con R sound calm finished;
}
