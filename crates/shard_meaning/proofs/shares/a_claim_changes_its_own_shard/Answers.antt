use Rattle.shard_meaning.proofs.Claims.{claim_away, claim_here}
use Rattle.shard_meaning.proofs.shares.a_claim_changes_its_own_shard.Goals as goal

pub returns : goal.returns
returns c = record {
  here = λ P G of k R t y z tiles con sound at takes h. claim_here P G con of k R sound t y z tiles at takes h;
  away = λ P G of k R t y con sound away h. claim_away P G con of k R sound t y away h;
}
