use Rattle.shard_meaning.proofs.Holding.{claim_ends, claim_inputs, may_ready, ready_may}
use Rattle.flow_meaning.proofs.CallerLemmas.{unclaimed_unsent}
use Rattle.shard_meaning.proofs.holder.a_claim_hands_out_the_inputs.Goals as goal

pub returns : goal.returns
returns c = record {
  may = λ P G of k R y t e h is ready. (ready_may P G of k R y h t e is ready, (h.only t e is).1);
  ready = λ P G of k R y t h at may. let p = may_ready P G of k R y h t at may in (_, p.0, p.1);
  inputs = λ P G of k R y z t tiles con sound h takes. claim_inputs P G of k R y h con sound z t tiles takes;
  ends = λ P G R t con sound may. claim_ends P G R con sound t may;
  unsent = λ P G R i sound may. unclaimed_unsent P G R.state sound i may.unclaimed;
}
