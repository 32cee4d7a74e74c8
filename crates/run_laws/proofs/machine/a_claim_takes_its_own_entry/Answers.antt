use Rattle.std.proofs.Common.{refl}
use Rattle.run_laws.proofs.Claiming.{there, taken, others, waits}
use Rattle.run_laws.proofs.machine.a_claim_takes_its_own_entry.Goals as goal

pub returns : goal.returns
returns c = record {
  there = there;
  taken = taken;
  others = others;
  waits = waits;
  writes = λ P G S t. refl;
}
