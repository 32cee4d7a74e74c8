use Rattle.std.proofs.Common.{◌↔◌, drop}
use Rattle.chain_cert.specs.Chains.{IsChain}
use Rattle.cert_check.proofs.chains.is_chain.Given as goal

abbrev pub invariant-loop-at : goal.invariant-loop-at
invariant-loop-at l = IsChain l.plan l.tasks ↔ IsChain l.plan (drop l.at l.tasks)
