use Rattle.std.proofs.Common.{◌≡◌, ◌++◌}
use Rattle.flow_core.specs.Rows.{claim_traps}
use Rattle.flow_core.proofs.state.State.traps.Given as goal

-- what is found and what is left
abbrev pub invariant-loop-t : goal.invariant-loop-t
invariant-loop-t l = l.rows.items ++ claim_traps l.t-iterator ≡ claim_traps l.self.claims
