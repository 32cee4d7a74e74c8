use Rattle.flow_core.specs.Quiet.{Owes}
use Rattle.flow_core.proofs.Quiet.{IsSearched}
use Rattle.flow_core.proofs.state.State.has_owing.Given as goal

abbrev pub invariant-loop-t : goal.invariant-loop-t
invariant-loop-t l = IsSearched (Owes l.m l.self.sends) l.self.claims l.t-iterator
