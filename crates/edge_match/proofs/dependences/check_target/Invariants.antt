use Rattle.std.proofs.Common.{Result, length}
use Rattle.edge_match.specs.FlowParts.{before_at}
use Rattle.edge_match.specs.declared.counted.Counted.{Counted}
use Rattle.edge_match.specs.declared.fault.MatchFault.{MatchFault}
use Rattle.edge_match.proofs.Directed.{Rest, edges_named}
use Rattle.edge_match.proofs.dependences.check_target.Given as goal

abbrev pub invariant-loop-values : goal.invariant-loop-values
invariant-loop-values l =
    let named = edges_named l.at l.class l.flow l.direction in
    let left = Rest l.at l.direction (before_at l.direction l.at l.k) in
    record {
      rest : (v : Counted) (r : Result (Unit {0}) MatchFault) → left l.counted v r (named l.params)
          → left l.initial.counted v r (named l.initial.params);
    }

abbrev pub decreases-loop-values : goal.decreases-loop-values
decreases-loop-values l = length l.params
