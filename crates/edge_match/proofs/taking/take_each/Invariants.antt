use Rattle.std.proofs.Common.{ℤ, List, length, map}
use Rattle.dep_iter.specs.Edges.{edge, in_edges_before}
use Rattle.dep_iter.specs.Tasks.{task}
use Rattle.edge_match.specs.declared.ins.Ins.{Ins}
use Rattle.edge_match.specs.Flows.{AreTaken}
use Rattle.edge_match.specs.Tallies.{plan_of, task_of}
use Rattle.edge_match.proofs.taking.take_each.Given as goal

abbrev pub invariant-loop-values : goal.invariant-loop-values
invariant-loop-values l =
    let before = in_edges_before (plan_of l.at) (task_of l.at) l.at.number l.k in
    let mk = λ (ps : List ℤ). edge (task l.class ps) l.flow (task_of l.at) l.at.number in
    record {
      then : (u : Ins) → AreTaken (plan_of l.at) before l.ins u (map mk l.params)
          → AreTaken (plan_of l.at) before l.initial.ins u (map mk l.initial.params);
    }

abbrev pub decreases-loop-values : goal.decreases-loop-values
decreases-loop-values l = length l.params
