use Rattle.std.proofs.Common.{Result}
use Rattle.std.specs.List.{flat_map}
use Rattle.ptg_base.specs.Lists.{IsIn}
use Rattle.ptg_base.specs.Task.{Task}
use Rattle.edge_match.specs.Counted.{Checked}
use Rattle.edge_match.specs.Marks.{task_marks}
use Rattle.edge_match.specs.declared.counted.Counted.{Counted}
use Rattle.edge_match.specs.declared.fault.MatchFault.{MatchFault}
use Rattle.edge_match.proofs.tasks.check_all.Given as goal

abbrev pub invariant-loop-t : goal.invariant-loop-t
invariant-loop-t l =
    let marks = flat_map (task_marks l.phase l.plan) in
    record {
      can_next : (goal.iterator-loop-t).can_next l.t-iterator;
      is_finite : (goal.iterator-loop-t).is_finite l.t-iterator;
      among : (x : Task) → IsIn x l.t-iterator → IsIn x l.initial.t-iterator;
      rest : (u : Counted) (r : Result (Unit {0}) MatchFault) → Checked l.plan l.counted u r (marks l.t-iterator)
          → Checked l.plan l.initial.counted u r (marks l.initial.t-iterator);
    }
