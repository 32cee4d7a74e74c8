use Rattle.std.proofs.Common.{◌≡◌, ◌+◌}
use Rattle.ptg_base.specs.Lists.{IsIn}
use Rattle.ptg_base.specs.Task.{Task}
use Rattle.edge_match.specs.declared.tally.Tally.{Tally}
use Rattle.edge_match.specs.Tallies.{WentOver}
use Rattle.edge_match.proofs.RootCount.{root_total}
use Rattle.edge_match.proofs.accepting_tasks.accept_all.Given as goal

abbrev pub invariant-loop-t : goal.invariant-loop-t
invariant-loop-t l = record {
  can_next : (goal.iterator-loop-t).can_next l.t-iterator;
  is_finite : (goal.iterator-loop-t).is_finite l.t-iterator;
  among : (x : Task) → IsIn x l.t-iterator → IsIn x l.initial.t-iterator;
  then : (u : Tally) → WentOver l.plan l.tally u l.t-iterator → WentOver l.plan l.initial.tally u l.initial.t-iterator;
  same_plan : l.form.plan.now ≡ l.plan;
  roots : l.count + root_total l.plan l.t-iterator ≡ root_total l.plan l.initial.t-iterator;
}
