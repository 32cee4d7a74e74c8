use Rattle.std.proofs.Common.{◌≡◌, ◌++◌, ℕ, map}
use Rattle.ptg_base.specs.Task.{Task}
use Rattle.run_pool.proofs.tracing.tasks_of.Given as goal

abbrev pub invariant-loop-entry : goal.invariant-loop-entry
invariant-loop-entry l = record {
  can_next : (goal.iterator-loop-entry).can_next l.entry-iterator;
  is_finite : (goal.iterator-loop-entry).is_finite l.entry-iterator;
  tasks : l.tasks.items ++ map (λ (e : ℕ × Task). e.1) l.entry-iterator.rest.items ≡ map (λ (e : ℕ × Task). e.1) l.fn.log.items;
}
