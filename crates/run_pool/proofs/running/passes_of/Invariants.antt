use Rattle.std.proofs.Common.{◌≡◌, ◌+◌, ◌≤◌, ◌++◌, ◌⊎◌, length, map, vec_capacity}
use Rattle.ptg_base.specs.Lists.{IsIn}
use Rattle.run_pool.specs.Seated.{IsDone, PaddedDesk, pass_on}
use Rattle.run_pool.proofs.running.passes_of.Given as goal

abbrev pub invariant-loop-desk : goal.invariant-loop-desk
invariant-loop-desk l = record {
  can_next : (goal.iterator-loop-desk).can_next l.desk-iterator;
  is_finite : (goal.iterator-loop-desk).is_finite l.desk-iterator;
  passes : l.passes.items ++ map pass_on l.desk-iterator.rest.items ≡ map pass_on l.fn.desks.items;
  room : length l.passes.items + length l.desk-iterator.rest.items ≤ vec_capacity l.passes;
  done : (d : PaddedDesk) → IsIn d l.fn.desks.items → IsDone d ⊎ IsIn d l.desk-iterator.rest.items;
  left : (d : PaddedDesk) → IsIn d l.desk-iterator.rest.items → IsIn d l.fn.desks.items;
}
