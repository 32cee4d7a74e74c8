use Rattle.std.proofs.Common.{◌≡◌, ◌+◌, ◌*◌, ℤ, length}
use Rattle.range_space.specs.Values.{values}
use Rattle.range_space.specs.ListsAfter.{lists_over}
use Rattle.range_space.proofs.walk.+nesting.Given as goal

abbrev pub decreases-first : goal.decreases-first
decreases-first l = 3 * length l.defs.now

abbrev pub decreases-first_with : goal.decreases-first_with
decreases-first_with l = 3 * length l.inner.now + 1

abbrev pub decreases-first_among : goal.decreases-first_among
decreases-first_among l = 3 * length l.inner.now + 2

-- no full list has a value that was tried before
abbrev pub invariant-first_among-loop-v : goal.invariant-first_among-loop-v
invariant-first_among-loop-v l = record {
  can_next : (goal.iterator-first_among-loop-v).can_next l.v-iterator;
  is_finite : (goal.iterator-first_among-loop-v).is_finite l.v-iterator;
  same_locals : l.locals ≡ l.initial.locals;
  in_steps : (at : ℤ) × (l.v-iterator ≡ values at l.steps.hi l.steps.step);
  none_behind : lists_over l.inner l.initial.locals (values l.steps.lo l.steps.hi l.steps.step) ≡ lists_over l.inner l.initial.locals l.v-iterator;
}
