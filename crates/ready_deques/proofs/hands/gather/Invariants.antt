use Rattle.std.proofs.Common.{◌≡◌, ◌≢◌, ◌+◌, All, Some, length, sum_by}
use Rattle.std.specs.Prelude.{slice_get}
use Rattle.ptg_base.specs.Task.{Task}
use Rattle.ready_deques.specs.Hands.{Account, taken_from}
use Rattle.ready_deques.specs.Rule.{times}
use Rattle.ready_deques.proofs.hands.gather.Given as goal

abbrev pub invariant-loop-hands : goal.invariant-loop-hands
invariant-loop-hands l =
    (goal.iterator-loop-hands).can_next l.hands-iterator
    × (goal.iterator-loop-hands).is_finite l.hands-iterator
    × (l.own.deque ≡ l.initial.own.deque)
    × (l.own.pushed ≡ l.initial.own.pushed)
    × (l.own.parts + length l.hands-iterator.rest.items ≡ l.initial.own.parts + length l.fn.others.items)
    × All (λ (o : Account). (slice_get o.deques l.worker ≡ Some l.initial.own.deque) × (o.number ≢ l.worker)) l.hands-iterator.rest.items
    × ((id : Task) → times id l.own.taken + sum_by (λ o. times id (taken_from l.worker o)) l.hands-iterator.rest.items
    ≡ times id l.initial.own.taken + sum_by (λ o. times id (taken_from l.worker o)) l.fn.others.items)
