use Rattle.std.proofs.Common.{◌≡◌, ℕ, ◌+◌, ◌<◌, All, length, map, drop, Some}
use Rattle.std.specs.Prelude.{slice_get}
use Rattle.ready_deques.specs.Ends.{Owner, new_thief}
use Rattle.ready_deques.specs.Hands.{fresh}
use Rattle.ready_deques.proofs.team.assemble.Given as goal

abbrev pub invariant-loop-own : goal.invariant-loop-own
invariant-loop-own l =
    (goal.iterator-loop-own).can_next l.own-iterator
    × (goal.iterator-loop-own).is_finite l.own-iterator
    × (drop (length l.hands.items) l.fn.owners.items ≡ l.own-iterator.rest.items)
    × (length l.hands.items + length l.own-iterator.rest.items ≡ length l.fn.owners.items)
    × (length l.rows.items ≡ length l.own-iterator.rest.items)
    × All (λ row. row.items ≡ map new_thief l.fn.owners.items) l.rows.items
    × ((number : ℕ) → number < length l.hands.items → slice_get l.hands.items number ≡ Some (fresh (map (λ (b : Owner). b.deque) l.fn.owners.items) number))
