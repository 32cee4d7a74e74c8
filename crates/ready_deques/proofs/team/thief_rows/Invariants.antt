use Rattle.std.proofs.Common.{◌≡◌, length, map, All}
use Rattle.ready_deques.specs.Ends.{less, new_thief}
use Rattle.ready_deques.proofs.team.thief_rows.Given as goal

abbrev pub invariant-loop : goal.invariant-loop
invariant-loop l =
    (l.owners.items ≡ map (less l.counter) l.initial.owners.items)
    × (length l.rows.items ≡ l.counter)
    × All (λ row. row.items ≡ map new_thief l.initial.owners.items) l.rows.items
    × (l.end ≡ length l.initial.owners.items)
