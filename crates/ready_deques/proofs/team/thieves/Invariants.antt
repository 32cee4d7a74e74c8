use Rattle.std.proofs.Common.{◌≡◌, length, map, take}
use Rattle.ready_deques.specs.Ends.{less, new_thief}
use Rattle.ready_deques.proofs.Rows.{partly}
use Rattle.ready_deques.proofs.team.thieves.Given as goal

abbrev pub invariant-loop-k : goal.invariant-loop-k
invariant-loop-k l =
    (l.owners.items ≡ partly (less 1) l.k l.initial.owners.items)
    × (l.thieves.items ≡ map new_thief (take l.k l.initial.owners.items))
    × (l.k-end ≡ length l.initial.owners.items)
