use Rattle.std.proofs.Common.{◌≡◌, length, All}
use Rattle.ready_deques.specs.Ends.{IsNew}
use Rattle.ready_deques.proofs.team.new_owners.Given as goal

abbrev pub invariant-loop : goal.invariant-loop
invariant-loop l = (length l.owners.items ≡ l.counter) × All (IsNew 0) l.owners.items
