-- The loan of a shard to the pass that holds its turn.
use Rattle.std.specs.Prelude.{ℕ}
use Rattle.std.specs.Borrow.{Fml, Lends, MutBor}
use Rattle.atomic_table.specs.Lent.{seat_with}
use Rattle.dep_shard.specs.Content.{Content}
use Rattle.dep_shard.specs.contracts.shard.Shard.{the_row as shard_row}
use Rattle.table_rule.specs.contracts.pass_seat.PassSeat.{the_row as seat_row}
use Rattle.table_rule.specs.declared.pass_seat.PassSeat.{PassSeat}

-- the seat in which the shard k, which the pass took last, has the content y
abbrev pub with_shard : PassSeat → ℕ → Content → PassSeat
with_shard s k y = record { seat = seat_with s.seat k y }

-- when the loan ends, the shard k of the seat has what was left in the shard that was lent
abbrev pub LendsShard : MutBor PassSeat → ℕ → MutBor Content → Fml
LendsShard s k y = Lends seat_row shard_row s y (with_shard s.now k)
