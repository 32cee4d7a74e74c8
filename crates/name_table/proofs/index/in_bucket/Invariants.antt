use Rattle.std.proofs.Common.{◌≡◌, drop}
use Rattle.std.specs.Map.{keys_of}
use Rattle.name_table.specs.Index.{in_bucket}
use Rattle.name_table.proofs.index.in_bucket.Given as goal

abbrev pub invariant-loop-slot : goal.invariant-loop-slot
invariant-loop-slot g l = in_bucket (keys_of l.names) l.name l.mark (drop l.slot-index l.slots) ≡ in_bucket (keys_of l.names) l.name l.mark l.slots
