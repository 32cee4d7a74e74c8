use Rattle.std.proofs.Common.{◌≡◌, length, take}
use Rattle.std.specs.Map.{keys_of}
use Rattle.name_table.specs.Index.{IsIndexOf}
use Rattle.name_table.proofs.index.Index.rebuilt.Given as goal

abbrev pub invariant-loop-number : goal.invariant-loop-number
invariant-loop-number g l = IsIndexOf (take l.number (keys_of l.names)) l.index × (length l.index.buckets.items ≡ l.count)
