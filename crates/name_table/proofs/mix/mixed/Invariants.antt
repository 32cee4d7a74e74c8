use Rattle.std.proofs.Common.{◌≡◌, drop}
use Rattle.name_table.specs.Index.{mixed_from}
use Rattle.name_table.proofs.mix.mixed.Given as goal

abbrev pub invariant-loop-byte : goal.invariant-loop-byte
invariant-loop-byte l = mixed_from l.number (drop l.byte-index l.name) ≡ mixed_from 0 l.name
