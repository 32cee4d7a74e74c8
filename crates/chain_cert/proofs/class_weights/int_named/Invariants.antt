use Rattle.std.proofs.Common.{◌≡◌, drop}
use Rattle.name_table.specs.Names.{value_named}
use Rattle.chain_cert.proofs.class_weights.int_named.Given as goal

abbrev pub invariant-loop-int : goal.invariant-loop-int
invariant-loop-int l = value_named l.ints l.name ≡ value_named (drop l.int-index l.ints) l.name
