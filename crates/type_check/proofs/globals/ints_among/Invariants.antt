use Rattle.std.proofs.Common.{◌≡◌, take, List, ℕ, None, if◌then◌else◌}
use Rattle.name_table.specs.Names.{value_named}
use Rattle.type_rules.specs.Names.{is_declared}
use Rattle.type_check.specs.Globals.{job_with}
use Rattle.type_check.proofs.globals.ints_among.Given as goal

abbrev pub invariant-loop-int : goal.invariant-loop-int
invariant-loop-int l = (n : List ℕ) → value_named l.table n ≡ (if is_declared (job_with l.declared) n then value_named (take l.int-index l.ints) n else None)
