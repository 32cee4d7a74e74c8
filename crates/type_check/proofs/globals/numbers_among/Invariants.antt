use Rattle.std.proofs.Common.{◌≡◌, take, List, ℕ, None, if◌then◌else◌, position}
use Rattle.name_table.specs.Names.{value_named}
use Rattle.type_rules.specs.Names.{is_declared, coll_is}
use Rattle.type_check.specs.Globals.{job_with}
use Rattle.type_check.proofs.globals.numbers_among.Given as goal

abbrev pub invariant-loop-i : goal.invariant-loop-i
invariant-loop-i l = (n : List ℕ) → value_named l.table n ≡ (if is_declared (job_with l.declared) n then position (coll_is n) (take l.i l.colls) else None)
