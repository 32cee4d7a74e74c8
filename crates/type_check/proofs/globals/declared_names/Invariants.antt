use Rattle.std.proofs.Common.{◌≡◌, take, List, ℕ}
use Rattle.name_table.specs.Names.{has_name}
use Rattle.type_rules.specs.TreesAndFaults.{Word}
use Rattle.type_rules.specs.Repeats.{is_taken}
use Rattle.type_check.proofs.globals.declared_names.Given as goal

abbrev pub invariant-loop-global : goal.invariant-loop-global
invariant-loop-global l = (n : List ℕ) → has_name l.names n ≡ is_taken (λ (w : Word). w) (take l.global-index l.globals) n
