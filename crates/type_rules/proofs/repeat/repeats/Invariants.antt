use Rattle.std.proofs.Common.{◌≡◌, take, List, ℕ, Some}
use Rattle.name_table.specs.Names.{has_name}
use Rattle.type_rules.specs.Repeats.{is_taken, repeats}
use Rattle.type_rules.specs.Returns.{ReturnsChecked}
use Rattle.type_rules.proofs.repeat.repeats.Given as goal

abbrev pub invariant-loop-item : goal.invariant-loop-item
invariant-loop-item g l =
    record {
      names : (n : List ℕ) → has_name l.names n ≡ is_taken g.T.HasName.word (take l.item-index l.items) n;
      rules : ReturnsChecked l.rules (Some tt) (repeats g.T.HasName.word l.code (take l.item-index l.items));
    }
