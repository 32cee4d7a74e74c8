use Rattle.std.proofs.Common.{◌≡◌, ◌++◌, take}
use Rattle.std.specs.List.{flat_map}
use Rattle.jdf_print.specs.Fragments.{text}
use Rattle.jdf_print.specs.Spelling.{class}
use Rattle.jdf_print.proofs.printing.put_classes.Given as goal

abbrev pub invariant-loop-c : goal.invariant-loop-c
invariant-loop-c l = l.out ≡ l.initial.out ++ text (flat_map class (take l.c-index l.classes))
