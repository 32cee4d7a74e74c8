use Rattle.std.proofs.Common.{◌≡◌, ◌++◌, take}
use Rattle.std.specs.List.{flat_map}
use Rattle.jdf_print.specs.Fragments.{text}
use Rattle.jdf_print.specs.Spelling.{definition}
use Rattle.jdf_print.proofs.class.put_definitions.Given as goal

abbrev pub invariant-loop-d : goal.invariant-loop-d
invariant-loop-d l = l.out ≡ l.initial.out ++ text (flat_map definition (take l.d-index l.defs))
