use Rattle.std.proofs.Common.{◌≡◌, ◌++◌, take}
use Rattle.std.specs.List.{flat_map}
use Rattle.jdf_print.specs.Fragments.{text, comma}
use Rattle.jdf_print.specs.Spelling.{argument}
use Rattle.jdf_print.proofs.argument.put_later.Given as goal

abbrev pub invariant-loop-arg : goal.invariant-loop-arg
invariant-loop-arg l = l.out ≡ l.initial.out ++ text (flat_map (λ a. comma ++ argument a) (take l.arg-index l.args))
