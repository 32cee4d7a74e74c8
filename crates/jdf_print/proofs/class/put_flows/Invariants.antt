use Rattle.std.proofs.Common.{◌≡◌, ◌++◌, take}
use Rattle.std.specs.List.{flat_map}
use Rattle.jdf_print.specs.Fragments.{text}
use Rattle.jdf_print.specs.Spelling.{flow}
use Rattle.jdf_print.proofs.class.put_flows.Given as goal

abbrev pub invariant-loop-f : goal.invariant-loop-f
invariant-loop-f l = l.out ≡ l.initial.out ++ text (flat_map flow (take l.f-index l.flows))
