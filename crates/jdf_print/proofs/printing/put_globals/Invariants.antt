use Rattle.std.proofs.Common.{◌≡◌, ◌++◌, ◌∷◌, [], take}
use Rattle.std.specs.List.{flat_map}
use Rattle.jdf_print.specs.Fragments.{text, token, line}
use Rattle.jdf_print.proofs.printing.put_globals.Given as goal

abbrev pub invariant-loop-name : goal.invariant-loop-name
invariant-loop-name l = l.out ≡ l.initial.out ++ text (flat_map (λ w. line (token w.text ∷ [])) (take l.name-index l.names))
