use Rattle.std.proofs.Common.{◌≡◌, ◌++◌, ◌∷◌, [], take}
use Rattle.std.specs.List.{flat_map}
use Rattle.jdf_print.specs.Fragments.{text, token, comma}
use Rattle.jdf_print.proofs.class.put_later.Given as goal

abbrev pub invariant-loop-name : goal.invariant-loop-name
invariant-loop-name l = l.out ≡ l.initial.out ++ text (flat_map (λ w. comma ++ token w.text ∷ []) (take l.name-index l.names))
