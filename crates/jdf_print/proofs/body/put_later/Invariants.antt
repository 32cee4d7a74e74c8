use Rattle.std.proofs.Common.{◌≡◌, ◌++◌, ◌∷◌, [], take}
use Rattle.std.specs.List.{flat_map}
use Rattle.jdf_print.specs.Fragments.{text, token, space}
use Rattle.jdf_print.proofs.body.put_later.Given as goal

abbrev pub invariant-loop-t : goal.invariant-loop-t
invariant-loop-t l = l.out ≡ l.initial.out ++ text (flat_map (λ t. space ∷ token t.text ∷ []) (take l.t-index l.tokens))
