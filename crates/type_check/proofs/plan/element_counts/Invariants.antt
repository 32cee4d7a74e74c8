use Rattle.std.proofs.Common.{◌≡◌, ◌∷◌, ℕ, List, take, map}
use Rattle.type_check.proofs.plan.element_counts.Given as goal

abbrev pub invariant-loop-named : goal.invariant-loop-named
invariant-loop-named l = l.counts ≡ l.default ∷ map (λ (type : List ℕ × ℕ). type.1) (take l.named-index l.types)
