-- A task has at most one level, and a list one last element if it has any.
use Rattle.std.proofs.Common.{◌≡◌, ℕ, List, [], ◌∷◌, ◌++◌, refl, ap, ◌⊎◌, inl, inr, arith}
use Rattle.ptg_base.specs.Task.{Task}
use Rattle.plan_core.specs.declared.plan.Plan.{Plan}
use Rattle.chain_cert.specs.Levels.{IsLevel}

-- a task has at most one level
pub level_one : (P : Plan) (ws : List ℕ) (t : Task) (m n : ℕ) → IsLevel P ws t m → IsLevel P ws t n → m ≡ n
level_one P ws t m n a b = omega (arith, b.most a.chain a.is_chain a.ends, a.most b.chain b.is_chain b.ends, a.reached, b.reached)

-- the last of a list, if it has one
pub last_or_none : {A : Type 0} (xs : List A) → (xs ≡ []) ⊎ ((front : List A) × (x : A) × (xs ≡ front ++ x ∷ []))
last_or_none [] = inl refl
last_or_none (x ∷ xs) = elim (last_or_none xs) [
  | inl e ↦ inr ([], x, ap (λ l. x ∷ l) e)
  | inr p ↦ inr (x ∷ p.0, p.1, ap (λ l. x ∷ l) p.2)
]
