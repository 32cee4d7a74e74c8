-- Levels that are high enough bound the weights of all chains.
use Rattle.std.proofs.Common.{◌≡◌, ℕ, nat_eq, Bool, false, IsTrue, ◌+◌, ◌≤◌, ◌↔◌, List, [], ◌∷◌, sym, ◌∙◌, arith}
use Rattle.std.proofs.lemmas.Bool.{eq-eqb, eqb-true, false≢true}
use Rattle.ptg_base.specs.Lists.{IsIn}
use Rattle.ptg_base.specs.Task.{Task}
use Rattle.plan_core.specs.declared.plan.Plan.{Plan}
use Rattle.chain_cert.specs.Certificates.{HasTasksInOrder}
use Rattle.chain_cert.specs.Chains.{IsChain}
use Rattle.chain_cert.specs.Weights.{chain_weight, weight}
use Rattle.chain_cert.specs.Checked.{ShowsHeaviest, greatest_level}
use Rattle.cert_check.specs.Checking.{AreHighEnough}
use Rattle.chain_cert.proofs.CallerLemmas.{at_most_greatest, row_of}

module _ (P : Plan) (ws : List ℕ) (levels : List (Task × ℕ)) (order : HasTasksInOrder P levels) where
  module _ (high : AreHighEnough P ws levels levels) where
    -- a chain weighs at most the greatest level, also together with a weight `below` for which the level of its first
    -- task leaves room
    climb : (t : Task) (ts : List Task) (n below : ℕ) → IsChain P (t ∷ ts) → IsIn (t, n) levels
        → below + weight ws t ≤ n → below + chain_weight ws (t ∷ ts) ≤ greatest_level levels
    climb t [] n below c i h = omega (arith, h, at_most_greatest levels (t, n) i)
    climb t (u ∷ us) n below c i h =
        let row = row_of P ws levels order u c.2.0 in
        let up = (high (u, row.0) row.1).above t c.1 n i in
        omega (arith, climb u us row.0 (below + weight ws t) c.2 row.1 (omega (arith, h, up)))

    pub bounded : (ts : List Task) → IsChain P ts → chain_weight ws ts ≤ greatest_level levels
    bounded [] c = omega arith
    bounded (t ∷ ts) c =
        let row = row_of P ws levels order t c.0 in
        omega (arith, climb t ts row.0 0 c row.1 (omega (arith, (high (t, row.0) row.1).own)))

  -- levels that are high enough row by row
  pub rows_high : (chain : List Task) → ShowsHeaviest P ws chain levels → AreHighEnough P ws levels levels
  rows_high chain s row i = record { own = s.own row.0 row.1 i; above = λ t link k j. s.above t row.0 k row.1 j i link }

  pub shows : (chain : List Task) → AreHighEnough P ws levels levels → IsChain P chain
      → chain_weight ws chain ≡ greatest_level levels → ShowsHeaviest P ws chain levels
  shows chain high c e = record {
    tasks = order;
    own = λ t n i. (high (t, n) i).own;
    above = λ s t k n i j link. (high (t, n) j).above s link k i;
    is_chain = c;
    heaviest = e;
  }

-- what the checker returns, by what it has found
pub not_ordered : (P : Plan) (ws : List ℕ) (chain : List Task) (levels : List (Task × ℕ))
    → (HasTasksInOrder P levels → ⊥) → IsTrue false ↔ ShowsHeaviest P ws chain levels
not_ordered P ws chain levels h = (λ e. absurd (false≢true e), λ s. absurd (h s.tasks))

pub not_high : (P : Plan) (ws : List ℕ) (chain : List Task) (levels : List (Task × ℕ))
    → (AreHighEnough P ws levels levels → ⊥) → IsTrue false ↔ ShowsHeaviest P ws chain levels
not_high P ws chain levels h = (λ e. absurd (false≢true e), λ s. absurd (h (rows_high P ws levels s.tasks chain s)))

pub not_chain : (P : Plan) (ws : List ℕ) (chain : List Task) (levels : List (Task × ℕ)) → (IsChain P chain → ⊥) → IsTrue false ↔ ShowsHeaviest P ws chain levels
not_chain P ws chain levels h = (λ e. absurd (false≢true e), λ s. absurd (h s.is_chain))

pub by_weight : (P : Plan) (ws : List ℕ) (chain : List Task) (levels : List (Task × ℕ)) → HasTasksInOrder P levels
    → AreHighEnough P ws levels levels → IsChain P chain
    → (b : Bool) → IsTrue b ↔ (chain_weight ws chain ≡ greatest_level levels) → IsTrue b ↔ ShowsHeaviest P ws chain levels
by_weight P ws chain levels order high c b h = (λ e. shows P ws levels order chain high c (h.0 e), λ s. h.1 s.heaviest)

-- then no chain is heavier
pub none_heavier : (P : Plan) (ws : List ℕ) (chain : List Task) (levels : List (Task × ℕ))
    → ShowsHeaviest P ws chain levels → (ts : List Task) → IsChain P ts → chain_weight ws ts ≤ chain_weight ws chain
none_heavier P ws chain levels s ts c = omega (arith, bounded P ws levels s.tasks (rows_high P ws levels s.tasks chain s) ts c, s.heaviest)

-- a test of two numbers that are the weight of a chain and the greatest level
pub weighs : (ws : List ℕ) (chain : List Task) (levels : List (Task × ℕ)) (a b : ℕ) → a ≡ chain_weight ws chain
    → b ≡ greatest_level levels → IsTrue (nat_eq a b) ↔ (chain_weight ws chain ≡ greatest_level levels)
weighs ws chain levels a b p q = (λ e. sym p ∙ eqb-true a b e ∙ q, λ e. eq-eqb a b (p ∙ e ∙ sym q))
