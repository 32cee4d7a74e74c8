-- Lists of levels that show that no chain is heavier than a given one. Source: the usual duality of longest paths and
-- potentials.
-- Carried by: `cert_check::check_chain`.
use Rattle.std.specs.Prelude.{◌≡◌, ◌≤◌, ◌+◌, ℕ, max, List, [], ◌∷◌}
use Rattle.ptg_base.specs.Lists.{IsIn}
use Rattle.ptg_base.specs.Task.{Task}
use Rattle.plan_core.specs.declared.plan.Plan.{Plan}
use Rattle.chain_cert.specs.Chains.{IsChain, IsSourceOf}
use Rattle.chain_cert.specs.Weights.{chain_weight, weight}
use Rattle.chain_cert.specs.Certificates.{HasTasksInOrder}

-- the greatest level of these rows, 0 if there are none
abbrev pub greatest_level : List (Task × ℕ) → ℕ
greatest_level [] = 0
greatest_level (row ∷ rows) = max row.1 (greatest_level rows)

-- each level is at least the weight of its task, and at least the level of each source plus that weight; the chain
-- weighs the greatest level
pub record ShowsHeaviest (P : Plan) (ws : List ℕ) (chain : List Task) (levels : List (Task × ℕ)) : Type 0 where
  pub tasks : HasTasksInOrder P levels
  pub own : (t : Task) (n : ℕ) → IsIn (t, n) levels → weight ws t ≤ n
  pub above : (s t : Task) (k n : ℕ) → IsIn (s, k) levels → IsIn (t, n) levels → IsSourceOf P s t → k + weight ws t ≤ n
  pub is_chain : IsChain P chain
  pub heaviest : chain_weight ws chain ≡ greatest_level levels
