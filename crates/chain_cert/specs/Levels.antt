-- The level of a task. Source: the usual longest path to a node of a weighted acyclic graph.
-- Carried by: `certify`; law `cert_check::one_certificate`.
-- Tested by: `certify.txt`, `certificate_chains.txt`, `certificate_cycles.txt`.
use Rattle.std.specs.Prelude.{◌≡◌, ◌≤◌, ℕ, List}
use Rattle.ptg_base.specs.Task.{Task}
use Rattle.plan_core.specs.declared.plan.Plan.{Plan}
use Rattle.chain_cert.specs.Chains.{EndsWith, IsChain}
use Rattle.chain_cert.specs.Weights.{chain_weight}

-- n is the greatest weight of a chain that ends at t: some chain that ends there has it, and none is heavier
pub record IsLevel (P : Plan) (ws : List ℕ) (t : Task) (n : ℕ) : Type 0 where
  pub chain : List Task
  pub is_chain : IsChain P chain
  pub ends : EndsWith t chain
  pub reached : chain_weight ws chain ≡ n
  pub most : (ts : List Task) → IsChain P ts → EndsWith t ts → chain_weight ws ts ≤ n
