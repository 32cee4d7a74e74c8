-- What one edge, one write-back and one task need.
use Rattle.std.proofs.Common.{◌≡◌, ℕ, cond, Option, arith}
use Rattle.std.specs.Prelude.{option_map}
use Rattle.plan_core.specs.declared.flow.FlowPlan.{FlowPlan}
use Rattle.plan_core.specs.Kinds.{is_data}
use Rattle.list_lemmas.specs.Counting.{as_number}
use Rattle.shard_meaning.specs.Reserve.{has_type}
use Rattle.dep_table.specs.declared.needs.Needs.{Needs}
use Rattle.dep_table.specs.Needs.{AddsTiles}

-- how many tiles of a type come to a flow by one edge, and are written from it by one write-back, if there is such a
-- flow
abbrev pub carried : Option FlowPlan → ℕ → ℕ
carried o d = cond (is_data (option_map (λ (f : FlowPlan). f.kind) o)) (as_number (has_type d o)) 0

abbrev pub written : Option FlowPlan → ℕ → ℕ
written o d = as_number (has_type d o)

pub same_tiles : (f g : ℕ → ℕ) (n : ℕ) (a b : Needs) → AddsTiles f n a b → ((d : ℕ) → g d ≡ f d) → AddsTiles g n a b
same_tiles f g n a b w same = record { entries = w.entries; types = w.types; tiles = λ d. omega (arith, w.tiles d, same d); writes = w.writes; traps = w.traps }
