-- What contracts see of a bench.
use Rattle.std.specs.Prelude.{◌≡◌, ℕ, ℤ, List, [], slice_get, slice_index, Option, Some, Ok}
use Rattle.ptg_base.specs.Task.{Task}
use Rattle.body_eval.specs.Sizes.{size_of}
use Rattle.plan_core.specs.declared.plan.Plan.{Plan}
use Rattle.coll_data.specs.Data.{Data}
use Rattle.flow_meaning.specs.Backward.{ended}

-- how many numbers a tile of each type has, and the tiles of the flows of the task on the bench, one place for each; no
-- places if no task is on it
pub record Laid : Type 0 where
  pub elems : List ℕ
  pub tiles : List (Option (List ℤ))

-- the bench has tiles of the types of this plan, and no task is on it
pub record IsBenchOf (P : Plan) (b : Laid) : Type 0 where
  pub elems : b.elems ≡ P.elems
  pub idle : b.tiles ≡ []

-- the bench has the tiles that the task leaves
abbrev pub HoldsOutputs : Plan → Data → Task → Laid → Type 0
HoldsOutputs P G t b = ended P G t ≡ Some (Ok b.tiles)

-- each tile that was lent has as many numbers as its type says
abbrev pub FitLent : List ℕ → List (Option ℕ) → List (Option (List ℤ)) → Type 0
FitLent elems lent tiles = (n k : ℕ) → slice_get lent n ≡ Some (Some k) → size_of tiles n ≡ Some (slice_index elems k)
