-- Calm moments, at which nothing is under way; finished tasks; a shard, and all shards, without work.
-- Carried by: laws `shards_without_work_are_calm`, `a_calm_moment_is_at_rest`, `finished_tasks_stay_finished`.
use Rattle.std.specs.Prelude.{◌≡◌, ℕ, List, [], Some, slice_get}
use Rattle.ptg_base.specs.Lists.{IsIn}
use Rattle.ptg_base.specs.Task.{Task}
use Rattle.plan_core.specs.declared.plan.Plan.{Plan}
use Rattle.coll_data.specs.Data.{Data}
use Rattle.dep_shard.specs.Content.{Content, HasNoReady}
use Rattle.flow_meaning.specs.Machine.{MayClaim}
use Rattle.flow_meaning.specs.Sound.{IsFinished}
use Rattle.shard_meaning.specs.Moment.{Moment, run_count}

-- no task may be claimed, and none runs
pub record IsCalm (P : Plan) (R : Moment) : Type 0 where
  pub none_ready : (t : Task) → MayClaim P R.state t → ⊥
  pub none_runs : R.running ≡ []

-- each claimed task that no longer runs has trapped, or all its items were sent
abbrev pub AreFinished : Plan → Data → Moment → Type 0
AreFinished P G R = (t : Task) → IsIn t R.state.claims → run_count R t ≡ 0 → IsFinished P G R.state t

-- a shard has no work: none of its entries is ready, and none of its tasks runs
pub record HasNoWork (y : Content) : Type 0 where
  pub ready : HasNoReady y.entries
  pub running : y.running ≡ 0

-- no shard has work
abbrev pub HaveNoWork : List Content → Type 0
HaveNoWork ys = (k : ℕ) (y : Content) → slice_get ys k ≡ Some y → HasNoWork y
