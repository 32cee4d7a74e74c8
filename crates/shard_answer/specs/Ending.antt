-- What the shards of a run hold together once nothing more can happen.
-- Carried by: `outcome_of`.
use Rattle.std.specs.Prelude.{◌≡◌, ◌<◌, ℕ, List, Some, length, slice_get}
use Rattle.ptg_base.specs.Task.{Task}
use Rattle.plan_core.specs.declared.plan.Plan.{Plan}
use Rattle.coll_data.specs.Data.{Data}
use Rattle.dep_iter.specs.Tasks.{IsTask}
use Rattle.dep_shard.specs.Content.{Content}
use Rattle.flow_meaning.specs.Sound.{IsSoundState}
use Rattle.shard_meaning.specs.Calm.{AreFinished, IsCalm}
use Rattle.shard_meaning.specs.Moment.{Moment}
use Rattle.shard_meaning.specs.Share.{IsShardOf, Placement}

-- Each shard holds its share of one sound moment, at which no task may be claimed, none runs and every claimed task is
-- finished. Each task belongs to one of the shards.
pub record HoldAnEnd (P : Plan) (G : Data) (shards : List Content) : Type 0 where
  pub of : Placement
  pub moment : Moment
  pub placed : (t : Task) → IsTask P t → of t < length shards
  pub shares : (k : ℕ) (y : Content) → slice_get shards k ≡ Some y → IsShardOf P G of k moment y
  pub sound : IsSoundState P G moment.state
  pub calm : IsCalm P moment
  pub finished : AreFinished P G moment
