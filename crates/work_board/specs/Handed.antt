-- A claimed task with the tiles that were handed out with it. Source: DAGuE (Parallel Computing, 2012), where a task
-- runs on what its sources sent.
-- Carried by: `dep_table::Turn::claim`, `dep_table::DepTable::close`, `run_pool::run`, `run_pool::run_traced`.
use Rattle.std.specs.Prelude.{◌≡◌, List}
use Rattle.std.specs.Map.{keys_of}
use Rattle.ptg_base.specs.Entry.{FlowTile}
use Rattle.ptg_base.specs.Lists.{IsIn}
use Rattle.ptg_base.specs.Task.{Task}
use Rattle.plan_core.specs.declared.plan.Plan.{Plan}
use Rattle.coll_data.specs.Data.{Data}
use Rattle.flow_meaning.specs.Backward as backward

-- a task with the tiles that were handed out with its claim
abbrev pub HandedTask : Type 0
HandedTask = Task × List FlowTile

-- The tasks that were handed out are the claimed ones, in their order, and the tiles of each are its inputs.
pub record WereHandedInputs (P : Plan) (G : Data) (claims : List Task) (handed : List HandedTask) : Type 0 where
  pub tasks : keys_of handed ≡ claims
  pub inputs : (x : HandedTask) → IsIn x handed → x.1 ≡ backward.inputs P G x.0
