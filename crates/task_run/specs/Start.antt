-- What a task starts on. Source: DAGuE (Parallel Computing, 2012): a task runs on what its sources gave.
-- Carried by: `Start`, which keeps that the job is consistent and that the data fit it; `Bench::run`.
use Rattle.std.specs.Prelude.{◌≡◌, ℕ, ◌≤◌, List}
use Rattle.ptg_base.specs.Entry.{FlowTile}
use Rattle.ptg_base.specs.Task.{Task}
use Rattle.plan_core.specs.declared.plan.Plan.{Plan}
use Rattle.coll_data.specs.Data.{Data}
use Rattle.dep_shard.specs.Arrivals.{tile_of}
use Rattle.flow_meaning.specs.Starting.{Delivery}
use Rattle.flow_meaning.specs.Backward.{ended, inputs, source_tile}
use Rattle.task_run.specs.declared.start.Start.{Start}

-- the plan of the task that starts
abbrev pub plan_of : Start → Plan
plan_of s = s.at.now.plan.now

-- the task itself
abbrev pub task_of : Start → Task
task_of s = s.at.now.task.now

-- the data of its job
abbrev pub data_of : Start → Data
data_of s = s.given.now

-- what the edges into a task deliver: the tiles that their sources leave
abbrev pub delivered : Plan → Data → Delivery
delivered P G = source_tile (ended P G)

-- for flows from n on, the tiles that arrived are the inputs of the task
abbrev pub HasInputsFrom : Plan → Data → Task → ℕ → List FlowTile → Type 0
HasInputsFrom P G t n arrived = (m : ℕ) → n ≤ m → tile_of arrived m ≡ tile_of (inputs P G t) m
