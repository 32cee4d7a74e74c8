-- What a task computes, backward from the edges into it: no state, no order, no counter. Source: DAGuE (Parallel
-- Computing, 2012): a task runs on the outputs of its sources.
-- Carried by: `flow_core::run_one`; laws `a_task_ends_by_its_sources`, `what_a_round_finds_stays`.
-- Tested by: `jobs.txt`, `answers.txt`, `chain.txt`, `traps.txt`, `stalls.txt`, `examples.txt`.
use Rattle.std.specs.Prelude.{ℕ, zero, suc, List, length, Bool, Option, None, if◌then◌else◌, ◌≡◌, IsSome}
use Rattle.std.specs.List.{list_all}
use Rattle.ptg_base.specs.Entry.{FlowTile}
use Rattle.ptg_base.specs.Task.{Task}
use Rattle.ptg_base.specs.declared.edge.Edge.{Edge}
use Rattle.plan_core.specs.declared.plan.Plan.{Plan}
use Rattle.coll_data.specs.Data.{Data}
use Rattle.dep_iter.specs.Tasks.{all_tasks}
use Rattle.dep_iter.specs.Edges.{in_edges}
use Rattle.flow_meaning.specs.Starting.{Delivery, delivered_tiles}
use Rattle.flow_meaning.specs.Ending.{Ended, has_outputs, output_tile, ended_on}

-- whether the source of each edge into a task has outputs, if tasks ended as `before` says
abbrev pub has_all_sources : Plan → (Task → Option Ended) → Task → Bool
has_all_sources P before t = list_all (λ (e : Edge). has_outputs (before e.from)) (in_edges P t)

-- what an edge delivers, if tasks ended so: the tile that its source leaves in the flow that the edge comes from
abbrev pub source_tile : (Task → Option Ended) → Delivery
source_tile before e = output_tile (before e.from) e.out_flow

-- how a task ends, if the source of each edge into it has outputs
abbrev pub ended_after : Plan → Data → (Task → Option Ended) → Task → Option Ended
ended_after P G before t = if has_all_sources P before t then ended_on P G (source_tile before) t else None

-- how a task ends, if each chain of sources that leads to it has at most n tasks, including itself
unfoldable pub ended_within : Plan → Data → ℕ → Task → Option Ended
ended_within P G zero t = None
ended_within P G (suc n) t = ended_after P G (ended_within P G n) t

-- how a task ends, if it runs at all: no chain of different tasks is longer than the job has tasks
unfoldable pub ended : Plan → Data → Task → Option Ended
ended P G t = ended_within P G (length (all_tasks P)) t

-- the inputs of a task: the tiles that come to it by edges, each after the number of its flow, in order of flow number
abbrev pub inputs : Plan → Data → Task → List FlowTile
inputs P G t = delivered_tiles P (source_tile (ended P G)) t

-- the task runs, and `arrived` are the tiles that come to it by edges
-- Carried by: `task_run::Bench::run`.
pub record MayRun (P : Plan) (G : Data) (t : Task) (arrived : List FlowTile) : Type 0 where
  pub runs : IsSome (ended P G t)
  pub inputs : arrived ≡ inputs P G t
