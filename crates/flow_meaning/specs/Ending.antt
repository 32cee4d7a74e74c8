-- How a task ends on the tiles that it starts on: with the tiles of its flows, or with a trap. Source: DAGuE (Parallel
-- Computing, 2012); traps are this project's own choice.
-- Carried by: `flow_core::run_one`; laws `a_task_ends_by_its_sources`, `what_a_round_finds_stays`.
-- Tested by: `jobs.txt`, `answers.txt`, `chain.txt`, `traps.txt`, `stalls.txt`, `examples.txt`.
use Rattle.std.specs.Prelude.{ℕ, ℤ, List, Bool, true, false, Result, Ok, Err, Option, Some, None, slice_get, option_map, slice_index, if◌then◌else◌}
use Rattle.ptg_base.specs.Task.{Task}
use Rattle.term_core.specs.declared.trap.Trap.{Trap}
use Rattle.body_eval.specs.Element.{tile_of}
use Rattle.body_eval.specs.Meaning.{body_meaning}
use Rattle.plan_core.specs.declared.class.ClassPlan.{ClassPlan}
use Rattle.plan_core.specs.declared.flow.FlowPlan.{FlowPlan}
use Rattle.plan_core.specs.declared.plan.Plan.{Plan}
use Rattle.plan_core.specs.Kinds.{is_data}
use Rattle.coll_data.specs.Data.{Data}
use Rattle.dep_iter.specs.declared.source.Source.{Source}
use Rattle.dep_iter.specs.declared.source.Source.TheVariants as source
use Rattle.dep_iter.specs.Edges.{data_source}
use Rattle.dep_iter.specs.Tasks.{locals_of}
use Rattle.flow_meaning.specs.Starting.{Delivery, starting_tiles}

-- how a task ends: with the tiles of its flows after the body, an entry for each flow, or with the cause of a trap
abbrev pub Ended : Type 0
Ended = Result (List (Option (List ℤ))) Trap

-- Whether a task has outputs: whether it has ended, and without a trap. An output may be absent, as that of a CTL flow
-- is.
abbrev pub has_outputs : Option Ended → Bool
has_outputs None = false
has_outputs (Some (Err cause)) = false
has_outputs (Some (Ok tiles)) = true

-- the tile that a task leaves in a flow, if it has one
abbrev pub output_tile : Option Ended → ℕ → Option (List ℤ)
output_tile None flow = None
output_tile (Some (Err cause)) flow = None
output_tile (Some (Ok tiles)) flow = tile_of tiles flow

-- How a task ends if the edges into it deliver these tiles: as its body says. A class that does not exist has no body.
unfoldable pub ended_on : Plan → Data → Delivery → Task → Option Ended
ended_on P G delivered t =
    option_map (λ (c : ClassPlan). body_meaning c.body (locals_of P t) (starting_tiles P G delivered t))
    (slice_get P.classes t.class)

-- How many numbers the tile of a flow with this source has: as many as the type of the flow has elements. A flow whose
-- source is `NULL` has no tile. In a consistent job only a WRITE flow may have no source, and it starts as new.
abbrev pub size_from : Plan → FlowPlan → Source → Option ℕ
size_from P f (source.Task e) = Some (slice_index P.elems f.datatype)
size_from P f (source.Place p) = Some (slice_index P.elems f.datatype)
size_from P f source.New = Some (slice_index P.elems f.datatype)
size_from P f source.Null = None
size_from P f source.Nothing = Some (slice_index P.elems f.datatype)

-- how many numbers the tile of flow n of a task has; a CTL flow has no tile
abbrev pub flow_size : Plan → Task → ℕ → FlowPlan → Option ℕ
flow_size P t n f = if is_data (Some f.kind) then size_from P f (data_source P t n) else None
