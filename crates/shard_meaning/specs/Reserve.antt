-- The reserve of a shard: when its spares are enough for all that can still come to it, so that it needs no more
-- memory.
-- Carried by: laws `a_claim_keeps_the_reserve`, .., `the_reserve_is_enough`.
use Rattle.std.specs.Prelude.{◌≤◌, ℕ, ◌+◌, Bool, false, not, nat_lt, ◌==◌, ◌&&◌, ◌||◌, Option, slice_index, is_none}
use Rattle.std.specs.Option.{option_map_or}
use Rattle.ptg_base.specs.Task.{Task}
use Rattle.ptg_base.specs.declared.edge.Edge.{Edge}
use Rattle.ptg_base.specs.declared.edge.WriteBack.{WriteBack}
use Rattle.ptg_base.specs.declared.edge.Item.TheVariants as item
use Rattle.plan_core.specs.declared.flow.FlowPlan.{FlowPlan}
use Rattle.plan_core.specs.declared.plan.Plan.{Plan}
use Rattle.plan_core.specs.Kinds.{flow_of}
use Rattle.dep_iter.specs.Consistent.{all_data, all_writes}
use Rattle.dep_iter.specs.Tasks.{all_tasks}
use Rattle.dep_shard.specs.Content.{Content, entry_of}
use Rattle.list_lemmas.specs.Counting.{count}
use Rattle.flow_meaning.specs.Machine.{MachineState, is_sent}
use Rattle.flow_meaning.specs.Table.{is_unclaimed}
use Rattle.shard_meaning.specs.Moment.{Moment, run_count}
use Rattle.shard_meaning.specs.Share.{Placement, is_of}

-- whether there is a flow and its tiles are of this type
abbrev pub has_type : ℕ → Option FlowPlan → Bool
has_type datatype f = option_map_or (λ (g : FlowPlan). g.datatype == datatype) f false

-- whether the tile of an edge is of this type: that of the flow that it comes to
abbrev pub is_edge_of_type : Plan → ℕ → Edge → Bool
is_edge_of_type P datatype e = has_type datatype (flow_of P.classes e.to.class e.in_flow)

-- whether the tile of a write-back is of this type: that of the flow that it is written from
abbrev pub is_write_of_type : Plan → ℕ → WriteBack → Bool
is_write_of_type P datatype w = has_type datatype (flow_of P.classes w.from.class w.flow)

-- whether an edge goes to a task of the shard k, with a tile of this type
abbrev pub is_edge_to : Plan → Placement → ℕ → ℕ → Edge → Bool
is_edge_to P of k datatype e = is_of of k e.to && is_edge_of_type P datatype e

-- whether a write-back is of a task of the shard k, with a tile of this type
abbrev pub is_write_from : Plan → Placement → ℕ → ℕ → WriteBack → Bool
is_write_from P of k datatype w = is_of of k w.from && is_write_of_type P datatype w

-- whether a task of the shard k has no entry there and is not claimed
abbrev pub is_due_entry : Placement → ℕ → MachineState → Content → Task → Bool
is_due_entry of k S y t = is_of of k t && (is_unclaimed S t && is_none (entry_of y t))

-- whether an edge to a task of the shard k, with a tile of this type, is not sent
abbrev pub is_due_edge : Plan → Placement → ℕ → ℕ → MachineState → Edge → Bool
is_due_edge P of k datatype S e = is_edge_to P of k datatype e && not (is_sent S (item.Edge e))

-- whether a write-back of a task of the shard k is not sent
abbrev pub is_due_write : Placement → ℕ → MachineState → WriteBack → Bool
is_due_write of k S w = is_of of k w.from && not (is_sent S (item.Write w))

-- whether a write-back of a task of the shard k, with a tile of this type, is not sent
abbrev pub is_due_write_tile : Plan → Placement → ℕ → ℕ → MachineState → WriteBack → Bool
is_due_write_tile P of k datatype S w =
    is_write_from P of k datatype w && not (is_sent S (item.Write w))

-- whether a task of the shard k has not ended: it is not claimed, or runs
abbrev pub is_due_end : Placement → ℕ → Moment → Task → Bool
is_due_end of k R t = is_of of k t && (is_unclaimed R.state t || nat_lt 0 (run_count R t))

-- the shard k has spares for all that is due
pub record HasReserve (P : Plan) (of : Placement) (k : ℕ) (R : Moment) (y : Content) : Type 0 where
  -- an entry for each of its tasks that is not claimed and has none
  pub entries : count (is_due_entry of k R.state y) (all_tasks P) ≤ y.spare.entries
  -- a tile of its type for each data edge to one of its tasks and each write-back of one that is not sent
  pub tiles : (datatype : ℕ)
      → count (is_due_edge P of k datatype R.state) (all_data P)
      + count (is_due_write_tile P of k datatype R.state) (all_writes P)
      ≤ slice_index y.spare.tiles datatype
  -- a place for each write-back of one of its tasks that is not sent
  pub writes : count (is_due_write of k R.state) (all_writes P) ≤ y.spare.writes
  -- a row for each of its tasks that has not ended
  pub traps : count (is_due_end of k R) (all_tasks P) ≤ y.spare.traps
