-- How much memory a preload takes: a tile for each data edge and each write-back, and eight tiles of each type for each
-- worker.
-- Carried by: `preload_bytes`; law `top_laws::with_one_type_the_preload_is_a_product`.
-- Tested by: `preload.txt`, `preload_limit.txt`.
use Rattle.std.specs.Prelude.{ℕ, ◌+◌, ◌*◌, sum, Option, slice_index}
use Rattle.std.specs.Option.{option_map_or}
use Rattle.ptg_base.specs.Limits.{most_edges, most_flows, most_tile_elements}
use Rattle.ptg_base.specs.declared.edge.Edge.{Edge}
use Rattle.ptg_base.specs.declared.edge.WriteBack.{WriteBack}
use Rattle.plan_core.specs.declared.flow.FlowPlan.{FlowPlan}
use Rattle.plan_core.specs.declared.plan.Plan.{Plan}
use Rattle.plan_core.specs.Kinds.{flow_of}
use Rattle.dep_iter.specs.Consistent.{all_data, all_writes}
use Rattle.list_lemmas.specs.Counting.{weigh}

-- how many numbers a tile of a flow has; 0 if there is no such flow
abbrev pub elements_of : Plan → Option FlowPlan → ℕ
elements_of P f = option_map_or (λ (g : FlowPlan). slice_index P.elems g.datatype) f 0

-- how many numbers the tile of an edge has: as many as a tile of the flow that it goes into
abbrev pub edge_elements : Plan → Edge → ℕ
edge_elements P e = elements_of P (flow_of P.classes e.to.class e.in_flow)

-- how many numbers the tile of a write-back has: as many as a tile of the flow that it is written from
abbrev pub write_elements : Plan → WriteBack → ℕ
write_elements P w = elements_of P (flow_of P.classes w.from.class w.flow)

-- how many numbers the tiles of all data edges and all write-backs have
unfoldable pub sent_elements : Plan → ℕ
sent_elements P = weigh (edge_elements P) (all_data P) + weigh (write_elements P) (all_writes P)

-- the most numbers that can be sent: a largest tile for each edge and for each write-back
abbrev pub most_sent_elements : ℕ
most_sent_elements = most_tile_elements * (most_edges + most_edges)

-- the bytes of a preload for this many workers: eight for each number
unfoldable pub preload_bytes : Plan → ℕ → ℕ
preload_bytes P workers = 8 * (sent_elements P + most_flows * workers * sum P.elems)
