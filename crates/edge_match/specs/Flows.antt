-- What the walk shows of a task: it is well, and each edge into it is sent. Source: PaRSEC (2013), in which each edge
-- is written at both ends.
-- Carried by: inside `accepts`.
-- Tested by: `accepted.txt`, `accepted_gathers.txt`, `accepted_squares.txt`.
use Rattle.std.specs.Prelude.{◌≡◌, ◌+◌, ℕ, ℤ, List, [], flat_map, filter, length, IsTrue, slice_get}
use Rattle.std.specs.Prelude.{Some}
use Rattle.ptg_base.specs.Lists.{HasNoRepeats, IsIn}
use Rattle.ptg_base.specs.Task.{Task}
use Rattle.ptg_base.specs.declared.edge.Edge.{Edge}
use Rattle.ptg_base.specs.declared.edge.Item.{Item}
use Rattle.plan_core.specs.declared.flow.FlowPlan.{FlowPlan}
use Rattle.plan_core.specs.declared.plan.Plan.{Plan}
use Rattle.plan_core.specs.Place.{HasPlace}
use Rattle.dep_iter.specs.declared.source.Source.{Source}
use Rattle.dep_iter.specs.declared.source.Source.TheVariants as source
use Rattle.dep_iter.specs.Tasks.{IsTask, flows_of, locals_of}
use Rattle.dep_iter.specs.Active.{flow_ins, flow_outs}
use Rattle.dep_iter.specs.Consistent.{is_data_edge, takes_tile}
use Rattle.dep_iter.specs.Edges.{data_source, edges_into}
use Rattle.dep_iter.specs.Hints.{affinity}
use Rattle.dep_iter.specs.Items.{items_to, out_edges}
use Rattle.dep_iter.specs.Well.{IsWellTask}
use Rattle.edge_match.specs.declared.ins.Ins.{Ins}

-- the edges into flow n of a task with these locals
abbrev pub edges_into_flow : Task → List ℤ → ℕ → FlowPlan → List Edge
edges_into_flow t env n f = flat_map (edges_into t env n) (flow_ins env f)

-- the items that flow n of a task with these locals sends
abbrev pub items_of_flow : Task → List ℤ → ℕ → FlowPlan → List Item
items_of_flow t env n f = flat_map (items_to t env n) (flow_outs env f)

-- an edge comes from a task of the job, and is one of the edges out of that task
abbrev pub IsSent : Plan → Edge → Type 0
IsSent P e = IsTask P e.from × IsIn e (out_edges P e.from)

-- these edges into tasks were counted; each of them is sent, and none is among the earlier ones
pub record AreTaken (P : Plan) (earlier : List Edge) (old new : Ins) (es : List Edge) : Type 0 where
  pub sent : (e : Edge) → IsIn e es → IsSent P e
  pub fresh : (e : Edge) → IsIn e es → IsIn e earlier → ⊥
  pub edges : new.edges ≡ old.edges + length es
  pub data_edges : new.data_edges ≡ old.data_edges + length (filter (is_data_edge P) es)

-- the same, and none of the edges occurs twice
pub record AreTakenOnce (P : Plan) (earlier : List Edge) (old new : Ins) (es : List Edge) : Type 0 where
  pub taken : AreTaken P earlier old new es
  pub once : HasNoRepeats es

-- the source of a flow that sends these items is sound. A place exists; with `NULL` the flow sends nothing; and only a
-- flow that takes no tile has no source
abbrev pub IsSoundSource : Plan → FlowPlan → List Item → Source → Type 0
IsSoundSource P f sent (source.Task e) = Unit {0}
IsSoundSource P f sent (source.Place p) = HasPlace P.colls p
IsSoundSource P f sent source.New = Unit {0}
IsSoundSource P f sent source.Null = sent ≡ []
IsSoundSource P f sent source.Nothing = IsTrue (takes_tile f.kind) → ⊥

-- the source of flow n of a task with these locals is sound
abbrev pub HasSoundSource : Plan → Task → List ℤ → ℕ → FlowPlan → Type 0
HasSoundSource P t env n f = IsSoundSource P f (items_of_flow t env n f) (data_source P t n)

-- what the walk shows of a flow
pub record IsSoundFlow (P : Plan) (t : Task) (env : List ℤ) (n : ℕ) (f : FlowPlan) : Type 0 where
  pub source : HasSoundSource P t env n f
  pub once : HasNoRepeats (edges_into_flow t env n f)

-- what the walk shows of a task
pub record IsSoundTask (P : Plan) (t : Task) : Type 0 where
  pub well : IsWellTask P t
  pub affinity_exists : HasPlace P.colls (affinity P t)
  pub flows : (n : ℕ) (f : FlowPlan) → slice_get (flows_of P t) n ≡ Some f → IsSoundFlow P t (locals_of P t) n f
