-- What the walk has counted.
-- Carried by: inside `accepts`.
-- Tested by: `accepted.txt`, `accepted_gathers.txt`, `accepted_squares.txt`.
use Rattle.std.specs.Prelude.{◌≡◌, ◌+◌, ℕ, ℤ, List, [], ◌++◌, drop, length, map, flat_map, filter_map, slice_get, Some}
use Rattle.ptg_base.specs.Lists.{HasNoRepeats, IsIn}
use Rattle.ptg_base.specs.Task.{Task}
use Rattle.ptg_base.specs.declared.place.Place.{Place}
use Rattle.ptg_base.specs.declared.edge.Item.{Item}
use Rattle.ptg_base.specs.declared.edge.WriteBack.{WriteBack}
use Rattle.plan_core.specs.declared.flow.FlowPlan.{FlowPlan}
use Rattle.plan_core.specs.declared.plan.Plan.{Plan}
use Rattle.plan_core.specs.declared.shape.Shape.{Shape}
use Rattle.plan_core.specs.declared.target.Target.{Target}
use Rattle.plan_core.specs.Place.{HasPlace}
use Rattle.term_core.specs.Kinds.{is_data}
use Rattle.dep_iter.specs.Active.{held_targets, by_number}
use Rattle.dep_iter.specs.Edges.{edges_into, in_edges, in_edges_before, source_among}
use Rattle.dep_iter.specs.Items.{edge_of, items, write_of}
use Rattle.edge_match.specs.declared.place_set.PlaceSet.{PlaceSet}
use Rattle.edge_match.specs.Sets.{IsSetOf}
use Rattle.edge_match.specs.declared.accepted_flow.FlowAt.{FlowAt}
use Rattle.edge_match.specs.declared.ins.Ins.{Ins}
use Rattle.edge_match.specs.declared.outs.Outs.{Outs}
use Rattle.edge_match.specs.declared.tally.Tally.{Tally}
use Rattle.edge_match.specs.Flows.{AreTaken, AreTakenOnce, IsSoundFlow, IsSoundSource, IsSoundTask}
use Rattle.edge_match.specs.Flows.{edges_into_flow, items_of_flow}

-- the plan of the task of a flow
abbrev pub plan_of : FlowAt → Plan
plan_of at = at.task.now.plan.now

-- the task of a flow
abbrev pub task_of : FlowAt → Task
task_of at = at.task.now.task.now

-- the locals of the task of a flow
abbrev pub env_of : FlowAt → List ℤ
env_of at = at.task.now.locals.now

-- the flow may start from the first of these targets of dependences from number k on, and the edges that the targets
-- stand for were counted
pub record Takes (at : FlowAt) (k : ℕ) (old new : Ins) (xs : List Target) : Type 0 where
  pub source : IsSoundSource (plan_of at) at.flow.now (items_of_flow (task_of at) (env_of at) at.number at.flow.now)
      (source_among (task_of at) (env_of at) at.number xs)
  pub taken : AreTakenOnce (plan_of at) (in_edges_before (plan_of at) (task_of at) at.number k) old new
      (flat_map (edges_into (task_of at) (env_of at) at.number) xs)

-- the same for all active targets of the in dependences from number k on
abbrev pub TakesFrom : FlowAt → ℕ → Ins → Ins → Type 0
TakesFrom at k old new =
    Takes at k old new (held_targets (is_data at.flow.now.kind) (drop k at.flow.now.ins) (env_of at))

-- the set has exactly these places of the collections, and none of them occurs twice in the list
pub record IsOnceIn (colls : List Shape) (w : PlaceSet) (ps : List Place) : Type 0 where
  pub set : IsSetOf colls w ps
  pub once : HasNoRepeats ps

-- the places that items write to
abbrev pub places_of : List Item → List Place
places_of is = map (λ (w : WriteBack). w.place) (filter_map write_of is)

-- these items were counted, and each place that they write to exists and was added
pub record AreSent (colls : List Shape) (old new : Outs) (is : List Item) : Type 0 where
  pub edges : new.edges ≡ old.edges + length (filter_map edge_of is)
  pub writes : new.writes ≡ old.writes + length (filter_map write_of is)
  pub exist : (p : Place) → IsIn p (places_of is) → HasPlace colls p
  pub added : (ps : List Place) → IsOnceIn colls old.written ps → IsOnceIn colls new.written (ps ++ places_of is)

-- these flows of a task, numbered from n on, are sound; the edges into them and what they send were counted
pub record Accepts (P : Plan) (t : Task) (env : List ℤ) (old new : Tally) (n : ℕ) (fs : List FlowPlan) : Type 0 where
  pub sound : (i : ℕ) (f : FlowPlan) → slice_get fs i ≡ Some f → IsSoundFlow P t env (n + i) f
  pub taken : AreTaken P [] old.ins new.ins (by_number (edges_into_flow t env) n fs)
  pub sent : AreSent P.colls old.outs new.outs (by_number (items_of_flow t env) n fs)

-- the walk went over these tasks: each is sound, and what they receive, send and write was counted
pub record WentOver (P : Plan) (old new : Tally) (ts : List Task) : Type 0 where
  pub sound : (t : Task) → IsIn t ts → IsSoundTask P t
  pub taken : AreTaken P [] old.ins new.ins (flat_map (in_edges P) ts)
  pub sent : AreSent P.colls old.outs new.outs (flat_map (items P) ts)
