-- What an item needs of the shard that takes it, and what it changes there. Source: DAGuE (Parallel Computing, 2012),
-- where a task that ends satisfies the dependences of its successors.
-- Carried by: `take_edge`, `take_write`.
use Rattle.std.specs.Prelude.{◌≡◌, ◌<◌, ℕ, ℤ, List, [], ◌∷◌, ◌++◌, Option, Some, None, IsSome, IsTrue, IfSome, is_some, if◌then◌else◌, slice_index}
use Rattle.ptg_base.specs.Limits.{most_flows}
use Rattle.ptg_base.specs.declared.edge.Edge.{Edge}
use Rattle.ptg_base.specs.declared.edge.WriteBack.{WriteBack}
use Rattle.plan_core.specs.declared.flow.FlowPlan.{FlowPlan}
use Rattle.plan_core.specs.declared.plan.Plan.{Plan}
use Rattle.plan_core.specs.Kinds.{flow_of}
use Rattle.dep_iter.specs.Edges.{goal}
use Rattle.dep_iter.specs.Tasks.{IsTask}
use Rattle.dep_shard.specs.Content.{Content, IsTileOf, IsWaiting, KeepsAllButEntries, KeepsAllButWritten, Updates, Uses, entry_of}
use Rattle.shard_meaning.specs.Reserve.{has_type}
use Rattle.shard_meaning.specs.Share.{entry_after, entry_found}

-- the edge goes to a flow of a task, the entry that it finds in the shard waits, and its tile is of the flow's type
pub record MayTakeEdge (P : Plan) (e : Edge) (tile : Option (List ℤ)) (y : Content) : Type 0 where
  pub task : IsTask P e.to
  pub flow : FlowPlan
  pub is_flow : flow_of P.classes e.to.class e.in_flow ≡ Some flow
  pub flow_number : e.in_flow < most_flows
  pub some_goal : 0 < goal P e.to
  pub waits : IsWaiting (entry_found P e y)
  pub fits : IfSome tile (IsTileOf y.elems flow.datatype)

-- the write-back is of a flow of a task, and it has a tile of the flow's type
pub record MayTakeWrite (P : Plan) (w : WriteBack) (tile : Option (List ℤ)) (y : Content) : Type 0 where
  pub task : IsTask P w.from
  pub flow : FlowPlan
  pub is_flow : flow_of P.classes w.from.class w.flow ≡ Some flow
  pub carries : IsSome tile
  pub fits : IfSome tile (IsTileOf y.elems flow.datatype)

-- the shard has spares for the edge: an entry if its target has none, and a tile of the flow's type if it carries one
pub record HasSpareForEdge (P : Plan) (e : Edge) (tile : Option (List ℤ)) (y : Content) : Type 0 where
  pub entry : entry_of y e.to ≡ None → 0 < y.spare.entries
  pub tiles : (datatype : ℕ) → IsTrue (has_type datatype (flow_of P.classes e.to.class e.in_flow)) → IsSome tile
      → 0 < slice_index y.spare.tiles datatype

-- the shard has spares for the write-back: a place, and a tile of the flow's type
pub record HasSpareForWrite (P : Plan) (w : WriteBack) (y : Content) : Type 0 where
  pub place : 0 < y.spare.writes
  pub tiles : (datatype : ℕ) → IsTrue (has_type datatype (flow_of P.classes w.from.class w.flow))
      → 0 < slice_index y.spare.tiles datatype

-- the edge has come to its target's entry, with its tile. It used at most a spare entry if the target had none, and a
-- spare tile of the flow's type if it carries one
pub record TakesEdge (P : Plan) (e : Edge) (tile : Option (List ℤ)) (old new : Content) : Type 0 where
  pub datatype : ℕ
  pub typed : IsTrue (has_type datatype (flow_of P.classes e.to.class e.in_flow))
  pub entries : Updates old.entries new.entries e.to (Some (entry_after P e tile old))
  pub rest : KeepsAllButEntries old new
  pub uses : Uses old.spare new.spare (if is_some (entry_of old e.to) then 0 else 1)
      (if is_some tile then Some datatype else None) 0 0

-- the tile of the write-back was written. It used at most a spare place and a spare tile of the flow's type
pub record TakesWrite (P : Plan) (w : WriteBack) (tile : Option (List ℤ)) (old new : Content) : Type 0 where
  pub datatype : ℕ
  pub typed : IsTrue (has_type datatype (flow_of P.classes w.from.class w.flow))
  pub content : List ℤ
  pub carried : tile ≡ Some content
  pub written : new.written ≡ old.written ++ (w, content) ∷ []
  pub rest : KeepsAllButWritten old new
  pub uses : Uses old.spare new.spare 0 (Some datatype) 1 0
