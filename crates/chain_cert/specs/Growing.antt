-- An order that grows: the edges out of its tasks come to their targets one after another, and a task joins once all
-- edges into it have come. Source: the usual way to sort a graph topologically, by counts of edges.
use Rattle.std.specs.Prelude.{◌≡◌, ◌+◌, ◌↔◌, ℕ, List, ◌++◌, unwrap_or}
use Rattle.std.specs.List.{flat_map}
use Rattle.std.specs.Map.{lookup}
use Rattle.ptg_base.specs.Lists.{HasNoRepeats, IsIn}
use Rattle.ptg_base.specs.Task.{Task}
use Rattle.ptg_base.specs.TaskComparing.{same_task}
use Rattle.ptg_base.specs.declared.edge.Edge.{Edge}
use Rattle.plan_core.specs.declared.plan.Plan.{Plan}
use Rattle.dep_iter.specs.Tasks.{IsTask}
use Rattle.dep_iter.specs.Edges.{goal}
use Rattle.dep_iter.specs.Items.{out_edges}
use Rattle.list_lemmas.specs.Counting.{count}
use Rattle.flow_meaning.specs.Order.{IsLegalOrder}

-- the edges out of these tasks
abbrev pub edges_of : Plan → List Task → List Edge
edges_of P ts = flat_map (out_edges P) ts

-- how many of these edges go to a task
abbrev pub edge_count_to : Task → List Edge → ℕ
edge_count_to t es = count (λ (e : Edge). same_task t e.to) es

-- how many edges into a task are lacking: the number that the table has for it, else all
abbrev pub lacking : Plan → List (Task × ℕ) → Task → ℕ
lacking P table t = unwrap_or (lookup (same_task t) table) (goal P t)

-- these edges have come: they go out of tasks of the order, and none occurs twice
pub record HaveCome (P : Plan) (order : List Task) (came : List Edge) : Type 0 where
  pub once : HasNoRepeats came
  pub from : (e : Edge) → IsIn e came → IsIn e.from order
  pub out : (e : Edge) → IsIn e came → IsIn e (out_edges P e.from)

-- an order after these edges have come: it has the tasks that lack no edge, and the table has how many edges the others
-- lack
pub record HasGrown (P : Plan) (came : List Edge) (order : List Task) (table : List (Task × ℕ)) : Type 0 where
  pub legal : IsLegalOrder P order
  pub edges : HaveCome P order came
  pub counts : (t : Task) → IsTask P t → lacking P table t + edge_count_to t came ≡ goal P t
  pub ready : (t : Task) → IsTask P t → IsIn t order ↔ (lacking P table t ≡ 0)

-- an edge may come: it goes out of a task of the order, and has not come
pub record MayCome (P : Plan) (came : List Edge) (order : List Task) (e : Edge) : Type 0 where
  pub new : IsIn e came → ⊥
  pub from : IsIn e.from order
  pub out : IsIn e (out_edges P e.from)

-- a task of the order is next: no edge out of it has come
pub record IsNext (P : Plan) (came : List Edge) (order : List Task) (t : Task) : Type 0 where
  pub member : IsIn t order
  pub new : (e : Edge) → IsIn e came → e.from ≡ t → ⊥

-- an order that has grown by these edges, with more tasks at its end
pub record GrowsBy (P : Plan) (edges : List Edge) (old : List Task) (old_table : List (Task × ℕ))
    (new : List Task) (new_table : List (Task × ℕ)) : Type 0 where
  pub more : List Task
  pub extends : new ≡ old ++ more
  pub grown : (came : List Edge) → HasGrown P came old old_table → HaveCome P old (came ++ edges)
      → HasGrown P (came ++ edges) new new_table
