-- The edges into a task and out of it.
use Rattle.std.proofs.Common.{◌≡◌, sym, subst}
use Rattle.ptg_base.specs.Lists.{IsIn}
use Rattle.ptg_base.specs.Task.{Task}
use Rattle.ptg_base.specs.declared.edge.Edge.{Edge}
use Rattle.ptg_base.specs.declared.edge.Item.TheVariants as item
use Rattle.plan_core.specs.declared.plan.Plan.{Plan}
use Rattle.dep_iter.specs.Tasks.{IsTask, all_tasks}
use Rattle.dep_iter.specs.Edges.{in_edges}
use Rattle.dep_iter.specs.Items.{items, out_edges}
use Rattle.dep_iter.specs.Consistent.{IsConsistent}
use Rattle.list_lemmas.proofs.Members.{IsIn-flat_map, from_flat_map}
use Rattle.dep_iter.proofs.CallerLemmas.{edge_item, in_edge_is, listed, out_edge_is}

-- the edges into a task go to it
pub in_edge_to : (P : Plan) (t : Task) (e : Edge) → IsIn e (in_edges P t) → e.to ≡ t
in_edge_to P t e h = ((in_edge_is P t e).0 h).0

-- the edges out of a task come from it
pub out_edge_from : (P : Plan) (t : Task) (e : Edge) → IsIn e (out_edges P t) → e.from ≡ t
out_edge_from P t e h = ((out_edge_is P t e).0 h).0

-- in a consistent job an edge into a task is an item of the task that it comes from
pub in_edge_item : (P : Plan) → IsConsistent P → (t : Task) → IsTask P t → (e : Edge) → IsIn e (in_edges P t) → IsIn (item.Edge e) (items P e.from)
in_edge_item P con t task e h =
    let there = (con.same_edges e).0 (IsIn-flat_map (in_edges P) (all_tasks P) t e ((listed P t).0 task) h) in
    let p = from_flat_map (out_edges P) (all_tasks P) e there in
    edge_item (items P e.from) e (subst (λ s. IsIn e (out_edges P s)) (sym (out_edge_from P p.0 e p.2)) p.2)

pub source_is_task : (P : Plan) → IsConsistent P → (t : Task) → IsTask P t → (e : Edge) → IsIn e (in_edges P t) → IsTask P e.from
source_is_task P con t task e h = (con.connected t task).from_tasks e h
