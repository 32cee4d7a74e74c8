-- No task is listed twice. In a consistent job no task has an edge or a write-back twice, and none sends an item twice.
use Rattle.std.proofs.Common.{◌≡◌, ℕ, suc, ◌≤◌, List, [], ◌∷◌, map, refl, ap, Some, slice_get, inl, inr, arith}
use Rattle.std.specs.List.{filter_map, flat_map}
use Rattle.ptg_base.specs.Lists.{HasNoRepeats, IsIn}
use Rattle.ptg_base.specs.Task.{Task}
use Rattle.ptg_base.specs.declared.edge.WriteBack.{WriteBack}
use Rattle.ptg_base.specs.declared.edge.Item.{Item}
use Rattle.ptg_base.specs.declared.edge.Item.TheVariants as item
use Rattle.term_core.specs.declared.space.ClassSpace.{ClassSpace}
use Rattle.term_core.specs.WellSpace.{IsWellSpace}
use Rattle.range_space.specs.Tasks.{tasks}
use Rattle.range_space.proofs.CallerLemmas.{distinct_tasks}
use Rattle.list_lemmas.proofs.Members.{from_append, from_map}
use Rattle.list_lemmas.proofs.Distinct.{HasNoRepeats-append, HasNoRepeats-from_map, HasNoRepeats-map, HasNoRepeats-part}
use Rattle.plan_core.specs.declared.plan.Plan.{Plan}
use Rattle.dep_iter.specs.Consistent.{IsConsistent}
use Rattle.dep_iter.specs.Edges.{in_edges}
use Rattle.dep_iter.specs.Items.{edge_of, items, out_edges, write_backs, write_of}
use Rattle.dep_iter.specs.Tasks.{IsTask, all_tasks, task, tasks_from}
pub use Rattle.dep_iter.specs.OneTask.{well_space}
use Rattle.dep_iter.proofs.Items.{item_edge, item_write}
use Rattle.dep_iter.proofs.Listing.{listed}

class_from : (n : ℕ) (ss : List ClassSpace) (t : Task) → IsIn t (tasks_from n ss) → n ≤ t.class
class_from n [] t h = absurd h
class_from n (s ∷ ss) t h = elim (from_append t (map (task n) (tasks s)) (tasks_from (suc n) ss) h) [
  | inl a ↦ let p = from_map (task n) (tasks s) t a in let e : t.class ≡ n = ap (λ (t : Task). t.class) p.2 in omega arith
  | inr b ↦ let k = class_from (suc n) ss t b in omega arith
]

once-tasks_from : (n : ℕ) (ss : List ClassSpace) → ((k : ℕ) (s : ClassSpace) → slice_get ss k ≡ Some s → IsWellSpace s) → HasNoRepeats (tasks_from n ss)
once-tasks_from n [] well = tt
once-tasks_from n (s ∷ ss) well =
    HasNoRepeats-append (map (task n) (tasks s)) (tasks_from (suc n) ss)
    (HasNoRepeats-map (task n) (tasks s) (distinct_tasks s (well 0 s refl))
    (λ x y e. ap (λ (t : Task). t.params) e)) (once-tasks_from (suc n) ss (λ k z h. well (suc k) z h)) (λ t h k.
    let p = from_map (task n) (tasks s) t h in
    let e : t.class ≡ n = ap (λ (t : Task). t.class) p.2 in
    let b = class_from (suc n) ss t k in
    omega arith)

-- items have no repeats if neither their edges nor their write-backs have any
once-parts : (is : List Item) → HasNoRepeats (filter_map edge_of is) → HasNoRepeats (filter_map write_of is)
    → HasNoRepeats is
once-parts [] edges writes = tt
once-parts (item.Edge e ∷ is) edges writes = (λ i. edges.0 (item_edge is e i), once-parts is edges.1 writes)
once-parts (item.Write w ∷ is) edges writes = (λ i. writes.0 (item_write is w i), once-parts is edges writes.1)

-- no task of a plan is listed twice
pub once-all_tasks : (P : Plan) → HasNoRepeats (all_tasks P)
once-all_tasks P = once-tasks_from 0 P.spaces (well_space P)

module _ (P : Plan) (con : IsConsistent P) (t : Task) (job : IsTask P t) where
  pub once-in_edges : HasNoRepeats (in_edges P t)
  once-in_edges = HasNoRepeats-part (in_edges P) (all_tasks P) con.no_in_edge_twice t ((listed P t).0 job)

  pub once-out_edges : HasNoRepeats (out_edges P t)
  once-out_edges = HasNoRepeats-part (out_edges P) (all_tasks P) con.no_out_edge_twice t ((listed P t).0 job)

  pub once-write_backs : HasNoRepeats (write_backs P t)
  once-write_backs = HasNoRepeats-part (write_backs P) (all_tasks P)
      (HasNoRepeats-from_map (λ (w : WriteBack). w.place) (flat_map (write_backs P) (all_tasks P)) con.written_once) t
      ((listed P t).0 job)

  -- no item is sent twice
  pub once-items : HasNoRepeats (items P t)
  once-items = once-parts (items P t) once-out_edges once-write_backs
