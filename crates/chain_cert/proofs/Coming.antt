-- Edges that have come, and how many of them go to a task.
use Rattle.std.proofs.Common.{◌≡◌, ◌+◌, ◌≤◌, List, [], ◌∷◌, ◌++◌, refl, sym, subst, inl, inr, arith}
use Rattle.std.specs.List.{filter}
use Rattle.ptg_base.specs.Lists.{IsIn}
use Rattle.ptg_base.specs.Task.{Task}
use Rattle.ptg_base.specs.TaskComparing.{same_task}
use Rattle.ptg_base.specs.TaskLaws.{same_task-decides}
use Rattle.ptg_base.specs.declared.edge.Edge.{Edge}
use Rattle.plan_core.specs.declared.plan.Plan.{Plan}
use Rattle.list_lemmas.proofs.Members.{IsIn-append_left, IsIn-append_right, IsIn-flat_map, from_append, from_flat_map, IsIn-filter}
use Rattle.list_lemmas.proofs.Counts.{weigh-push, length-filter}
use Rattle.list_lemmas.proofs.Distinct.{HasNoRepeats-apart, no_longer, HasNoRepeats-filter, HasNoRepeats-append, HasNoRepeats-left, onto}
use Rattle.dep_iter.specs.Tasks.{IsTask, all_tasks}
use Rattle.dep_iter.specs.Edges.{goal, in_edges}
use Rattle.dep_iter.specs.Items.{out_edges}
use Rattle.dep_iter.specs.Consistent.{IsConsistent}
use Rattle.dep_iter.proofs.CallerLemmas.{listed, once-in_edges}
use Rattle.list_lemmas.specs.Counting.{as_number}
use Rattle.flow_meaning.specs.Order.{IsLegalOrder}
use Rattle.flow_meaning.proofs.CallerLemmas.{in_edge_to, out_edge_from}
use Rattle.chain_cert.specs.Growing.{HaveCome, MayCome, edge_count_to}
use Rattle.chain_cert.proofs.Orders.{legal_tasks}

-- if edges have come, so have the first of them
pub come_first : (P : Plan) (order : List Task) (es fs : List Edge) → HaveCome P order (es ++ fs) → HaveCome P order es
come_first P order es fs h = record {
  once = HasNoRepeats-left es fs h.once;
  from = λ e i. h.from e (IsIn-append_left e es fs i);
  out = λ e i. h.out e (IsIn-append_left e es fs i);
}

-- edges that have come stay so in a longer order
pub come_longer : (P : Plan) (order more : List Task) (es : List Edge) → HaveCome P order es → HaveCome P (order ++ more) es
come_longer P order more es h = record { once = h.once; from = λ e i. IsIn-append_left e.from order more (h.from e i); out = h.out }

-- the edge after those that have come may come
pub may_come : (P : Plan) (order : List Task) (es : List Edge) (e : Edge) (rest : List Edge) → HaveCome P order (es ++ e ∷ rest) → MayCome P es order e
may_come P order es e rest h =
    let here : IsIn e (es ++ e ∷ rest) = IsIn-append_right e es (e ∷ rest) (inl refl) in
    record { new = λ i. HasNoRepeats-apart es (e ∷ rest) h.once e i (inl refl); from = h.from e here; out = h.out e here }

pub come_next : (P : Plan) (order : List Task) (es : List Edge) (e : Edge) → HaveCome P order es → MayCome P es order e → HaveCome P order (es ++ e ∷ [])
come_next P order es e h may = record {
  once = HasNoRepeats-append es (e ∷ []) h.once ((λ i. i), tt) (λ d i j. elim j [ inl q ↦ may.new (subst (λ x. IsIn x es) q i) | inr never ↦ never ]);
  from = λ d i. elim (from_append d es (e ∷ []) i) [
    | inl old ↦ h.from d old
    | inr new ↦ elim new
        [ inl q ↦ subst (λ (x : Edge). IsIn x.from order) (sym q) may.from | inr never ↦ absurd never ]
  ];
  out = λ d i. elim (from_append d es (e ∷ []) i) [
    | inl old ↦ h.out d old
    | inr new ↦ elim new
        [ inl q ↦ subst (λ (x : Edge). IsIn x (out_edges P x.from)) (sym q) may.out | inr never ↦ absurd never ]
  ];
}

pub to_push : (t : Task) (es : List Edge) (e : Edge) → edge_count_to t (es ++ e ∷ []) ≡ edge_count_to t es + as_number (same_task t e.to)
to_push t es e = weigh-push (λ (d : Edge). as_number (same_task t d.to)) es e

module _ (P : Plan) (con : IsConsistent P) where
  -- an edge out of a task goes into a task of the job, and the other way round
  pub goes_into : (s : Task) → IsTask P s → (e : Edge) → IsIn e (out_edges P s) → IsIn e (in_edges P e.to)
  goes_into s job e h =
      let p = from_flat_map (in_edges P) (all_tasks P) e ((con.same_edges e).1 (IsIn-flat_map (out_edges P) (all_tasks P) s e ((listed P s).0 job) h)) in
      subst (λ t. IsIn e (in_edges P t)) (sym (in_edge_to P p.0 e p.2)) p.2

  pub comes_from : (t : Task) → IsTask P t → (e : Edge) → IsIn e (in_edges P t) → IsIn e (out_edges P e.from)
  comes_from t job e h =
      let p = from_flat_map (out_edges P) (all_tasks P) e ((con.same_edges e).0 (IsIn-flat_map (in_edges P) (all_tasks P) t e ((listed P t).0 job) h)) in
      subst (λ s. IsIn e (out_edges P s)) (sym (out_edge_from P p.0 e p.2)) p.2

  module _ (order : List Task) (legal : IsLegalOrder P order) (came : List Edge) (h : HaveCome P order came) (t : Task) where
    these_in : (e : Edge) → IsIn e (filter (λ (d : Edge). same_task t d.to) came) → IsIn e (in_edges P t)
    these_in e i =
        let p = (IsIn-filter (λ (d : Edge). same_task t d.to) came e).0 i in
        let to : t ≡ e.to = (same_task-decides t e.to).0 p.1 in
        subst (λ u. IsIn e (in_edges P u)) (sym to) (goes_into e.from (legal_tasks P [] order legal e.from (h.from e p.0)) e (h.out e p.0))

    -- no more have come to a task than go into it
    pub to_at_most : edge_count_to t came ≤ goal P t
    to_at_most =
        let few = no_longer (filter (λ (d : Edge). same_task t d.to) came) (in_edges P t)
        (HasNoRepeats-filter (λ (d : Edge). same_task t d.to) came h.once) these_in in
        omega (arith, few, length-filter (λ (d : Edge). same_task t d.to) came)

    -- if as many have come as go into it, all have
    pub all_came : goal P t ≤ edge_count_to t came → (e : Edge) → IsIn e (in_edges P t) → IsIn e came
    all_came enough e i =
        let j = onto (filter (λ (d : Edge). same_task t d.to) came) (in_edges P t)
        (HasNoRepeats-filter (λ (d : Edge). same_task t d.to) came h.once) these_in
        (omega (arith, enough, length-filter (λ (d : Edge). same_task t d.to) came)) e i in
        ((IsIn-filter (λ (d : Edge). same_task t d.to) came e).0 j).0

    -- and the other way round
    pub as_many : IsTask P t → ((e : Edge) → IsIn e (in_edges P t) → IsIn e came) → goal P t ≤ edge_count_to t came
    as_many job all =
        let few = no_longer (in_edges P t) (filter (λ (d : Edge). same_task t d.to) came) (once-in_edges P con t job)
        (λ e i. (IsIn-filter (λ (d : Edge). same_task t d.to) came e).1 (all e i, (same_task-decides t e.to).1 (sym (in_edge_to P t e i)))) in
        omega (arith, few, length-filter (λ (d : Edge). same_task t d.to) came)
