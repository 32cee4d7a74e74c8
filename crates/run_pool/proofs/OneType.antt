-- The bytes of a preload if all tiles are of one type.
use Rattle.std.proofs.Common.{◌≡◌, ℕ, ◌+◌, ◌*◌, ◌<◌, true, List, [], ◌∷◌, length, refl, ap, sym, ◌∙◌, subst, Option}
use Rattle.std.proofs.Common.{Some, None, slice_get, slice_index, option_map, arith}
use Rattle.std.proofs.lemmas.Bool.{false≢true}
use Rattle.ptg_base.specs.Lists.{IsIn}
use Rattle.ptg_base.specs.Task.{Task}
use Rattle.ptg_base.specs.declared.edge.Edge.{Edge}
use Rattle.ptg_base.specs.declared.edge.WriteBack.{WriteBack}
use Rattle.list_lemmas.proofs.Members.{from_flat_map, from_filter}
use Rattle.list_lemmas.proofs.Counts.{weigh-each}
use Rattle.plan_core.specs.declared.flow.FlowPlan.{FlowPlan}
use Rattle.plan_core.specs.declared.plan.Plan.{Plan}
use Rattle.plan_core.specs.Kinds.{flow_of, is_data}
use Rattle.dep_iter.specs.Consistent.{all_data, all_in, all_writes, is_data_edge}
use Rattle.dep_iter.specs.Edges.{in_edges}
use Rattle.dep_iter.specs.Items.{write_backs}
use Rattle.dep_iter.specs.Tasks.{IsTask, all_tasks, flows_of}
use Rattle.dep_iter.proofs.CallerLemmas.{listed}
use Rattle.shard_meaning.proofs.CallerLemmas.{flow_is, writes_from}
use Rattle.task_run.proofs.CallerLemmas.{known}
use Rattle.run_pool.specs.Bytes.{edge_elements, elements_of, sent_elements, write_elements}
use Rattle.run_pool.proofs.Totals.{write_item}
use Rattle.flow_meaning.proofs.CallerLemmas.{in_edge_to, write_from}

module _ (P : Plan) (elems : ℕ) (one : P.elems ≡ elems ∷ []) where
  -- a flow of a task of the job has tiles of that length
  of_flow : (t : Task) (n : ℕ) (f : FlowPlan) → IsTask P t → slice_get (flows_of P t) n ≡ Some f → elements_of P (flow_of P.classes t.class n) ≡ elems
  of_flow t n f job here =
      let below : f.datatype < 1 = subst (λ ns. f.datatype < length ns) one (known P t n f job here) in
      let first : f.datatype ≡ 0 = omega arith in
      ap (elements_of P) (sym (flow_is P t n) ∙ here) ∙ ap (slice_index P.elems) first ∙ ap (λ ns. slice_index ns 0) one

  some_data : (o : Option FlowPlan) → is_data (option_map (λ (f : FlowPlan). f.kind) o) ≡ true → (f : FlowPlan) × (o ≡ Some f)
  some_data None h = absurd (false≢true h)
  some_data (Some f) h = (f, refl)

  of_edge : (e : Edge) → IsIn e (all_data P) → edge_elements P e ≡ elems
  of_edge e i =
      let p = from_filter (is_data_edge P) (all_in P) e i in
      let q = from_flat_map (in_edges P) (all_tasks P) e p.0 in
      let to : e.to ≡ q.0 = in_edge_to P q.0 e q.2 in
      let job : IsTask P e.to = subst (IsTask P) (sym to) ((listed P q.0).1 q.1) in
      let f = some_data (flow_of P.classes e.to.class e.in_flow) p.1 in
      of_flow e.to e.in_flow f.0 job (flow_is P e.to e.in_flow ∙ f.1)

  of_write : (w : WriteBack) → IsIn w (all_writes P) → write_elements P w ≡ elems
  of_write w i =
      let p = from_flat_map (write_backs P) (all_tasks P) w i in
      let from : w.from ≡ p.0 = write_from P p.0 w p.2 in
      let job : IsTask P p.0 = (listed P p.0).1 p.1 in
      let f = writes_from P p.0 job w (write_item P p.0 w p.2) in
      of_flow w.from w.flow f.flow (subst (IsTask P) (sym from) job) (subst (λ t. slice_get (flows_of P t) w.flow ≡ Some f.flow) (sym from) f.here)

  -- the numbers that go over edges and write-backs are a product
  pub sent_are : sent_elements P ≡ elems * (length (all_data P) + length (all_writes P))
  unfolding sent_elements
  sent_are =
      let ins = weigh-each (edge_elements P) elems (all_data P) of_edge in
      let outs = weigh-each (write_elements P) elems (all_writes P) of_write in
      omega (arith, ins, outs)

-- a list with one number
pub only_one : (ns : List ℕ) (n : ℕ) → length ns ≡ 1 → slice_get ns 0 ≡ Some n → ns ≡ n ∷ []
only_one [] n h is = absurd cc
only_one (m ∷ []) n h is = let same : m ≡ n = cc in ap (λ k. k ∷ []) same
only_one (m ∷ k ∷ ns) n h is = absurd (omega (arith, h))
