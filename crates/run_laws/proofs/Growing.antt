-- There is a whole order: it grows by one task after another that may run, until none is left.
use Rattle.std.proofs.Common.{◌≡◌, ℕ, zero, suc, ◌≤◌, true, List, [], length, ap, ◌⊎◌, inl, inr, Some, is_some}
use Rattle.ptg_base.specs.Lists.{IsIn}
use Rattle.ptg_base.specs.Task.{Task}
use Rattle.ptg_base.specs.declared.edge.Edge.{Edge}
use Rattle.plan_core.specs.declared.plan.Plan.{Plan}
use Rattle.coll_data.specs.Data.{Data}
use Rattle.dep_iter.specs.Tasks.{IsTask, all_tasks}
use Rattle.dep_iter.specs.Edges.{in_edges}
use Rattle.dep_iter.specs.Consistent.{IsConsistent}
use Rattle.dep_iter.proofs.CallerLemmas.{listed}
use Rattle.flow_meaning.specs.Answer.{ran}
use Rattle.flow_meaning.specs.Backward.{ended, ended_within}
use Rattle.flow_meaning.specs.Ending.{Ended, has_outputs}
use Rattle.flow_meaning.proofs.CallerLemmas.{has_sources, source_is_task, with_outputs}
use Rattle.list_lemmas.proofs.Options.{some_value}
use Rattle.list_lemmas.proofs.Members.{member_passes}
use Rattle.list_lemmas.proofs.Distinct.{no_longer}
use Rattle.list_lemmas.proofs.Growing.{grown_to_the_end}
use Rattle.list_lemmas.proofs.Tasks.{member_or_not}
use Rattle.chain_cert.proofs.CallerLemmas.{legal_once, legal_tasks}
use Rattle.flow_meaning.specs.Order.{IsWholeOrder}
use Rattle.trace_core.specs.Orders.{MayAllRunAfter, MayRunAfter}
use Rattle.trace_core.proofs.CallerLemmas.{all_or_missing, may_legal, may_push, not_missing, ran_ends, sources_end, whole}

module _ (P : Plan) (G : Data) where
  -- a task may not run next, or it may
  bars_or_may : (before : List Task) (t : Task) → IsIn t (all_tasks P) → (MayRunAfter P G before t → ⊥) ⊎ MayRunAfter P G before t
  bars_or_may before t i = elim (member_or_not t before) [
    | inl old ↦ inl (λ m. m.follows.first_time old)
    | inr new ↦ elim (all_or_missing P G before (in_edges P t)) [
      | inl all ↦ inr (record {
        follows = record {
          task = (listed P t).1 i;
          first_time = new;
          after_sources = λ e j.
              (all e j).0;
        };
        have_outputs = λ e j. (all e j).1;
      })
      | inr p ↦ inl (λ m. not_missing P G before t m p.0 p.1 p.2)
    ]
  ]

  few : (ts : List Task) → MayAllRunAfter P G [] ts → length ts ≤ length (all_tasks P)
  few ts may = let legal = may_legal P G [] ts may in no_longer ts (all_tasks P) (legal_once P [] ts legal)
      (λ t i. (listed P t).0 (legal_tasks P [] ts legal t i))

  module _ (con : IsConsistent P) where
    module _ (ts : List Task) (none : (t : Task) → MayRunAfter P G ts t → ⊥) where
      -- if no task may run next, a task that ends is there
      within : (n : ℕ) (t : Task) → IsTask P t → is_some (ended P G t) ≡ true → (v : Ended) → ended_within P G n t ≡ Some v → IsIn t ts
      unfolding ended_within
      within zero t job some v e = absurd cc
      within (suc n) t job some v e =
          let outputs = sources_end P G con t job some in
          let all = has_sources P G con t job (ended_within P G n) v e in
          elim (member_or_not t ts) [
            | inl i ↦ i
            | inr absent ↦ absurd (none t (record {
              follows = record {
                task = job;
                first_time = absent;
                after_sources = λ d i.
                    let o = with_outputs (ended_within P G n d.from)
                    (member_passes (λ (x : Edge). has_outputs (ended_within P G n x.from)) (in_edges P t) all d i)
                    in
                    let s = with_outputs (ended P G d.from) (outputs d i) in
                    within n d.from (source_is_task P con t job d i) (ap is_some s.1) o.0 o.1;
              };
              have_outputs = outputs;
            }))
          ]

      has_all : (t : Task) → IsIn t (ran P G) → IsIn t ts
      unfolding ended
      has_all t i =
          let r = (ran_ends P G con t).0 i in
          let o = some_value (ended P G t) r.1 in
          within (length (all_tasks P)) t r.0 r.1 o.0 o.1

    pub some_whole_order : (us : List Task) × IsWholeOrder P G us
    some_whole_order =
        let g = grown_to_the_end (all_tasks P) (MayRunAfter P G) (MayAllRunAfter P G []) bars_or_may (may_push P G []) few tt in
        (g.0, whole P G con g.0 g.1 (has_all g.0 (λ t m. g.2 t ((listed P t).0 m.follows.task) m)))
