-- Orders in which tasks may run, and whole orders.
use Rattle.std.proofs.Common.{◌≡◌, ◌+◌, ◌<◌, ◌↔◌, true, cond, List, [], ◌∷◌, ◌++◌, refl, ap, sym, ◌∙◌, subst, ◌⊎◌, inl, inr, append_assoc, None, is_some, arith}
use Rattle.std.specs.Prelude.{option_map}
use Rattle.std.specs.List.{filter}
use Rattle.std.proofs.lemmas.List.{append-nil}
use Rattle.ptg_base.specs.Lists.{HasNoRepeats, IsIn}
use Rattle.ptg_base.specs.Task.{Task}
use Rattle.ptg_base.specs.TaskComparing.{same_task}
use Rattle.ptg_base.specs.TaskLaws.{same_task-decides}
use Rattle.ptg_base.specs.declared.edge.Edge.{Edge}
use Rattle.plan_core.specs.declared.class.ClassPlan.{ClassPlan}
use Rattle.plan_core.specs.declared.plan.Plan.{Plan}
use Rattle.coll_data.specs.Data.{Data}
use Rattle.body_eval.specs.Meaning.{body_meaning}
use Rattle.list_lemmas.proofs.Truth.{by_test}
use Rattle.list_lemmas.proofs.Counts.{count-some, some_passes, same_counts}
use Rattle.list_lemmas.proofs.Options.{some_value}
use Rattle.list_lemmas.proofs.Members.{member_passes, list_all-from_members, IsIn-filter}
use Rattle.list_lemmas.proofs.Distinct.{HasNoRepeats-filter}
use Rattle.list_lemmas.proofs.Growing.{all_or_one}
use Rattle.list_lemmas.proofs.Tasks.{member_or_not, uncounted, once_each}
use Rattle.dep_iter.specs.Tasks.{IsTask, all_tasks, locals_of}
use Rattle.dep_iter.specs.Edges.{in_edges}
use Rattle.dep_iter.specs.Consistent.{IsConsistent}
use Rattle.dep_iter.proofs.CallerLemmas.{listed, once-all_tasks}
use Rattle.flow_meaning.specs.Answer.{ran}
use Rattle.flow_meaning.specs.Backward.{ended, has_all_sources, source_tile}
use Rattle.list_lemmas.specs.Counting.{HasSameMembers, as_number, count}
use Rattle.flow_meaning.specs.Ending.{ended_on, has_outputs}
use Rattle.flow_meaning.specs.Order.{IsLegalAfter, IsWholeOrder}
use Rattle.flow_meaning.specs.Starting.{starting_tiles}
use Rattle.flow_meaning.proofs.CallerLemmas.{class_of, fixed, has_sources}
use Rattle.chain_cert.proofs.CallerLemmas.{legal_once}
use Rattle.trace_core.specs.Faults.{IsMissing}
use Rattle.trace_core.specs.Orders.{MayAllRunAfter, MayRunAfter}

-- one more task that may run
pub may_push : (P : Plan) (G : Data) (acc ts : List Task) (t : Task) → MayAllRunAfter P G acc ts
    → MayRunAfter P G (acc ++ ts) t → MayAllRunAfter P G acc (ts ++ t ∷ [])
may_push P G acc [] t h m = (subst (λ l. MayRunAfter P G l t) (append-nil acc) m, tt)
may_push P G acc (u ∷ us) t h m = (h.0, may_push P G (acc ++ u ∷ []) us t h.1 (subst (λ l. MayRunAfter P G l t) (sym (append_assoc acc (u ∷ []) us)) m))

pub may_legal : (P : Plan) (G : Data) (acc ts : List Task) → MayAllRunAfter P G acc ts → IsLegalAfter P acc ts
may_legal P G acc [] h = tt
may_legal P G acc (t ∷ ts) h = (h.0.follows, may_legal P G (acc ++ t ∷ []) ts h.1)

-- all edges come from these tasks, whose outputs exist, or one does not
pub all_or_missing : (P : Plan) (G : Data) (before : List Task) (es : List Edge)
    → ((e : Edge) → IsIn e es → IsIn e.from before × (has_outputs (ended P G e.from) ≡ true))
    ⊎ ((x : Edge) × IsIn x es × IsMissing P G before x)
all_or_missing P G before es = all_or_one (λ (e : Edge). IsIn e.from before × (has_outputs (ended P G e.from) ≡ true)) (IsMissing P G before) es decide
  where
    decide : (e : Edge) → IsIn e es → (IsIn e.from before × (has_outputs (ended P G e.from) ≡ true)) ⊎ IsMissing P G before e
    decide e i = elim (member_or_not e.from before) [
      | inr absent ↦ inr (inl absent)
      | inl here ↦ by_test (has_outputs (ended P G e.from)) (λ o. inl (here, o)) (λ o. inr (inr o))
    ]

module _ (P : Plan) (G : Data) (con : IsConsistent P) where
  -- a task ends if its sources all have outputs, and conversely
  pub it_ends : (t : Task) → IsTask P t → ((e : Edge) → IsIn e (in_edges P t) → has_outputs (ended P G e.from) ≡ true) → is_some (ended P G t) ≡ true
  unfolding ended_on
  it_ends t job sources =
      let all : has_all_sources P (ended P G) t ≡ true = list_all-from_members (λ (e : Edge). has_outputs (ended P G e.from)) (in_edges P t) sources in
      let h = class_of P t job in
      ap is_some (fixed P G con t job ∙ ap (λ b. cond b (ended_on P G (source_tile (ended P G)) t) None) all
      ∙ ap (λ o. option_map (λ (c : ClassPlan). body_meaning c.body (locals_of P t) (starting_tiles P G (source_tile (ended P G)) t)) o) h.class_is)

  pub sources_end : (t : Task) → IsTask P t → is_some (ended P G t) ≡ true → (e : Edge) → IsIn e (in_edges P t) → has_outputs (ended P G e.from) ≡ true
  sources_end t job some e i =
      let o = some_value (ended P G t) some in
      let all = has_sources P G con t job (ended P G) o.0 (sym (fixed P G con t job) ∙ o.1) in
      member_passes (λ (d : Edge). has_outputs (ended P G d.from)) (in_edges P t) all e i

  -- the tasks that run are those that end
  pub ran_ends : (t : Task) → IsIn t (ran P G) ↔ (IsTask P t × (is_some (ended P G t) ≡ true))
  unfolding ran
  ran_ends t =
      let f = IsIn-filter (λ u. is_some (ended P G u)) (all_tasks P) t in
      (λ i. let p = f.0 i in ((listed P t).1 p.0, p.1), λ p. f.1 ((listed P t).0 p.0, p.1))

  -- tasks that may run in their order run
  pub may_ran : (acc ts : List Task) → MayAllRunAfter P G acc ts → (t : Task) → IsIn t ts → IsIn t (ran P G)
  may_ran acc [] h t i = absurd i
  may_ran acc (u ∷ us) h t i = elim i [
    | inl e ↦ subst (λ v. IsIn v (ran P G)) (sym e) ((ran_ends u).1 (h.0.follows.task, it_ends u h.0.follows.task h.0.have_outputs))
    | inr later ↦ may_ran (acc ++ u ∷ []) us h.1 t later
  ]

  same_count : (ts : List Task) → HasNoRepeats ts → ((t : Task) → IsIn t ts ↔ IsIn t (ran P G)) → (t : Task)
      → count (same_task t) ts ≡ count (same_task t) (ran P G)
  unfolding ran
  same_count ts once same t =
      let there = once_each (filter (λ u. is_some (ended P G u)) (all_tasks P))
      (HasNoRepeats-filter (λ u. is_some (ended P G u)) (all_tasks P) (once-all_tasks P)) t in
      let here = once_each ts once t in
      elim (member_or_not t ts) [
        | inl i ↦ omega (
          arith,
          here,
          there,
          count-some (same_task t) ts t i ((same_task-decides t t).1 refl),
          count-some (same_task t) (ran P G) t ((same t).0 i) ((same_task-decides t t).1 refl),
        )
        | inr absent ↦ uncounted t ts absent ∙ sym (uncounted t (ran P G) (λ i. absent ((same t).1 i)))
      ]

  -- tasks that may run in their order are a whole order if no task that runs is missing
  pub whole : (ts : List Task) → MayAllRunAfter P G [] ts → ((t : Task) → IsIn t (ran P G) → IsIn t ts) → IsWholeOrder P G ts
  whole ts may all =
      let legal = may_legal P G [] ts may in
      record {
        legal = legal;
        all = (same_counts same_task same_task-decides ts (ran P G)).1
            (same_count ts (legal_once P [] ts legal) (λ t. (may_ran [] ts may t, all t)));
      }

  -- and conversely
  pub members : (ts : List Task) → HasSameMembers ts (ran P G) → (t : Task) → IsIn t ts ↔ IsIn t (ran P G)
  members ts same t =
      let counts : count (same_task t) ts ≡ count (same_task t) (ran P G) = same (λ u. as_number (same_task t u)) in (
        λ i. found (ran P G) (omega (arith, counts, count-some (same_task t) ts t i ((same_task-decides t t).1 refl))),
        λ i. found ts (omega (arith, counts, count-some (same_task t) (ran P G) t i ((same_task-decides t t).1 refl))),
      )
    where
      found : (us : List Task) → 0 < count (same_task t) us → IsIn t us
      found us h = let p = some_passes (same_task t) us h in subst (λ u. IsIn u us) (sym ((same_task-decides t p.0).0 p.2)) p.1

  legal_may : (acc ts : List Task) → IsLegalAfter P acc ts → ((t : Task) → IsIn t ts → IsIn t (ran P G)) → MayAllRunAfter P G acc ts
  legal_may acc [] l all = tt
  legal_may acc (t ∷ ts) l all =
      let r = (ran_ends t).0 (all t (inl refl)) in
      (record { follows = l.0; have_outputs = sources_end t r.0 r.1 }, legal_may (acc ++ t ∷ []) ts l.1 (λ u i. all u (inr i)))

  pub whole_may : (ts : List Task) → IsWholeOrder P G ts → MayAllRunAfter P G [] ts
  whole_may ts w = legal_may [] ts w.legal (λ t i. (members ts w.all t).0 i)

  pub whole_all : (ts : List Task) → IsWholeOrder P G ts → (t : Task) → IsIn t (ran P G) → IsIn t ts
  whole_all ts w t i = (members ts w.all t).1 i
