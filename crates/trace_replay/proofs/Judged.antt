-- What a verdict on rows shows.
use Rattle.std.proofs.lemmas.Bool.{false≢true}
use Rattle.std.specs.Prelude.{IfErr, IfOk, IsErr, MatchOption, OnOk}
use Rattle.ptg_base.specs.declared.refusal.Refusal.{Refusal}
use Rattle.ptg_base.specs.declared.refusal.Refusal.TheVariants as refusals
use Rattle.ptg_base.specs.declared.refusal.Refusal.TheVariants.{Fault}
use Rattle.rank_core.specs.Views.{WorldView}
use Rattle.std.proofs.Common.{◌≡◌, ℕ, ◌+◌, List, [], ◌∷◌, ◌++◌, map, length, refl, ap, sym, ◌∙◌, subst, inl, inr}
use Rattle.std.proofs.Common.{append_assoc, Option, Some, None, Result, Ok, Err, arith}
use Rattle.std.specs.List.{AllByRecursion}
use Rattle.std.proofs.lemmas.List.{append-nil, map-append}
use Rattle.ptg_base.specs.Lists.{HasNoRepeats, IsIn}
use Rattle.ptg_base.specs.Task.{Task}
use Rattle.ptg_base.specs.declared.edge.Edge.{Edge}
use Rattle.plan_core.specs.declared.plan.Plan.{Plan}
use Rattle.coll_data.specs.Data.{Data}
use Rattle.dep_iter.specs.Tasks.{IsTask}
use Rattle.dep_iter.specs.Edges.{in_edges}
use Rattle.dep_iter.specs.Consistent.{IsConsistent}
use Rattle.flow_meaning.specs.declared.outcome.Outcome.{Outcome}
use Rattle.flow_meaning.specs.Answer.{answer, ran}
use Rattle.list_lemmas.proofs.Distinct.{HasNoRepeats-apart}
use Rattle.trace_core.specs.declared.fault.TraceCode.{TraceCode}
use Rattle.trace_core.specs.declared.fault.TraceCode.TheVariants.{TooLong, BadTrace, UnknownTask, RanTwice, TooEarly, Unfinished}
use Rattle.trace_core.specs.declared.fault.TraceFault.{TraceFault}
use Rattle.trace_core.specs.Faults.{IsMissing, IsRowFault, IsTraceFault, of_spelling, of_tasks}
use Rattle.trace_core.specs.Naming.{IsNamingFault}
use Rattle.flow_meaning.specs.Order.{IsWholeOrder}
use Rattle.trace_core.specs.Orders.{MayAllRunAfter}
use Rattle.trace_core.specs.Reading.{IsListOf, IsReadAs, IsReading, IsSpellingFault}
use Rattle.trace_core.specs.Spelling.{IsWellSpelled}
use Rattle.trace_core.specs.Text.{TraceRow, row_of}
use Rattle.trace_core.proofs.CallerLemmas.{all_or_missing, faultless, is_list, one_fault, whole, whole_all, whole_may}
use Rattle.trace_replay.specs.Replaying.{HasRunInOrder, IsEndOf, IsVerdictOn, StopsAt}

-- the tasks that were read are tasks of the job, and differ
pub read_tasks : (P : Plan) (es : List TraceRow) (ts : List Task) (fault : Option TraceFault) → IsReadAs P es ts fault
    → AllByRecursion (IsTask P) ts × HasNoRepeats ts
read_tasks P es ts None r = (r.tasks, r.once)
read_tasks P es ts (Some f) r = (r.0.rows.tasks, r.0.rows.once)

-- the rows go on after those of the tasks that were read
rows_go_on : (P : Plan) (es : List TraceRow) (ts : List Task) (fault : Option TraceFault) → IsReadAs P es ts fault
    → (more : List TraceRow) × (es ≡ map (row_of P) ts ++ more)
rows_go_on P es ts None r = ([], r.named ∙ sym (append-nil (map (row_of P) ts)))
rows_go_on P es ts (Some f) r = (r.0.failed ∷ r.0.later, r.0.split ∙ ap (λ l. l ++ r.0.failed ∷ r.0.later) r.0.rows.named)

naming_row : (P : Plan) (G : Data) (before : List Task) (e : TraceRow) (code : TraceCode) → IsNamingFault P before e code → IsRowFault P G before e code
naming_row P G before e TooLong h = h
naming_row P G before e BadTrace h = h
naming_row P G before e UnknownTask h = h
naming_row P G before e RanTwice h = h
naming_row P G before e TooEarly h = absurd h
naming_row P G before e Unfinished h = h

-- a task of a list, between those before it and those after it
middle_task : (P : Plan) (before later : List Task) (t : Task) → AllByRecursion (IsTask P) (before ++ t ∷ later) → IsTask P t
middle_task P [] later t h = h.0
middle_task P (u ∷ us) later t h = middle_task P us later t h.1

module _ (P : Plan) (G : Data) (es : List TraceRow) (ts : List Task) (jobs : AllByRecursion (IsTask P) ts)
    (once : HasNoRepeats ts) (fault : Option TraceFault) (read : IsReadAs P es ts fault) where
  -- a task that may not run is the fault
  pub stopped_early : (index : ℕ) → StopsAt P G ts index → (f : TraceFault) → f ≡ record { row = index + 2; code = TooEarly } → IsVerdictOn P G es ts (Err f)
  stopped_early index s f is =
      let job = middle_task P s.before s.later s.stopped (subst (AllByRecursion (IsTask P)) s.split jobs) in
      let new : IsIn s.stopped s.before → ⊥ = λ i. HasNoRepeats-apart s.before (s.stopped ∷ s.later) (subst HasNoRepeats s.split once) s.stopped i (inl refl) in
      let x = edge_missing s job new in
      let more = rows_go_on P es ts fault read in
      let e = row_of P s.stopped in
      inl (record {
        before = s.before;
        failed = e;
        later = map (row_of P) s.later ++ more.0;
        split =
            more.1 ∙ ap (λ l. map (row_of P) l ++ more.0) s.split ∙ ap (λ l. l ++ more.0) (map-append (row_of P) s.before (s.stopped ∷ s.later))
            ∙ append_assoc (map (row_of P) s.before) (e ∷ map (row_of P) s.later) more.0;
        may_run = s.may_run;
        code = subst (IsRowFault P G s.before e) (sym (ap (λ (g : TraceFault). g.code) is)) (s.stopped, (job, refl), new, x.0, x.1, x.2);
        row = ap (λ (g : TraceFault). g.row) is ∙ ap (λ n. n + 2) s.is_index;
      })
    where
      edge_missing : (s : StopsAt P G ts index) → IsTask P s.stopped → (IsIn s.stopped s.before → ⊥)
          → (x : Edge) × IsIn x (in_edges P s.stopped) × IsMissing P G s.before x
      edge_missing s job new = elim (all_or_missing P G s.before (in_edges P s.stopped)) [
        | inl all ↦ absurd (s.early (record {
          follows = record
              { task = job; first_time = new; after_sources = λ e i. (all e i).0 };
          have_outputs = λ e i. (all e i).1;
        }))
        | inr p ↦ p
      ]

  -- otherwise the fault is the one that was read
  pub read_fault : MayAllRunAfter P G [] ts → (f : TraceFault) → fault ≡ Some f → IsVerdictOn P G es ts (Err f)
  read_fault may f is =
      let r = subst (IsReadAs P es ts) is read in
      inl (record {
        before = ts;
        failed = r.0.failed;
        later = r.0.later;
        split = r.0.split ∙ ap (λ l. l ++ r.0.failed ∷ r.0.later) r.0.rows.named;
        may_run = may;
        code = naming_row P G ts r.0.failed f.code r.0.fault;
        row = r.1;
      })

  -- otherwise a task that runs is missing
  unfinished : MayAllRunAfter P G [] ts → fault ≡ None → (t : Task) × IsIn t (ran P G) × (IsIn t ts → ⊥)
      → (f : TraceFault) → f ≡ record { row = length ts + 2; code = Unfinished } → IsVerdictOn P G es ts (Err f)
  unfinished may is missing f same =
      let r = subst (IsReadAs P es ts) is read in
      inr (record {
        tasks = ts;
        all = r.named;
        may_run = may;
        missing = missing;
        code = ap (λ (g : TraceFault). g.code) same;
        row = ap (λ (g : TraceFault). g.row) same ∙ ap (λ n. n + 2) (sym (ap length r.named ∙ entries_length ts));
      })
    where
      entries_length : (us : List Task) → length (map (row_of P) us) ≡ length us
      entries_length [] = refl
      entries_length (u ∷ us) = omega (arith, entries_length us)

  -- otherwise the order is whole
  finished : IsConsistent P → MayAllRunAfter P G [] ts → fault ≡ None → ((t : Task) → IsIn t (ran P G) → IsIn t ts)
      → (o : Outcome) → o ≡ answer P G → IsVerdictOn P G es ts (Ok o)
  finished con may is all o same = (same, subst (IsReadAs P es ts) is read, whole P G con ts may all)

  pub at_end : IsConsistent P → (keys : List Task) → keys ≡ ts → MayAllRunAfter P G [] ts → fault ≡ None
      → (f : TraceFault) → f ≡ record { row = length ts + 2; code = Unfinished } → (v : Result Outcome TraceFault)
      → IsEndOf P G keys f v → IsVerdictOn P G es ts v
  at_end con keys ks may is f same (Ok o) e = finished con may is (λ t i. subst (IsIn t) ks (e.1 t i)) o e.0
  at_end con keys ks may is f same (Err g) e = unfinished may is (e.1.0, e.1.1, λ i. e.1.2 (subst (IsIn e.1.0) (sym ks) i)) g (e.0 ∙ same)

-- what the verdict on the rows of a text shows of the text
module _ (P : Plan) (G : Data) (con : IsConsistent P) (text : List ℕ) (ts : List Task) (fault : Option TraceFault) (r : IsReading P text ts fault) where
  fault_of_text : (f : TraceFault) → IsVerdictOn P G r.entries ts (Err f) → IsTraceFault P G text f
  fault_of_text f v = of_tasks r.entries r.at_most r.spelled v

  list_of_text : (o : Outcome) → IsVerdictOn P G r.entries ts (Ok o) → IsListOf P text ts
  list_of_text o v = is_list P text r.entries ts r.at_most r.spelled v.1

  pub only_fault : (v : Result Outcome TraceFault) → IsVerdictOn P G r.entries ts v → (f : TraceFault) → IsTraceFault P G text f → v ≡ Err f
  only_fault (Err g) v f h = ap (λ x. Err x) (one_fault P G text g f (fault_of_text g v) h)
  only_fault (Ok o) v f h =
      absurd (faultless P G text ts r.at_most (subst (IsWellSpelled text) v.1.named r.spelled) (whole_may P G con ts v.2) (whole_all P G con ts v.2) f h)

  pub verdict_fault : (v : Result Outcome TraceFault) → IsVerdictOn P G r.entries ts v → IfErr v (λ f. IsTraceFault P G text f)
  verdict_fault (Err f) v = fault_of_text f v
  verdict_fault (Ok o) v = tt

  pub verdict_whole : (v : Result Outcome TraceFault) → IsVerdictOn P G r.entries ts v → OnOk v ((us : List Task) × IsListOf P text us × IsWholeOrder P G us)
  verdict_whole (Err f) v = tt
  verdict_whole (Ok o) v = (ts, list_of_text o v, v.2)

pub verdict_answer : (P : Plan) (G : Data) (es : List TraceRow) (ts : List Task) (v : Result Outcome TraceFault)
    → IsVerdictOn P G es ts v → IfOk v (λ o. o ≡ answer P G)
verdict_answer P G es ts (Err f) v = tt
verdict_answer P G es ts (Ok o) v = v.0

-- how the runs of the tasks ended
pub stopped_at : (P : Plan) (G : Data) (ts : List Task) (w : WorldView) (o : Option ℕ) (index : ℕ)
    → MatchOption o (HasRunInOrder P G ts w) (λ i. StopsAt P G ts i) → o ≡ Some index → StopsAt P G ts index
stopped_at P G ts w o index h is = subst (λ x. MatchOption x (HasRunInOrder P G ts w) (λ i. StopsAt P G ts i)) is h

pub ran_all : (P : Plan) (G : Data) (ts : List Task) (w : WorldView) (o : Option ℕ)
    → MatchOption o (HasRunInOrder P G ts w) (λ i. StopsAt P G ts i) → o ≡ None → HasRunInOrder P G ts w
ran_all P G ts w o h is = subst (λ x. MatchOption x (HasRunInOrder P G ts w) (λ i. StopsAt P G ts i)) is h

-- a text that could not be read, as its refusal says
module _ (P : Plan) (G : Data) (text : List ℕ) {E : Type 0} (r : Result (Result Outcome TraceFault) E) where
  pub unread_fault : (refusal : Refusal TraceFault) → ((f : TraceFault) → refusal ≡ Fault f → r ≡ Ok (Err f))
      → (refusal ≡ refusals.OutOfMemory → IsErr r) → ((f : TraceFault) → refusal ≡ Fault f → IsSpellingFault text f)
      → IfOk r (λ v. IfErr v (λ f. IsTraceFault P G text f))
  unread_fault (Fault f) known memory spelling = subst (λ x. IfOk x (λ v. IfErr v (λ g. IsTraceFault P G text g)))
      (sym (known f refl)) (of_spelling (spelling f refl))
  unread_fault refusals.OutOfMemory known memory spelling = on_err r (memory refl)
    where
      on_err : (x : Result (Result Outcome TraceFault) E) → IsErr x → IfOk x (λ v. IfErr v (λ g. IsTraceFault P G text g))
      on_err (Ok v) h = absurd (false≢true h)
      on_err (Err e) h = tt

  pub unread_only : (refusal : Refusal TraceFault) → ((f : TraceFault) → refusal ≡ Fault f → r ≡ Ok (Err f))
      → (refusal ≡ refusals.OutOfMemory → IsErr r) → ((f : TraceFault) → refusal ≡ Fault f → IsSpellingFault text f)
      → (g : TraceFault) → IsTraceFault P G text g → IfOk r (λ v. v ≡ Err g)
  unread_only (Fault f) known memory spelling g h =
      subst (λ x. IfOk x (λ v. v ≡ Err g)) (sym (known f refl)) (ap (λ x. Err x) (one_fault P G text f g (of_spelling (spelling f refl)) h))
  unread_only refusals.OutOfMemory known memory spelling g h = on_err r (memory refl)
    where
      on_err : (x : Result (Result Outcome TraceFault) E) → IsErr x → IfOk x (λ v. v ≡ Err g)
      on_err (Ok v) h = absurd (false≢true h)
      on_err (Err e) h = tt

  pub unread_whole : (refusal : Refusal TraceFault) → ((f : TraceFault) → refusal ≡ Fault f → r ≡ Ok (Err f))
      → (refusal ≡ refusals.OutOfMemory → IsErr r) → IfOk r (λ v. OnOk v
      ((us : List Task) × IsListOf P text us × IsWholeOrder P G us)) × IfOk r (λ v. IfOk v (λ o. o ≡ answer P G))
  unread_whole (Fault f) known memory = subst (λ x. IfOk x (λ v. OnOk v
      ((us : List Task) × IsListOf P text us × IsWholeOrder P G us)) × IfOk x (λ v. IfOk v (λ o. o ≡ answer P G)))
      (sym (known f refl)) (tt, tt)
  unread_whole refusals.OutOfMemory known memory = on_err r (memory refl)
    where
      on_err : (x : Result (Result Outcome TraceFault) E) → IsErr x
          → IfOk x (λ v. OnOk v ((us : List Task) × IsListOf P text us × IsWholeOrder P G us))
          × IfOk x (λ v. IfOk v (λ o. o ≡ answer P G))
      on_err (Ok v) h = absurd (false≢true h)
      on_err (Err e) h = (tt, tt)
