-- The logs of all workers, sorted, are the claims of all passes in the order of their stamps.
use Rattle.std.proofs.Common.{◌≡◌, ℕ, zero, suc, true, List, [], ◌∷◌, ◌++◌, length, map, get_or, slice_index_or, refl}
use Rattle.std.proofs.Common.{ap, sym, ◌∙◌, subst, inl, inr, arith, Result, Ok, Err}
use Rattle.std.proofs.lemmas.List.Sorted.{sum_by-IsPermutation}
use Rattle.std.specs.List.{flat_map}
use Rattle.std.specs.Result.{IfOk}
use Rattle.std.specs.List.Sorted.{IsNonDecreasingBy, IsPermutation}
use Rattle.ptg_base.specs.Lists.{IsIn}
use Rattle.ptg_base.specs.Task.{Task}
use Rattle.std.proofs.lemmas.List.{map-append}
use Rattle.list_lemmas.proofs.Joins.{map-map}
use Rattle.std.proofs.lemmas.Option.{get_or_from_slice_get, slice_get_within}
use Rattle.list_lemmas.proofs.Places.{IsIn-slice_get}
use Rattle.list_lemmas.proofs.Counts.{weigh-map, weigh-sum}
use Rattle.dep_shard.specs.Content.{Content}
use Rattle.list_lemmas.specs.Counting.{weigh}
use Rattle.shard_meaning.specs.Calm.{HaveNoWork}
use Rattle.worker_core.specs.Working.{HasLogged, logged}
use Rattle.work_board.specs.declared.record.PassRecord.{PassRecord}
use Rattle.table_rule.specs.declared.table_job.TableJob.{TableJob}
use Rattle.table_rule.specs.Records.{joined}
use Rattle.dep_table.specs.ClosedTables.{ClosedView}
use Rattle.dep_table.specs.Closing.{IsClosedAt}
use Rattle.flow_meaning.specs.Order.{IsWholeOrder}
use Rattle.dep_table.specs.StampOrders.{AreInStampOrder, IsClaimOrder, joined_stamps, number_of}
use Rattle.dep_table.specs.Views.{PassView, shown}
use Rattle.run_pool.specs.Desks.{HaveLogged}
use Rattle.run_pool.specs.Seated.{IsFresh, PaddedDesk, log_on, pass_on, record_on}
use Rattle.run_pool.specs.Traces.{IsTraceOf}
use Rattle.run_pool.proofs.Closed.{seen_records}
use Rattle.run_pool.proofs.Places.{has_both}
use Rattle.work_board.specs.Stamps.{StampedTask}

-- an entry of a log: a stamp and a task
abbrev pub Logged : Type 0
Logged = ℕ × Task

abbrev pub stamp_of : Logged → StampedTask
stamp_of e = (e.1, e.0)

length-stamps : (xs : List Logged) → length (map stamp_of xs) ≡ length xs
length-stamps [] = refl
length-stamps (x ∷ xs) = omega (arith, length-stamps xs)

stamp_at : (xs : List Logged) (k : ℕ) (d : StampedTask) → get_or (map stamp_of xs) k d ≡ stamp_of (get_or xs k (d.1, d.0))
stamp_at [] k d = refl
stamp_at (x ∷ xs) zero d = refl
stamp_at (x ∷ xs) (suc k) d = stamp_at xs k d

-- a sorted log
pub sorted_log : (stamps : List StampedTask) (log sorted : List Logged) (ts : List Task) → log ≡ logged stamps
    → IsPermutation log sorted → IsNonDecreasingBy (λ (e : Logged). e.0) sorted → ts ≡ map (λ (e : Logged). e.1) sorted
    → AreInStampOrder stamps ts
sorted_log stamps log sorted ts is moves rise tasks = record {
  ordered = map stamp_of sorted;
  same = λ f. let g : Logged → ℕ = λ e. f (stamp_of e) in
      omega (
        arith,
        weigh-map f stamp_of sorted,
        weigh-sum g sorted,
        weigh-sum g log,
        sum_by-IsPermutation g log sorted
            moves,
        ap (weigh g) is,
        weigh-map g (λ (c : Task × ℕ). (c.1, c.0)) stamps,
      );
  rise = λ i j d le lt. omega (
    arith,
    length-stamps sorted,
    rise i j (d.1, d.0) le
        (omega (arith, length-stamps sorted)),
    ap number_of (stamp_at sorted i d),
    ap number_of (stamp_at sorted j d),
  );
  tasks = tasks ∙ sym (map-map (λ (x : StampedTask). x.0) stamp_of sorted);
}

pub sorted_tasks : {A E : Type 0} (items : A → List Task) (r : Result A E) (log sorted : List Logged)
    → IsPermutation log sorted → IsNonDecreasingBy (λ (e : Logged). e.0) sorted
    → IfOk r (λ a. items a ≡ map (λ (e : Logged). e.1) sorted)
    → IfOk r (λ a. (stamps : List StampedTask) → log ≡ logged stamps → AreInStampOrder stamps (items a))
sorted_tasks items (Ok a) log sorted moves rise is = λ stamps same. sorted_log stamps log sorted (items a) same moves rise is
sorted_tasks items (Err e) log sorted moves rise is = tt

-- the logs of all desks
pub logged_all : (es : List PaddedDesk) → ((e : PaddedDesk) → IsIn e es → log_on e ≡ logged (record_on e).stamps)
    → flat_map log_on es ≡ logged (joined_stamps (map record_on es))
logged_all [] h = refl
logged_all (e ∷ es) h =
    ap (λ l. l ++ flat_map log_on es) (h e (inl refl))
    ∙ (ap (λ l. logged (record_on e).stamps ++ l) (logged_all es (λ x i. h x (inr i)))
    ∙ sym (map-append (λ (c : Task × ℕ). (c.1, c.0)) (record_on e).stamps (joined_stamps (map record_on es))))

module _ (ds es : List PaddedDesk) (count : length es ≡ length ds) (w : HaveLogged shown ds es) (fresh : (d : PaddedDesk) → IsIn d ds → IsFresh d) where
  its_log : (e : PaddedDesk) → IsIn e es → log_on e ≡ logged (record_on e).stamps
  its_log e i =
      let b = has_both ds es e count i in
      let d : PaddedDesk = b.other in
      let h : HasLogged true (record_on d) (record_on e) (log_on d) (log_on e) =
      subst (λ (x : PaddedDesk). HasLogged true (record_on d) (record_on x) (log_on d) (log_on x)) (get_or_from_slice_get es b.place e d b.after)
      (subst (λ (x : PaddedDesk). HasLogged true (record_on x) (record_on (slice_index_or es b.place d)) (log_on x)
      (log_on (slice_index_or es b.place d))) (get_or_from_slice_get ds b.place d d b.before)
      (w b.place d (slice_get_within ds b.place d b.before))) in
      let f = fresh d (IsIn-slice_get ds b.place d b.before) in
      h.gained refl ∙ (ap (λ l. l ++ logged h.more) f.no_log ∙ ap logged (sym (h.claimed.stamps ∙ ap (λ l. l ++ h.more) f.no_stamp)))

  pub logs_are : flat_map log_on es ≡ logged (joined_stamps (map record_on es))
  logs_are = logged_all es its_log

-- what a traced run returns besides its closed table
pub trace_of : (j : TableJob) (t : ClosedView) (ps : List PassView) (es : List PaddedDesk) (ts : List Task) → t.job ≡ j
    → ps ≡ map pass_on es → t.records ≡ map shown ps
    → ((us : List Task) → AreInStampOrder (joined_stamps t.records) us
    → IsClaimOrder j.matched (joined t.records).state us)
    → AreInStampOrder (joined_stamps (map record_on es)) ts → IsTraceOf t ts
trace_of j t ps es ts job passes records order sorted =
    let are : t.records ≡ map record_on es = seen_records ps es t.records passes records in
    let here : AreInStampOrder (joined_stamps t.records) ts =
    subst (λ (vs : List PassRecord). AreInStampOrder (joined_stamps vs) ts) (sym are) sorted in
    record {
      order = here;
      legal = subst (λ (i : TableJob). IsClaimOrder i.matched (joined t.records).state ts) (sym job) (order ts here);
    }

-- the same list is a legal order of the tasks that run
pub ran_order : ((j : TableJob) (vs : List PassRecord) (ys : List Content) (ts : List Task) → IsClosedAt j vs ys
    → HaveNoWork ys → IsClaimOrder j.matched (joined vs).state ts → IsWholeOrder j.matched j.given ts)
    → (j : TableJob) (t : ClosedView) (ts : List Task) → t.job ≡ j → IsClosedAt t.job t.records t.shards
    → IsTraceOf t ts → HaveNoWork t.shards → IsWholeOrder j.matched j.given ts
ran_order law j t ts job at trace none =
    subst (λ (i : TableJob). IsWholeOrder i.matched i.given ts) job (law t.job t.records t.shards ts at none trace.legal)
