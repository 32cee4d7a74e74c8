-- The passes of workers that are done are all passes of the table, and one of them has seen quiet.
use Rattle.std.proofs.Common.{[], ◌∷◌, ◌++◌, ap, arith, inl, ◌<◌, ◌≡◌, ℕ, Bool, true, false, List, length, map, refl}
use Rattle.std.proofs.Common.{sym, ◌∙◌, subst, Option, Some, None, Result, Ok, Err, slice_get, slice_index_or}
use Rattle.std.specs.Prelude.{IsSome}
use Rattle.std.specs.Map.{keys_of}
use Rattle.ptg_base.specs.Lists.{IsIn}
use Rattle.ptg_base.specs.Task.{Task}
use Rattle.ptg_base.specs.declared.memory.OutOfMemory.{OutOfMemory}
use Rattle.list_lemmas.proofs.Members.{IsIn-map, from_flat_map, from_map}
use Rattle.list_lemmas.proofs.Places.{IsIn-slice_get}
use Rattle.list_lemmas.proofs.Joins.{map-map}
use Rattle.std.proofs.lemmas.Option.{get_or_from_slice_get, slice_get_within}
use Rattle.plan_core.specs.declared.plan.Plan.{Plan}
use Rattle.coll_data.specs.Data.{Data}
use Rattle.crossbeam_utils.specs.Padded.{padded_value}
use Rattle.work_board.specs.declared.record.PassRecord.{PassRecord}
use Rattle.worker_core.specs.declared.worker.Worked.{Worked}
use Rattle.worker_core.specs.Working.{HasWorked}
use Rattle.table_rule.specs.Names.{AreAll, Name}
use Rattle.table_rule.specs.Records.{joined}
use Rattle.dep_table.specs.declared.table.DepTable.{DepTable}
use Rattle.dep_table.specs.Boards.{IsWorkerPass}
use Rattle.dep_table.specs.Closing.{AreAllPasses}
use Rattle.dep_table.specs.Tables.{id_of}
use Rattle.dep_table.specs.Passes.{IsPassOf}
use Rattle.dep_table.specs.Views.{PassView, shown}
use Rattle.run_pool.specs.Desks.{IsAnswerOfPass, HasWorkedAt, HaveWorked}
use Rattle.run_pool.specs.Gates.{AreLetThrough}
use Rattle.run_pool.specs.Seated.{AreSeated, HaveAnswered, IsDone, IsFresh, IsNumbered, OneWasRefused, PaddedDesk, answer_on, pass_on, record_on}
use Rattle.run_pool.proofs.Places.{has_both, same_looks}

abbrev names_of : PassRecord → List Name
names_of v = v.names

-- one of these passes has seen quiet
pub record OneSawQuiet (ps : List PassView) : Type 0 where
  pub pass : PassView
  pub among : IsIn pass ps
  pub quiet : (shown pass).quiet ≡ true

first_in : (es : List PaddedDesk) → 0 < length es → (e : PaddedDesk) × IsIn e es
first_in [] some = absurd (omega arith)
first_in (e ∷ es) some = (e, inl refl)

module _ (T : DepTable) (plan : Plan) (given : Data) (lets : ℕ → Task → Type 0) (preloaded : Bool) (ds es : List PaddedDesk)
    (count : length es ≡ length ds) (w : HaveWorked (IsWorkerPass T) shown plan given lets preloaded ds es) where
  -- what a worker has done, and its result
  abbrev WorkedAt : PaddedDesk → PaddedDesk → Type 0
  WorkedAt d e = HasWorkedAt (IsWorkerPass T) shown plan given lets preloaded (padded_value d) (padded_value e)

  abbrev IsAnswer : ℕ → PassRecord → PassRecord → Option (Result Worked OutOfMemory) → Type 0
  IsAnswer worker v u o = IsAnswerOfPass (IsWorkerPass T) shown plan given lets preloaded worker v u o

  -- what the worker at an index has done
  at : (k : ℕ) (d e : PaddedDesk) → slice_get ds k ≡ Some d → slice_get es k ≡ Some e → WorkedAt d e
  at k d e before after =
      let h = w k d (slice_get_within ds k d before) in
      subst (λ x. WorkedAt d x) (get_or_from_slice_get es k e d after)
      (subst (λ x. WorkedAt x (slice_index_or es k d)) (get_or_from_slice_get ds k d d before) h)

  -- what a worker has done
  worked_at : (e : PaddedDesk) → IsIn e es → (d : PaddedDesk) × IsIn d ds × WorkedAt d e
  worked_at e i =
      let b = has_both ds es e count i in
      (b.other, IsIn-slice_get ds b.place b.other b.before, at b.place b.other e b.before b.after)

  has_answer : (n : ℕ) (v u : PassRecord) (o : Option (Result Worked OutOfMemory)) → IsAnswer n v u o → IsSome o
  has_answer n v u None h = absurd h
  has_answer n v u (Some r) h = refl

  pub have_answered : HaveAnswered es
  have_answered e i = let p = worked_at e i in has_answer _ _ (record_on e) (answer_on e) p.2.answer

  -- a preloaded run is not refused memory
  not_preloaded : (n : ℕ) (v u : PassRecord) (o : Option (Result Worked OutOfMemory)) (out : OutOfMemory)
      → o ≡ Some (Err out) → IsAnswer n v u o → preloaded ≡ false
  not_preloaded n v u None out e h = absurd h
  not_preloaded n v u (Some (Ok worked)) out e h = absurd cc
  not_preloaded n v u (Some (Err out₂)) out e h = h.1

  pub refused_unloaded : OneWasRefused es → preloaded ≡ false
  refused_unloaded r =
      let p = worked_at r.desk r.among in
      not_preloaded _ _ (record_on r.desk) (answer_on r.desk) r.refused r.answer p.2.answer

  -- a worker that is done has seen quiet, and worked
  has_done : (n : ℕ) (v u : PassRecord) (o : Option (Result Worked OutOfMemory)) (worked : Worked)
      → o ≡ Some (Ok worked) → IsAnswer n v u o
      → (u.quiet ≡ true) × (ran : ℕ) × HasWorked plan given (lets n) ran v u
  has_done n v u None worked e h = absurd h
  has_done n v u (Some (Ok worked₂)) worked e h = (h.0, worked₂.ran, h.1)
  has_done n v u (Some (Err out)) worked e h = absurd cc

  pub saw_quiet : (e : PaddedDesk) → IsIn e es → IsDone e → (record_on e).quiet ≡ true
  saw_quiet e i done =
      let p = worked_at e i in
      (has_done _ _ (record_on e) (answer_on e) done.worked done.answer p.2.answer).0

  -- the gate has let a worker run each task that was claimed at a desk
  its_claims : ((d : PaddedDesk) → IsIn d ds → IsFresh d) → ((d : PaddedDesk) → IsIn d ds → IsNumbered (length ds) d)
      → (e : PaddedDesk) → IsIn e es → IsDone e → AreLetThrough lets (length ds) (record_on e).claims
  its_claims fresh numbered e i done t claimed =
      let p = worked_at e i in
      let d : PaddedDesk = p.0 in
      let h = (has_done _ (record_on d) (record_on e) (answer_on e) done.worked done.answer p.2.answer).2 in
      let new : (record_on e).claims ≡ keys_of h.more =
      h.claimed.claims ∙ ap (λ l. l ++ keys_of h.more) (fresh d p.1).no_claim in
      ((padded_value d).hands.number, numbered d p.1, h.followed.let_through t (subst (IsIn t) new claimed))

  pub let_through : ((d : PaddedDesk) → IsIn d ds → IsFresh d) → ((d : PaddedDesk) → IsIn d ds → IsNumbered (length ds) d)
      → ((e : PaddedDesk) → IsIn e es → IsDone e)
      → AreLetThrough lets (length ds) (joined (map record_on es)).state.claims
  let_through fresh numbered done t i =
      let v = from_flat_map (λ (u : PassRecord). u.claims) (map record_on es) t i in
      let e = from_map record_on es v.0 v.1 in
      its_claims fresh numbered e.0 e.1 (done e.0 e.1) t (subst (λ (u : PassRecord). IsIn t u.claims) e.2 v.2)

  same_names : map names_of (map record_on es) ≡ map names_of (map record_on ds)
  same_names =
      map-map names_of record_on es
      ∙ same_looks (λ d. names_of (record_on d)) ds es count (λ k d e before after. (at k d e before after).later.names)
      ∙ sym (map-map names_of record_on ds)

  pub all_passes : ((vs ws : List PassRecord) → map (λ (w : PassRecord). w.names) ws ≡ map (λ (v : PassRecord). v.names) vs → AreAll vs → AreAll ws)
      → AreSeated (id_of T) plan ds → AreAllPasses (id_of T) (map pass_on es)
  all_passes names seated = record {
    each = λ p i.
        let q = from_map pass_on es p i in
        let at = worked_at q.0 q.1 in
        subst (IsPassOf (id_of T)) (sym q.2) at.2.pass.of;
    all = subst AreAll (sym (map-map shown pass_on es)) (names (map record_on ds) (map record_on es) same_names seated.all);
  }

  -- if each worker is done, one of them has seen quiet
  pub one_saw_quiet : 0 < length ds → ((e : PaddedDesk) → IsIn e es → IsDone e) → OneSawQuiet (map pass_on es)
  one_saw_quiet some done =
      let e = first_in es (omega (arith, count)) in
      record { pass = pass_on e.0; among = IsIn-map pass_on es e.0 e.1; quiet = saw_quiet e.0 e.1 (done e.0 e.1) }
