-- Each event keeps the reserve of every shard; in its own shard, also after the call has used what it needs.
use Rattle.std.proofs.Common.{◌≡◌, ℕ, ◌<◌, Bool, true, false, ◌&&◌, ◌||◌, List, refl, ap, sym, ◌∙◌, arith, None, is_none, nat_lt, eq-eqb, ne_eqb}
use Rattle.std.proofs.lemmas.Bool.{and_from, eqb-true, le-ltb, lt-ltb}
use Rattle.ptg_base.specs.Entry.{FlowTile}
use Rattle.ptg_base.specs.Task.{Task}
use Rattle.ptg_base.specs.TaskComparing.{same_task}
use Rattle.ptg_base.specs.TaskLaws.{same_task-decides}
use Rattle.ptg_base.specs.declared.edge.Item.{Item}
use Rattle.list_lemmas.proofs.Truth.{and-false, by_test}
use Rattle.list_lemmas.proofs.Counts.{count-some, weigh-push}
use Rattle.list_lemmas.proofs.Distinct.{count-falls}
use Rattle.plan_core.specs.declared.plan.Plan.{Plan}
use Rattle.coll_data.specs.Data.{Data}
use Rattle.dep_iter.specs.Tasks.{IsTask, all_tasks}
use Rattle.dep_iter.proofs.CallerLemmas.{listed, once-all_tasks}
use Rattle.dep_shard.specs.Content.{Content, KeepsEntriesAndWritten, Takes, Uses, entry_in, entry_of}
use Rattle.list_lemmas.specs.Counting.{as_number}
use Rattle.flow_meaning.specs.Machine.{MayClaim, MaySend, claim_count}
use Rattle.flow_meaning.specs.Table.{is_unclaimed}
use Rattle.shard_meaning.specs.Moment.{Moment, run_count, with_claim, with_end, with_send}
use Rattle.shard_meaning.specs.Share.{Placement, is_of}
use Rattle.shard_meaning.specs.Reserve.{HasReserve, is_due_end}
use Rattle.shard_meaning.proofs.Due.{IsDueBefore, due-claim, due-end, due-send, edges_due, ends_due, entries_due}
use Rattle.shard_meaning.proofs.Due.{is_to_end, runs_as_before, runs_once_less, write_tiles_due, writes_due}
use Rattle.shard_meaning.proofs.Entries.{still_there}

module _ (P : Plan) (of : Placement) (k : ℕ) where
  -- a shard of which nothing but the entries and the spares has changed, after no event or one that uses no spare
  kept_by : (R T : Moment) → IsDueBefore R T → (y z : Content)
      → ((t : Task) → is_unclaimed T.state t ≡ true → is_none (entry_of z t) ≡ true → is_none (entry_of y t) ≡ true)
      → Uses y.spare z.spare 0 None 0 0 → HasReserve P of k R y → HasReserve P of k T z
  kept_by R T before y z none uses h = record {
    entries = omega (arith, h.entries, uses.entries, entries_due P of k R T before y z none);
    tiles = λ d. omega (arith, h.tiles d, uses.tiles d, edges_due P of k R T before d, write_tiles_due P of k R T before d);
    writes = omega (arith, h.writes, uses.writes, writes_due P of k R T before);
    traps = omega (arith, h.traps, uses.traps, ends_due P of k R T before);
  }

  no_use : (y : Content) → Uses y.spare y.spare 0 None 0 0
  no_use y = record { entries = omega arith; tiles = λ d. omega arith; writes = omega arith; traps = omega arith }

  -- nothing has happened, and the call has used nothing
  pub reserve-unchanged : (R : Moment) (y z : Content) → z.entries ≡ y.entries → Uses y.spare z.spare 0 None 0 0 → HasReserve P of k R y → HasReserve P of k R z
  reserve-unchanged R y z same uses h =
      kept_by R R (record { unclaimed = λ t e. e; sent = λ i e. e; to_end = λ t e. e }) y z (λ t free e. ap (λ l. is_none (entry_in l t)) (sym same) ∙ e) uses h

  -- an event elsewhere
  pub reserve-away : (R T : Moment) → IsDueBefore R T → (y : Content) → HasReserve P of k R y → HasReserve P of k T y
  reserve-away R T before y h = kept_by R T before y y (λ t free e. e) (no_use y) h

  pub reserve-claim_away : (R : Moment) (t : Task) → MayClaim P R.state t → (y : Content) → HasReserve P of k R y → HasReserve P of k (with_claim R t) y
  reserve-claim_away R t may y h = reserve-away R (with_claim R t) (due-claim R t may.unclaimed) y h

  pub reserve-send_away : (G : Data) (R : Moment) (i : Item) → MaySend P G R.state i → (y : Content)
      → HasReserve P of k R y → HasReserve P of k (with_send P G R i) y
  reserve-send_away G R i may y h = reserve-away R (with_send P G R i) (due-send P G R i may) y h

  pub reserve-end_away : (R : Moment) (t : Task) → 0 < run_count R t → (y : Content) → HasReserve P of k R y → HasReserve P of k (with_end R t) y
  reserve-end_away R t runs y h = reserve-away R (with_end R t) (due-end R t runs) y h

  -- a claim here
  pub reserve-claim : (R : Moment) (t : Task) → MayClaim P R.state t → (y z : Content) (tiles : List FlowTile)
      → Takes y z t tiles → Uses y.spare z.spare 0 None 0 0 → HasReserve P of k R y
      → HasReserve P of k (with_claim R t) z
  reserve-claim R t may y z tiles takes uses h = kept_by R (with_claim R t) (due-claim R t may.unclaimed) y z
      (λ u free e. by_test (same_task t u)
      (λ same. absurd (claimed u ((same_task-decides t u).0 same) free))
      (λ other. ap is_none (sym (still_there y z t u None takes.entries other)) ∙ e))
      uses h
    where
      claimed : (u : Task) → t ≡ u → is_unclaimed (with_claim R t).state u ≡ true → ⊥
      claimed u same free = absurd (omega (
        arith,
        eqb-true (claim_count (with_claim R t).state u) 0 free,
        weigh-push
            (λ v. as_number (same_task u v)) R.state.claims t,
        ap as_number ((same_task-decides u t).1 (sym same)),
      ))

  -- an end here without a trap
  pub reserve-end : (R : Moment) (t : Task) → 0 < run_count R t → (y z : Content) → KeepsEntriesAndWritten y z
      → Uses y.spare z.spare 0 None 0 0 → HasReserve P of k R y → HasReserve P of k (with_end R t) z
  reserve-end R t runs y z kept uses h = kept_by R (with_end R t) (due-end R t runs) y z
      (λ u free e. ap (λ l. is_none (entry_in l u)) (sym kept.entries) ∙ e) uses h

  module _ (R : Moment) (t : Task) (job : IsTask P t) (at : of t ≡ k) (claimed : 0 < claim_count R.state t) (runs : run_count R t ≡ 1) where
    due_before : is_due_end of k R t ≡ true
    due_before = and_from (is_of of k t) (is_to_end R t) (eq-eqb (of t) k at) (or_second (is_unclaimed R.state t) (lt-ltb 0 (run_count R t) (omega arith)))
      where
        or_second : (a : Bool) → nat_lt 0 (run_count R t) ≡ true → (a || nat_lt 0 (run_count R t)) ≡ true
        or_second true e = refl
        or_second false e = e

    gone_now : is_due_end of k (with_end R t) t ≡ false
    gone_now = ap (λ b. is_of of k t && (b || nat_lt 0 (run_count (with_end R t) t))) (ne_eqb (claim_count R.state t) 0 (λ e. absurd (omega (arith, e))))
        ∙ ap (λ b. is_of of k t && b) (le-ltb 0 (run_count (with_end R t) t) (omega (arith, runs_once_less R t (omega arith)))) ∙ and-false (is_of of k t)

    -- there is a row to spare for a task that runs
    pub spare-trap : (y : Content) → HasReserve P of k R y → 0 < y.spare.traps
    spare-trap y h = omega (arith, h.traps, count-some (is_due_end of k R) (all_tasks P) t ((listed P t).0 job) due_before)

    -- an end here by a trap
    pub reserve-trap : (y z : Content) → KeepsEntriesAndWritten y z → Uses y.spare z.spare 0 None 0 1
        → HasReserve P of k R y → HasReserve P of k (with_end R t) z
    reserve-trap y z kept uses h =
        let before = due-end R t (omega arith) in
        record {
          entries = omega (
            arith,
            h.entries,
            uses.entries,
            entries_due P of k R (with_end R t) before y z
                (λ u free e. ap (λ l. is_none (entry_in l u)) (sym kept.entries) ∙ e),
          );
          tiles = λ d. omega (arith, h.tiles d, uses.tiles d, edges_due P of k R (with_end R t) before d, write_tiles_due P of k R (with_end R t) before d);
          writes = omega (arith, h.writes, uses.writes, writes_due P of k R (with_end R t) before);
          traps = omega (
            arith,
            h.traps,
            uses.traps,
            count-falls (is_due_end of k R) (is_due_end of k (with_end R t)) (all_tasks P) t (once-all_tasks P) ((listed P t).0 job) due_before gone_now
                (λ u ne. ap (λ n. is_of of k u && (is_unclaimed R.state u || nat_lt 0 n)) (runs_as_before R t u (omega arith) ne)),
          );
        }
