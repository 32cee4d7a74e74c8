-- A turn is given back with the end of the running task.
use Rattle.std.proofs.Common.{◌≡◌, ℕ, ◌<◌, ◌≤◌, true, List, [], ◌∷◌, ◌++◌, set, length, get_or, sym, refl, ap, ◌∙◌, subst, inl, inr, arith, None}
use Rattle.std.proofs.lemmas.Bool.{lt-ltb, ltb-true}
use mathlib.Core.Option.{none, some}
use lib.ListN.{get_elem?}
use Rattle.atomic_table.specs.Table.{Allows, gives, rest, step, stepped}
use Rattle.ptg_base.specs.Task.{Task}
use Rattle.ptg_base.specs.TaskComparing.{same_task}
use Rattle.ptg_base.specs.TaskLaws.{same_task-decides}
use Rattle.list_lemmas.proofs.Truth.{by_test}
use Rattle.list_lemmas.proofs.Counts.{weigh-one}
use Rattle.term_core.specs.declared.trap.Trap.{Trap}
use Rattle.plan_core.specs.declared.plan.Plan.{Plan}
use Rattle.coll_data.specs.Data.{Data}
use Rattle.dep_shard.specs.Content.{Content, Ends, KeepsEntriesAndWritten, Uses}
use Rattle.flow_meaning.specs.Comparing.{same_item}
use Rattle.list_lemmas.specs.Counting.{as_number, count, weigh}
use Rattle.flow_meaning.specs.Ending.{has_outputs}
use Rattle.flow_meaning.specs.Machine.{SentItem, claim_count, send_count}
use Rattle.flow_meaning.specs.Sound.{IsFinished}
use Rattle.flow_meaning.proofs.CallerLemmas.{claim_member}
use Rattle.shard_meaning.specs.Moment.{IsSoundMoment, Moment, run_count, with_end}
use Rattle.shard_meaning.specs.Share.{Placement}
use Rattle.shard_meaning.proofs.CallerLemmas.{end_away, end_here, finished-end, reserve-end, reserve-end_away, reserve-trap, trap_here, weigh-without}
use Rattle.work_board.specs.Records.{done_by}
use Rattle.work_board.specs.Sends.{MayEnd, MayTrap}
use Rattle.work_board.specs.declared.record.PassRecord.{PassRecord}
use Rattle.table_rule.specs.declared.table_job.TableJob.{TableJob}
use Rattle.table_rule.specs.Changes.{turn_left, with_own_end}
use Rattle.table_rule.specs.Live.{OwnsLives, own_claims, own_runs, own_stamps}
use Rattle.table_rule.specs.Owning.{OwnsWork}
use Rattle.shard_meaning.specs.Placing.{shard_of}
use Rattle.table_rule.specs.Plays.{GivesEnd, HasName, HasTurn, Seated}
use Rattle.table_rule.specs.Records.{AreRecordsOf}
use Rattle.table_rule.specs.Rule.{Parts, Reserve, Rule, Share, Table}
use Rattle.table_rule.specs.Words.{live_word, stamp_word, turn_word}
use Rattle.table_rule.proofs.Giving.{holds_turn}
use Rattle.table_rule.proofs.Living.{live_kept}
use Rattle.table_rule.proofs.Moving.{given_back}
use Rattle.table_rule.proofs.Naming.{named_not_empty}
use Rattle.table_rule.proofs.Passes.{same_weight}
use Rattle.table_rule.proofs.Weighing.{term_le, weigh-set, weigh_terms}

-- the tasks that run are among the claims, so a sound state and the running tasks are a sound moment
pub sound_moment : (j : TableJob) (s : Table) (R : Moment) → Parts j s R → IsSoundMoment j.matched j.given R
sound_moment j s R r = record {
  state = r.sound;
  claimed = λ t. omega (
    arith,
    r.records.claims (λ u. as_number (same_task t u)),
    r.records.running (λ u. as_number (same_task t u)),
    weigh_terms (λ (v : PassRecord). own_runs v t) (λ (v : PassRecord). own_claims v t) s.views
        (λ i v e. (r.owned.each i v e).running (λ u. as_number (same_task t u))),
  );
}

-- a task that some pass runs is among the running tasks of the moment
module _ (vs : List PassRecord) (R : Moment) (records : AreRecordsOf R vs) (id : ℕ) (v : PassRecord)
    (me : get_elem? vs id ≡ some v) (t : Task) (runs : v.running ≡ t ∷ []) where
  pub own_run : own_runs v t ≡ 1
  own_run = omega (arith, ap (weigh (λ u. as_number (same_task t u))) runs, ap as_number ((same_task-decides t t).1 refl))

  pub it_runs : 0 < run_count R t
  it_runs = omega (arith, own_run, records.running (λ u. as_number (same_task t u)), term_le (λ (u : PassRecord). own_runs u t) vs id v me)

  pub end_records : (w : PassRecord) → w.claims ≡ v.claims → w.sends ≡ v.sends → w.running ≡ [] → AreRecordsOf (with_end R t) (set vs id w)
  end_records w claims sends none_runs = record {
    claims = λ f. records.claims f ∙ sym (same_weight vs id v w me (λ (u : PassRecord). weigh f u.claims) (ap (weigh f) claims));
    sends = λ f. records.sends f ∙ sym (same_weight vs id v w me (λ (u : PassRecord). weigh f u.sends) (ap (weigh f) sends));
    running = λ f. omega (
      arith,
      records.running f,
      weigh-without f t R.running it_runs,
      weigh-set
          (λ (u : PassRecord). weigh f u.running) vs id v w me,
      ap (weigh f) none_runs,
      ap (weigh f) runs,
    );
  }

-- the pass after the end
end_owns : (v : PassRecord) → HasName v → OwnsWork v → OwnsWork (turn_left (with_own_end v))
end_owns v named o = record { running = λ f. omega arith; sends = o.sends; nameless = λ e. absurd (named_not_empty v.names named e) }

end_lives : (v : PassRecord) (t : Task) (k : ℕ) (y₀ : Content) → v.credit ≡ 0 → v.turns ≡ (k, y₀) ∷ []
    → v.running ≡ t ∷ [] → 0 < own_stamps v t → own_claims v t ≤ 1 → OwnsWork v → OwnsLives v
    → OwnsLives (turn_left (with_own_end v))
end_lives v t k y₀ none_left turn runs stamped once o l = record {
  credit = omega (arith, none_left, o.running (λ _. 1), ap length runs, weigh-one v.running, weigh-one v.claims);
  stamps = l.stamps;
  stamped = λ u. by_test (same_task u t)
      (λ q. let same : u ≡ t = (same_task-decides u t).0 q in omega (arith, ap (own_claims v) same, ap (own_stamps v) same, stamped, once))
      (λ q. omega (arith, l.stamped u, ap (weigh (λ z. as_number (same_task u z))) runs, ap as_number q));
}

-- what an end changes in the shard of the task, and that the task is finished
record Ending (j : TableJob) (R : Moment) (v : PassRecord) (k : ℕ) (t : Task) (y₀ y : Content) : Type 0 where
  finished : IsFinished j.matched j.given R.state t
  here : Share j R k y₀ → Share j (with_end R t) k y
  spare : j.preloaded ≡ true → Reserve j R k y₀ → Reserve j (with_end R t) k y

-- the turn is given back with the end of the running task
ends : (j : TableJob) (n id : ℕ) (m : Seated) (k : ℕ) (t : Task) (y₀ y : Content) → HasTurn m k y₀ y 0
    → m.0.running ≡ t ∷ [] → shard_of j.matched j.shards t ≡ k → 0 < own_stamps m.0 t
    → ((s : Table) (R : Moment) → Parts j s R → get_elem? s.views id ≡ some m.0 → Ending j R m.0 k t y₀ y)
    → Allows (Rule j) n id m (turn_word k) (λ _. 0) (λ _. GivesEnd (step n (turn_word k) 0 0 none) m 0)
ends j n id m k t y₀ y h runs at stamped does s rule wide me
    _ = let P : Plan = j.matched in let G : Data = j.given in let of : Placement = shard_of j.matched j.shards in
    let R : Moment = rule.0 in let r = rule.1 in let v : PassRecord = m.0 in let w : PassRecord = turn_left (with_own_end v) in
    let held = holds_turn m k y₀ y 0 h in
    let own = it_runs s.views R r.records id v me t runs in
    let d = does s R r me in
    let once : own_claims v t ≤ 1 = omega (
      arith,
      r.sound.claimed_once t,
      r.records.claims
          (λ u. as_number (same_task t u)),
      term_le (λ (u : PassRecord). own_claims u t) s.views id v me,
    ) in
    let busy : R.running ≡ [] → ⊥ = λ e. absurd (omega (arith, own, ap (λ l. count (same_task t) l) e)) in (
      w,
      gives,
      tt,
      subst (λ (c : List (ℕ × Content)). Rule j (stepped s (turn_word k) 0 id c w gives)) (sym h.slot) (
        with_end R t,
        given_back j s id v w k y₀ y [] R (with_end R t) r me h.turn (ap rest h.turn) (record {
          records = end_records s.views R r.records id v me t runs w refl refl refl;
          sound = r.sound;
          finished = finished-end P G R r.finished t own d.finished;
          owns = end_owns v h.named (r.owned.each id v me);
          handed = let g = r.handed id v me in record { tasks = g.tasks; inputs = g.inputs };
          names = refl;
          halts = refl;
          here = d.here (r.held id v me k y₀ held);
          others = λ x z ne q. end_away P G of x R t own z (λ e. ne (sym e ∙ at)) q;
          calms = λ c. absurd (busy c.none_runs);
          sees = λ q. absurd (busy (r.quieted.calm id v me q).none_runs);
          live = live_kept P R (with_end R t) (get_or s.words (live_word j.shards) 0) (get_or s.words (stamp_word j.shards) 0) s.views id v w me
              (omega (arith, weigh-without (λ _. 1) t R.running own, weigh-one R.running, weigh-one (with_end R t).running))
              (end_lives v t k y₀ h.credit h.turn runs stamped once (r.owned.each id v me) (r.live.each id v me)) refl (λ x i. inl i) r.live;
          spare_here = λ pre. d.spare pre ((r.reserved pre).held id v me k y₀ held);
          spare_others = λ pre x z ne q. reserve-end_away P of x R t own z q;
        }),
      ),
      refl,
    )

-- after its items
pub ends_with_items : (j : TableJob) (n id : ℕ) (m : Seated) (k : ℕ) (t : Task) (y₀ y : Content) → HasTurn m k y₀ y 0
    → MayEnd j.matched j.given t m.0 → shard_of j.matched j.shards t ≡ k → 0 < own_stamps m.0 t
    → Ends y₀ y → KeepsEntriesAndWritten y₀ y → y.trapped ≡ y₀.trapped → Uses y₀.spare y.spare 0 None 0 0
    → Allows (Rule j) n id m (turn_word k) (λ _. 0) (λ _. GivesEnd (step n (turn_word k) 0 0 none) m 0)
ends_with_items j n id m k t y₀ y h may at stamped ending kept trapped uses = ends j n id m k t y₀ y h may.runs at
    stamped (λ s R r me. let own = it_runs s.views R r.records id m.0 me t may.runs in record {
      finished = inr (λ i among. lt-ltb 0 (send_count R.state i)
          (omega (
            arith,
            ltb-true 0 (send_count (done_by m.0) i) (may.sent i among),
            r.records.sends
                (λ (x : SentItem). as_number (same_item i x.item)),
            term_le
                (λ (u : PassRecord). weigh (λ (x : SentItem). as_number (same_item i x.item)) u.sends) s.views id m.0 me,
          )));
      here = λ q. end_here j.matched j.given (shard_of j.matched j.shards) k R t own y₀ y at may.outputs ending kept trapped q;
      spare = λ pre q. reserve-end j.matched (shard_of j.matched j.shards) k R t own y₀ y kept uses q;
    })

-- by a trap
pub ends_by_trap : (j : TableJob) (n id : ℕ) (m : Seated) (k : ℕ) (t : Task) (cause : Trap) (y₀ y : Content)
    → HasTurn m k y₀ y 0 → MayTrap j.matched j.given t cause m.0 → shard_of j.matched j.shards t ≡ k
    → 0 < own_stamps m.0 t
    → Ends y₀ y → KeepsEntriesAndWritten y₀ y → y.trapped ≡ y₀.trapped ++ (t, cause) ∷ [] → Uses y₀.spare y.spare 0 None 0 1
    → Allows (Rule j) n id m (turn_word k) (λ _. 0) (λ _. GivesEnd (step n (turn_word k) 0 0 none) m 0)
ends_by_trap j n id m k t cause y₀ y h may at stamped ending kept trapped uses = ends j n id m k t y₀ y h may.runs at
    stamped (λ s R r me. let own = it_runs s.views R r.records id m.0 me t may.runs in record {
      finished = inl (ap has_outputs may.traps);
      here = λ q. trap_here j.matched j.given (shard_of j.matched j.shards) k R t own y₀ y cause at may.traps ending kept trapped q;
      spare = λ pre q. let sound = sound_moment j s R r in let claimed : 0 < claim_count R.state t = omega (arith, own, sound.claimed t) in
          reserve-trap j.matched (shard_of j.matched j.shards) k R t
          (r.sound.claimed_have_all t (claim_member R.state t claimed)).task at claimed
          (omega (arith, own, sound.claimed t, r.sound.claimed_once t)) y₀ y kept uses q;
    })
