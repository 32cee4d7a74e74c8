-- The end of a task on a turn: what allows it, and the pass after it.
use Rattle.std.proofs.Common.{◌≡◌, ℕ, ◌+◌, ◌-◌, ◌<◌, List, [], ◌∷◌, ◌++◌, length, sym, ap, ◌∙◌, subst, refl, arith, inl, inr, None, true}
use Rattle.table_rule.specs.Seats.{rest}
use Rattle.ptg_base.specs.Task.{Task}
use Rattle.ptg_base.specs.TaskComparing.{same_task}
use Rattle.ptg_base.specs.TaskLaws.{same_task-decides}
use Rattle.dep_shard.specs.Content.{Content, Ends, KeepsEntriesAndWritten, Uses}
use Rattle.term_core.specs.declared.trap.Trap.{Trap}
use Rattle.list_lemmas.specs.Counting.{as_number, weigh}
use Rattle.list_lemmas.proofs.Counts.{weigh-push}
use Rattle.shard_meaning.proofs.CallerLemmas.{numbers_at_most, some_runs, spare-trap}
use Rattle.work_board.specs.Records.{IsClean}
use Rattle.work_board.specs.Sends.{HasEnded, MayEnd, MayTrap}
use Rattle.work_board.specs.declared.record.PassRecord.{PassRecord}
use Rattle.table_rule.specs.Changes.{turn_left, with_own_end, with_turn, without_credit}
use Rattle.table_rule.specs.Live.{own_stamps}
use Rattle.shard_meaning.specs.Placing.{shard_of}
use Rattle.table_rule.specs.Plays.{HasName, Seated}
use Rattle.table_rule.specs.Records.{joined}
use Rattle.table_rule.proofs.CallerLemmas.{joined_parts, seen_reserve, seen_runs, seen_share, sound_moment}
use Rattle.flow_meaning.specs.Machine.{claim_count}
use Rattle.flow_meaning.proofs.CallerLemmas.{claim_member}
use Rattle.table_rule.specs.GivingBack.{MayGiveEnd}
use Rattle.dep_table.specs.declared.turn.Turn.{Turn}
use Rattle.dep_table.specs.Passes.{IsPassOf}
use Rattle.dep_table.specs.Tables.{id_of, job_of}
use Rattle.dep_table.specs.Turns.{IsTurnOf}
use Rattle.dep_table.specs.Views.{PassView, shown}
use Rattle.work_board.specs.Stamps.{StampedTask}

module _ (t : Turn) (v : PassRecord) (y z : Content) (h : IsTurnOf t v y z) (u : Task) (runs : v.running ≡ u ∷ []) where
  -- the shard of a task that runs counts it
  pub end_running : shard_of (job_of t.table.now).matched (job_of t.table.now).shards u ≡ t.shard → (d : Content) → d ≡ z → 0 < d.running
  end_running at d is =
      let j = job_of t.table.now in
      omega (
        arith,
        ap (λ (c : Content). c.running) is,
        h.same.running,
        some_runs j.matched j.given
            (shard_of j.matched j.shards) t.shard (joined h.seen.table.views) y (seen_share j t.shard v y h.seen) u at
            (seen_runs j t.shard v y h.seen u runs),
      )

  pub end_bound : shard_of (job_of t.table.now).matched (job_of t.table.now).shards u ≡ t.shard → (d : Content) → d ≡ z → d.ended < 1000000
  end_bound at d is =
      let j = job_of t.table.now in
      let r = joined_parts j h.seen.table h.seen.rule in
      omega (
        arith,
        end_running at d is,
        ap (λ (c : Content). c.running) is,
        ap (λ (c : Content). c.ended) is,
        h.same.running,
        h.same.ended,
        numbers_at_most j.matched j.given (shard_of j.matched j.shards) t.shard
            (joined h.seen.table.views) y (seen_share j t.shard v y h.seen) r.consistent r.sound,
      )

  stamped : 0 < own_stamps v u
  stamped = let s = h.stamp u runs in omega (
    arith,
    ap (λ l. weigh (λ (x : StampedTask). as_number (same_task u x.0)) l)
        s.is_last,
    weigh-push (λ (x : StampedTask). as_number (same_task u x.0)) s.earlier (u, t.pass.now.stamp),
    ap
        as_number ((same_task-decides u u).1 refl),
  )

  module _ (i : PassView) (is : i ≡ t.pass.now) where
    me0 : i.me.0 ≡ with_turn v t.shard y
    me0 = ap (λ (p : PassView). p.me.0) is ∙ ap (λ (m : Seated). m.0) h.me

    pub ends_task : shard_of (job_of t.table.now).matched (job_of t.table.now).shards u ≡ t.shard
        → MayEnd (job_of t.table.now).matched (job_of t.table.now).given u i.me.0 → (d w : Content) → d ≡ z → Ends d w
        → KeepsEntriesAndWritten d w → w.trapped ≡ d.trapped → Uses d.spare w.spare 0 None 0 0
        → MayGiveEnd (job_of t.table.now) t.shard (i.me.0, (t.shard, w) ∷ rest i.me.1)
    ends_task at may d w same ends kept trapped spares = record {
      task = u;
      at = at;
      stamped = subst (λ (p : PassRecord). 0 < own_stamps p u) (sym me0) stamped;
      how = inl (record {
        before = y;
        after = w;
        turn = record {
          slot = ap (λ l. (t.shard, w) ∷ l) (ap (λ (p : PassView). rest p.me.1) is ∙ ap (λ (m : Seated). rest m.1) h.me);
          turn = ap (λ (p : PassRecord). p.turns) me0 ∙ ap (λ l. (t.shard, y) ∷ l) h.clean.no_turn;
          named = subst HasName (sym me0) (omega (arith, h.one_name));
          credit = ap (λ (p : PassRecord). p.credit) me0 ∙ h.clean.no_credit;
        };
        may = may;
        ends = record {
          running = omega (arith, ends.running, ap (λ (c : Content). c.running) same, h.same.running);
          ended = omega (arith, ends.ended, ap (λ (c : Content). c.ended) same, h.same.ended);
        };
        kept = record {
          entries = kept.entries ∙ (ap (λ (c : Content). c.entries) same ∙ h.same.entries);
          written = kept.written ∙ (ap (λ (c : Content). c.written) same ∙ h.same.written);
          elems = kept.elems
              ∙ (ap (λ (c : Content). c.elems) same ∙ h.same.elems);
        };
        trapped = trapped ∙ (ap (λ (c : Content). c.trapped) same ∙ h.same.trapped);
        spares = let used = subst (λ (c : Content). Uses c.spare w.spare 0 None 0 0) same spares in
            record {
              entries = omega (arith, h.spares.entries, used.entries);
              tiles = λ k. omega
                  (arith, h.spares.tiles k, used.tiles k);
              writes = omega (arith, h.spares.writes, used.writes);
              traps = omega (arith, h.spares.traps, used.traps);
            };
      });
    }

    pub traps_task : (cause : Trap) → shard_of (job_of t.table.now).matched (job_of t.table.now).shards u ≡ t.shard
        → MayTrap (job_of t.table.now).matched (job_of t.table.now).given u cause i.me.0 → (d w : Content) → d ≡ z
        → Ends d w → KeepsEntriesAndWritten d w → w.trapped ≡ d.trapped ++ (u, cause) ∷ []
        → Uses d.spare w.spare 0 None 0 1
        → MayGiveEnd (job_of t.table.now) t.shard (i.me.0, (t.shard, w) ∷ rest i.me.1)
    traps_task cause at may d w same ends kept trapped spares = record {
      task = u;
      at = at;
      stamped = subst (λ (p : PassRecord). 0 < own_stamps p u) (sym me0) stamped;
      how = inr (record {
        cause = cause;
        before = y;
        after = w;
        turn = record {
          slot = ap (λ l. (t.shard, w) ∷ l) (ap (λ (p : PassView). rest p.me.1) is ∙ ap (λ (m : Seated). rest m.1) h.me);
          turn = ap (λ (p : PassRecord). p.turns) me0 ∙ ap (λ l. (t.shard, y) ∷ l) h.clean.no_turn;
          named = subst HasName (sym me0) (omega (arith, h.one_name));
          credit = ap (λ (p : PassRecord). p.credit) me0 ∙ h.clean.no_credit;
        };
        may = may;
        ends = record {
          running = omega (arith, ends.running, ap (λ (c : Content). c.running) same, h.same.running);
          ended = omega (arith, ends.ended, ap (λ (c : Content). c.ended) same, h.same.ended);
        };
        kept = record {
          entries = kept.entries ∙ (ap (λ (c : Content). c.entries) same ∙ h.same.entries);
          written = kept.written ∙ (ap (λ (c : Content). c.written) same ∙ h.same.written);
          elems = kept.elems
              ∙ (ap (λ (c : Content). c.elems) same ∙ h.same.elems);
        };
        trapped = trapped ∙ ap (λ l. l ++ (u, cause) ∷ []) (ap (λ (c : Content). c.trapped) same ∙ h.same.trapped);
        spares = let used = subst (λ (c : Content). Uses c.spare w.spare 0 None 0 1) same spares in
            record {
              entries = omega (arith, h.spares.entries, used.entries);
              tiles = λ k. omega
                  (arith, h.spares.tiles k, used.tiles k);
              writes = omega (arith, h.spares.writes, used.writes);
              traps = omega (arith, h.spares.traps, used.traps);
            };
      });
    }

    module _ (q : PassView) (r : List (ℕ × Content)) (me : q.me ≡ (without_credit (turn_left (with_own_end i.me.0)), r)) where
      is_final : shown q ≡ without_credit (turn_left (with_own_end (with_turn v t.shard y)))
      is_final = ap (λ (m : Seated). m.0) me ∙ ap (λ (p : PassRecord). without_credit (turn_left (with_own_end p))) me0

      same_credit : v.credit + 1 - 1 ≡ v.credit
      same_credit = omega arith

      pub end_pass : q.table ≡ i.table → r ≡ [] → IsPassOf (id_of t.table.now) q
      end_pass of empty = record {
        of = of ∙ (ap (λ (p : PassView). p.table) is ∙ h.of);
        clean = record {
          no_shard = ap (λ (m : Seated). m.1) me ∙ empty;
          clean = subst IsClean (sym is_final) (record { no_turn = h.clean.no_turn; no_credit = same_credit ∙ h.clean.no_credit; stamped = h.clean.stamped });
          one_name = ap (λ (p : PassRecord). length p.names) is_final ∙ h.one_name;
        };
        stamp = λ x some. absurd (nothing x (sym (ap (λ (p : PassRecord). p.running) is_final) ∙ some));
      }
        where
          nothing : (x : Task) → [] ≡ x ∷ [] → ⊥
          nothing x e = cc

      pub has_ended : HasEnded t.shard v (shown q)
      has_ended = subst (λ (p : PassRecord). HasEnded t.shard v p) (sym is_final) (record {
        shard = y;
        took = record { look = refl; looks = refl; last = refl };
        end = record {
          running = refl;
          done = record { claims = refl; stamps = refl; handed = refl; sends = refl };
          kept = record { names = refl; turns = refl; quiet = refl; halts = refl; credit = same_credit };
        };
      })

      pub end_last : (shown q).last ≡ (t.shard, y) ∷ []
      end_last = ap (λ (p : PassRecord). p.last) is_final

-- a preloaded shard has a row for a task that runs
pub trap_spare : (t : Turn) (v : PassRecord) (y z : Content) → IsTurnOf t v y z → (u : Task) → v.running ≡ u ∷ []
    → shard_of (job_of t.table.now).matched (job_of t.table.now).shards u ≡ t.shard
    → (job_of t.table.now).preloaded ≡ true → (d : Content) → d ≡ z → 0 < d.spare.traps
trap_spare t v y z h u runs at pre d is =
    let j = job_of t.table.now in
    let r = joined_parts j h.seen.table h.seen.rule in
    let sound = sound_moment j h.seen.table (joined h.seen.table.views) r in
    let own = seen_runs j t.shard v y h.seen u runs in
    let claimed : 0 < claim_count (joined h.seen.table.views).state u = omega (arith, own, sound.claimed u) in
    omega (
      arith,
      ap (λ (c : Content). c.spare.traps) is,
      h.spares.traps,
      spare-trap j.matched
          (shard_of j.matched j.shards) t.shard (joined h.seen.table.views) u
          (r.sound.claimed_have_all u (claim_member (joined h.seen.table.views).state u claimed)).task at claimed
          (omega (arith, own, sound.claimed u, r.sound.claimed_once u)) y (seen_reserve j t.shard v y h.seen pre),
    )
