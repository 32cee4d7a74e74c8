-- A claim on a turn: what allows it, and the pass after it.
use Rattle.std.proofs.Common.{◌≡◌, ℕ, ◌<◌, List, [], ◌∷◌, ◌++◌, length, sym, ap, ◌∙◌, subst, refl, arith, inl, inr, Some}
use Rattle.list_lemmas.proofs.Members.{IsIn-append_left, IsIn-append_right, from_append}
use Rattle.ptg_base.specs.Entry.{Entry, FlowTile}
use Rattle.ptg_base.specs.Task.{Task}
use Rattle.ptg_base.specs.TaskComparing.{same_task}
use Rattle.dep_shard.specs.Content.{Content, Takes, entry_in, entry_of, HasNoReadyOf}
use Rattle.list_lemmas.specs.Counting.{as_number}
use Rattle.shard_meaning.proofs.CallerLemmas.{numbers_with_entry, ready_may}
use Rattle.work_board.specs.Claims.{FoundGone, HasClaimed, MayStart}
use Rattle.work_board.specs.Records.{IsClean}
use Rattle.work_board.specs.declared.record.PassRecord.{PassRecord}
use Rattle.table_rule.specs.Changes.{turn_left, with_own_claim, with_stamp, with_turn}
use Rattle.table_rule.specs.Live.{own_claims, own_stamps}
use Rattle.shard_meaning.specs.Placing.{shard_of}
use Rattle.table_rule.specs.Plays.{Seated}
use Rattle.table_rule.specs.Records.{joined}
use Rattle.table_rule.proofs.CallerLemmas.{joined_parts, seen_share, term_le}
use Rattle.dep_table.specs.declared.turn.Turn.{Turn}
use Rattle.dep_table.specs.Passes.{IsPassOf}
use Rattle.dep_table.specs.Tables.{id_of, job_of}
use Rattle.dep_table.specs.Turns.{IsTurnOf}
use Rattle.dep_table.specs.Views.{PassView, shown}

abbrev content_at : Content → List (ℕ × Content) → Content
content_at y [] = y
content_at y (x ∷ xs) = x.1

-- the shard that a pass was lent is the one that it holds
pub held_is : (t : Turn) (v : PassRecord) (y z : Content) → IsTurnOf t v y z → (i : PassView) → i ≡ t.pass.now
    → (k : ℕ) (d : Content) (r : List (ℕ × Content)) → i.me.1 ≡ (k, d) ∷ r → d ≡ z
held_is t v y z h i is k d r lent = ap (content_at z) (sym lent ∙ ap (λ (p : PassView). p.me.1) is ∙ ap (λ (m : Seated). m.1) h.me)

-- if a task has an entry, its shard runs fewer tasks than a job may have
pub entry_numbers : (t : Turn) (v : PassRecord) (y z : Content) → IsTurnOf t v y z → (d : Content) → d ≡ z
    → (u : Task) (e : Entry) → entry_of d u ≡ Some e → d.running < 1000000
entry_numbers t v y z h d is u e at =
    let j = job_of t.table.now in
    let r = joined_parts j h.seen.table h.seen.rule in
    let there : entry_of y u ≡ Some e = ap (λ l. entry_in l u) (sym h.same.entries ∙ ap (λ (c : Content). c.entries) (sym is)) ∙ at in
    omega (
      arith,
      ap (λ (c : Content). c.running) is,
      h.same.running,
      numbers_with_entry j.matched j.given
          (shard_of j.matched j.shards) t.shard (joined h.seen.table.views) y (seen_share j t.shard v y h.seen)
          r.consistent r.sound u e there,
    )

-- a task with a ready entry has no stamp
pub unstamped : (t : Turn) (v : PassRecord) (y z : Content) → IsTurnOf t v y z → (d w : Content) → d ≡ z
    → (u : Task) (tiles : List FlowTile) → Takes d w u tiles → own_stamps v u ≡ 0
unstamped t v y z h d w is u tiles takes =
    let j = job_of t.table.now in
    let r = joined_parts j h.seen.table h.seen.rule in
    let there : entry_of y u ≡ Some takes.had.entry = ap (λ l. entry_in l u) (sym h.same.entries ∙ ap (λ (c : Content). c.entries) (sym is)) ∙ takes.had.is in
    let may = ready_may j.matched j.given (shard_of j.matched j.shards) t.shard (joined h.seen.table.views) y
    (seen_share j t.shard v y h.seen) u takes.had.entry there takes.had.ready in
    omega (
      arith,
      may.unclaimed,
      r.records.claims (λ x. as_number (same_task u x)),
      term_le
          (λ (p : PassRecord). own_claims p u) h.seen.table.views h.seen.id v h.seen.mine,
      (r.live.each h.seen.id v h.seen.mine).stamps u,
    )

module _ (t : Turn) (v : PassRecord) (y z : Content) (h : IsTurnOf t v y z) (i q : PassView) (is : i ≡ t.pass.now) where
  me0 : i.me.0 ≡ with_turn v t.shard y
  me0 = ap (λ (p : PassView). p.me.0) is ∙ ap (λ (m : Seated). m.0) h.me

  -- the task had no ready entry
  pub gone : (d : Content) → d ≡ z → (u : Task) → HasNoReadyOf d u → (r : List (ℕ × Content)) → q.me ≡ (turn_left i.me.0, r) → FoundGone t.shard u v (shown q)
  gone d same u none r me = subst (λ (p : PassRecord). FoundGone t.shard u v p) (sym (ap (λ (m : Seated). m.0) me ∙ ap turn_left me0)) (record {
    shard = y;
    took = record { look = refl; looks = refl; last = refl };
    gone = λ e at ready. none e (ap (λ l. entry_in l u) (ap (λ (c : Content). c.entries) same ∙ h.same.entries) ∙ at) ready;
    still = record {
      kept = record { names = refl; turns = refl; quiet = refl; halts = refl; credit = refl };
      done = record { claims = refl; stamps = refl; handed = refl; sends = refl };
      running = refl;
    };
  })

  pub gone_last : (r : List (ℕ × Content)) → q.me ≡ (turn_left i.me.0, r) → (shown q).last ≡ (t.shard, y) ∷ []
  gone_last r me = ap (λ (m : Seated). m.0.last) me ∙ ap (λ (p : PassRecord). p.last) me0

  module _ (u : Task) (tiles : List FlowTile) (s : ℕ) (r : List (ℕ × Content))
      (me : q.me ≡ (with_stamp (turn_left (with_own_claim i.me.0 u tiles)) u s, r)) (idle : v.running ≡ []) where
    is_final : shown q ≡ with_stamp (turn_left (with_own_claim (with_turn v t.shard y) u tiles)) u s
    is_final = ap (λ (m : Seated). m.0) me ∙ ap (λ (p : PassRecord). with_stamp (turn_left (with_own_claim p u tiles)) u s) me0

    runs_it : v.running ++ u ∷ [] ≡ u ∷ []
    runs_it = ap (λ l. l ++ u ∷ []) idle

    clean : IsClean (with_stamp (turn_left (with_own_claim (with_turn v t.shard y) u tiles)) u s)
    clean = record {
      no_turn = h.clean.no_turn;
      no_credit = h.clean.no_credit;
      stamped = λ x i. elim (from_append x v.claims (u ∷ []) i) [
        | inl old ↦ let n = h.clean.stamped x old in (n.0, IsIn-append_left (x, n.0) v.stamps ((u, s) ∷ []) n.1)
        | inr new ↦ elim new [
          | inl e ↦ (s, IsIn-append_right (x, s) v.stamps ((u, s) ∷ []) (inl (ap (λ (a : Task). (a, s)) e)))
          | inr never ↦ absurd never
        ]
      ];
    }

    pub claim_pass : q.table ≡ i.table → q.stamp ≡ s → r ≡ [] → IsPassOf (id_of t.table.now) q
    claim_pass of stamp empty = record {
      of = of ∙ (ap (λ (p : PassView). p.table) is ∙ h.of);
      clean = record {
        no_shard = ap (λ (m : Seated). m.1) me
            ∙ empty;
        clean = subst IsClean (sym is_final) clean;
        one_name = ap (λ (p : PassRecord). length p.names)
            is_final ∙ h.one_name;
      };
      stamp = λ x runs. let one : u ∷ [] ≡ x ∷ [] = sym runs_it ∙ (sym (ap (λ (p : PassRecord). p.running) is_final) ∙ runs) in
          record { earlier = v.stamps; is_last = ap (λ (p : PassRecord). p.stamps) is_final ∙ (λ k. v.stamps ++ (head u (one k), sym stamp k) ∷ []) };
    }
      where
        head : Task → List Task → Task
        head x [] = x
        head x (a ∷ rest_of) = a

    pub claim_done : (d w : Content) → d ≡ z → Takes d w u tiles
        → MayStart (job_of t.table.now).matched (job_of t.table.now).given u tiles i.me.0
        → HasClaimed (job_of t.table.now).matched (job_of t.table.now).given t.shard u tiles v (shown q)
    claim_done d w same takes starts = subst (λ (p : PassRecord). HasClaimed (job_of t.table.now).matched
        (job_of t.table.now).given t.shard u tiles v p) (sym is_final) (record {
          shard = y;
          took = record { look = refl; looks = refl; last = refl };
          ready = record {
            entry = takes.had.entry;
            is = ap (λ l. entry_in l u)
                (sym h.same.entries ∙ ap (λ (c : Content). c.entries) (sym same))
                ∙ takes.had.is;
            ready = takes.had.ready;
            handed = takes.had.handed;
          };
          may_start = let m = subst (MayStart (job_of t.table.now).matched (job_of t.table.now).given u tiles) me0
              starts in record { task = m.task; run = m.run; unsent = m.unsent };
          added = record {
            stamp = s;
            claims = refl;
            handed = refl;
            stamps = refl;
            running = runs_it;
            sends = refl;
            kept = record { names = refl; turns = refl; quiet = refl; halts = refl; credit = refl };
          };
        })

    pub claim_last : (shown q).last ≡ (t.shard, y) ∷ []
    claim_last = ap (λ (p : PassRecord). p.last) is_final
