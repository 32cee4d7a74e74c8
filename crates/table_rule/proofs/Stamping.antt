-- A stamp is drawn for the running task of a pass.
use Rattle.std.proofs.Common.{◌≡◌, ℕ, ◌+◌, ◌%◌, ◌^◌, ◌<◌, ◌⊎◌, List, [], ◌∷◌, ◌++◌, set, get_or, sym, refl, ap, ◌∙◌}
use Rattle.std.proofs.Common.{subst, inl, inr, ⊎_elim, arith, eqb, eq-eqb, eqb-true, ne_eqb, length-set}
use Rattle.std.proofs.Common.{get_or-set_same, get_or-set_other}
use Rattle.std.proofs.lemmas.List.{length-append}
use mathlib.Core.Logic.{dite}
use mathlib.Core.Option.{none, some, some-injective}
use native.Mathlib.Decide.{ℕ_discrete}
use lib.ListN.{get_elem?}
use Rattle.atomic_table.specs.Table.{Allows, keeps, step}
use Rattle.ptg_base.specs.Lists.{IsIn}
use Rattle.ptg_base.specs.Task.{Task}
use Rattle.ptg_base.specs.TaskComparing.{same_task}
use Rattle.ptg_base.specs.TaskLaws.{same_task-decides}
use Rattle.ptg_base.specs.declared.edge.Edge.{Edge}
use Rattle.ptg_base.specs.declared.edge.Item.TheVariants as item
use Rattle.list_lemmas.proofs.Members.{IsIn-append_left, from_append}
use Rattle.list_lemmas.proofs.Truth.{by_test}
use Rattle.list_lemmas.proofs.Counts.{some_passes, weigh-push}
use Rattle.plan_core.specs.declared.plan.Plan.{Plan}
use Rattle.coll_data.specs.Data.{Data}
use Rattle.dep_iter.specs.Edges.{in_edges}
use Rattle.list_lemmas.specs.Counting.{as_number, count, weigh}
use Rattle.flow_meaning.specs.Machine.{claim_count, sender}
use Rattle.flow_meaning.specs.Sound.{IsSoundState}
use Rattle.flow_meaning.proofs.CallerLemmas.{claim_member, each_arrived, send_member}
use Rattle.shard_meaning.specs.Moment.{Moment}
use Rattle.work_board.specs.declared.record.PassRecord.{PassRecord}
use Rattle.table_rule.specs.declared.table_job.TableJob.{TableJob}
use Rattle.table_rule.specs.Changes.{with_stamp}
use Rattle.table_rule.specs.Live.{AreLive, AreStamps, OwnsLives, own_claims, own_stamps}
use Rattle.table_rule.specs.Plays.{DrawsStamp, HasName, Seated}
use Rattle.table_rule.specs.Quiet.{IsQuieted}
use Rattle.table_rule.specs.Records.{AreRecordsOf}
use Rattle.table_rule.specs.Rule.{Rule}
use Rattle.table_rule.specs.Words.{halt_word, live_word, stamp_word, turn_word}
use Rattle.table_rule.proofs.Living.{stamp_counts, stamp_of, stamps_few}
use Rattle.table_rule.proofs.Looking.{quiet_kept}
use Rattle.table_rule.proofs.Moving.{aside}
use Rattle.table_rule.proofs.Naming.{named_not_empty}
use Rattle.table_rule.proofs.Passes.{each_kept, same_weight}
use Rattle.table_rule.proofs.Weighing.{term_le, terms_le, weigh-set}
use Rattle.table_rule.proofs.WordSteps.{mod_up}
use Rattle.work_board.specs.Stamps.{StampedTask}

-- a running task of a pass that has no stamp yet
module _ (P : Plan) (G : Data) (R : Moment) (live stamp : ℕ) (vs : List PassRecord) (id : ℕ) (v : PassRecord) (t : Task)
    (sound : IsSoundState P G R.state) (records : AreRecordsOf R vs) (r : AreLive P R live stamp vs)
    (me : get_elem? vs id ≡ some v) (mine : 0 < own_claims v t) (none_yet : own_stamps v t ≡ 0) where
  -- a stamped task is claimed
  stamped_claimed : (x : StampedTask) → IsIn x r.stamps → 0 < claim_count R.state x.0
  stamped_claimed x i =
      let p = stamp_of r.stamps vs r.theirs x i in
      let u : PassRecord = p.1 in
      omega (
        arith,
        stamp_counts u x p.3,
        (r.each p.0 u p.2).stamps x.0,
        records.claims
            (λ z. as_number (same_task x.0 z)),
        term_le (λ (w : PassRecord). own_claims w x.0) vs p.0 u p.2,
      )

  -- no pass has drawn a stamp for the task
  unstamped : (s : ℕ) → IsIn (t, s) r.stamps → ⊥
  unstamped s i =
      let p = stamp_of r.stamps vs r.theirs (t, s) i in
      let u : PassRecord = p.1 in
      let theirs : 0 < own_stamps u t = stamp_counts u (t, s) p.3 in
      dite (ℕ_discrete p.0 id)
      (λ e. let is_v : u ≡ v = some-injective u v (sym p.2 ∙ (ap (λ k. get_elem? vs k) e ∙ me)) in absurd
      (omega (arith, theirs, ap (λ (w : PassRecord). own_stamps w t) is_v, none_yet)))
      (λ ne. absurd (omega (
        arith,
        theirs,
        (r.each p.0 u p.2).stamps t,
        terms_le (λ (w : PassRecord). own_claims w t) vs
            id p.0 v u ne me p.2,
        records.claims (λ z. as_number (same_task t z)),
        sound.claimed_once t,
      )))

  -- the source of an edge into a stamped task has a stamp
  source_stamped : (e : Edge) → IsIn e (in_edges P e.to) → 0 < claim_count R.state e.to → (s : ℕ) × IsIn (e.from, s) r.stamps
  source_stamped e among claimed =
      let fed = sound.claimed_have_all e.to (claim_member R.state e.to claimed) in
      let x = send_member R.state (item.Edge e) (each_arrived P R.state e.to fed.all_arrived e among) in
      let own = r.drawn.senders x.0 x.1 in
      (own.0, subst (λ i. IsIn (sender i, own.0) r.stamps) x.2 own.1)

  which : (x : StampedTask) → IsIn x (r.stamps ++ (t, stamp) ∷ []) → IsIn x r.stamps ⊎ (x ≡ (t, stamp))
  which x i = elim (from_append x r.stamps ((t, stamp) ∷ []) i) [
    | inl old ↦ inl old
    | inr new ↦ elim new [ inl e ↦ inr e | inr never ↦ absurd never ]
  ]

  drawn_now : AreStamps P R (r.stamps ++ (t, stamp) ∷ []) (stamp + 1)
  drawn_now = let d = r.drawn in record {
    drawn = omega (arith, length-append r.stamps ((t, stamp) ∷ []), d.drawn);
    differ = λ s. dite (ℕ_discrete stamp s)
        (λ e. omega (arith, weigh-push (λ (x : StampedTask). as_number (eqb x.1 s)) r.stamps (t, stamp), ap as_number (eq-eqb stamp s e), none_is s e))
        (λ ne. omega (arith, weigh-push (λ (x : StampedTask). as_number (eqb x.1 s)) r.stamps (t, stamp), ap as_number (ne_eqb stamp s ne), d.differ s));
    below = λ u s i. ⊎_elim (λ old. omega (arith, d.below u s old))
        (λ (e : (u, s) ≡ (t, stamp)). omega (arith, ap (λ (x : StampedTask). x.1) e)) (which (u, s) i);
    above_sources = λ e s q among a b. ⊎_elim
        (λ old_a. ⊎_elim (λ old_b. d.above_sources e s q among old_a old_b)
        (λ (new_b : (e.to, q) ≡ (t, stamp)). omega (
          arith,
          d.below e.from s old_a,
          ap (λ (x : StampedTask). x.1)
              new_b,
        )) (which (e.to, q) b))
        (λ (new_a : (e.from, s) ≡ (t, stamp)).
        let from_t : e.from ≡ t = ap (λ (x : StampedTask). x.0) new_a in
        let claimed : 0 < claim_count R.state e.to = ⊎_elim (λ old_b. stamped_claimed (e.to, q) old_b)
        (λ (new_b : (e.to, q) ≡ (t, stamp)). subst (λ (u : Task). 0 < claim_count R.state u)
        (sym (ap (λ (x : StampedTask). x.0) new_b)) claimed_t) (which (e.to, q) b) in
        let source = source_stamped e among claimed in
        absurd (unstamped source.0 (subst (λ (u : Task). IsIn (u, source.0) r.stamps) from_t source.1)))
        (which (e.from, s) a);
    senders = λ x i. let o = d.senders x i in (o.0, IsIn-append_left (sender x.item, o.0) r.stamps ((t, stamp) ∷ []) o.1);
  }
    where
      claimed_t : 0 < claim_count R.state t
      claimed_t = omega (arith, mine, records.claims (λ z. as_number (same_task t z)), term_le (λ (w : PassRecord). own_claims w t) vs id v me)

      none_is : (s : ℕ) → stamp ≡ s → count (λ (x : StampedTask). eqb x.1 s) r.stamps ≡ 0
      none_is s e = dite (ℕ_discrete (count (λ (x : StampedTask). eqb x.1 s) r.stamps) 0) (λ z. z)
          (λ nz. let p = some_passes (λ (x : StampedTask). eqb x.1 s) r.stamps
          (omega arith) in let x : StampedTask = p.0 in absurd
          (omega (arith, r.drawn.below x.0 x.1 p.1, eqb-true x.1 s p.2)))

  -- the stamps after the word was drawn
  pub live_stamped : AreLive P R live (stamp + 1) (set vs id (with_stamp v t stamp))
  live_stamped = let w : PassRecord = with_stamp v t stamp in record {
    live = omega (arith, r.live, same_weight vs id v w me (λ (u : PassRecord). u.credit) refl);
    each = each_kept OwnsLives vs id w own_lives r.each;
    stamps = r.stamps ++ (t, stamp) ∷ [];
    theirs = λ f. omega (
      arith,
      weigh-push f r.stamps (t, stamp),
      r.theirs f,
      weigh-set
          (λ (u : PassRecord). weigh f u.stamps) vs id v w me,
      weigh-push f v.stamps (t, stamp),
    );
    drawn = drawn_now;
  }
    where
      own_lives : OwnsLives (with_stamp v t stamp)
      own_lives = let l = r.each id v me in record {
        credit = l.credit;
        stamps = λ u. by_test (same_task u t)
            (λ q. let same : u ≡ t = (same_task-decides u t).0 q in omega (
              arith,
              weigh-push (λ (x : StampedTask). as_number (same_task u x.0)) v.stamps (t, stamp),
              ap as_number
                  q,
              ap (own_stamps v) same,
              ap (own_claims v) same,
              none_yet,
              mine,
            ))
            (λ q. omega (arith, weigh-push (λ (x : StampedTask). as_number (same_task u x.0)) v.stamps (t, stamp), ap as_number q, l.stamps u));
        stamped = λ u. omega (arith, weigh-push (λ (x : StampedTask). as_number (same_task u x.0)) v.stamps (t, stamp), l.stamped u);
      }

-- a stamp is drawn for the running task, which has none yet
pub draws_stamp : (j : TableJob) (n id : ℕ) (m : Seated) (t : Task) → m.0.running ≡ t ∷ [] → own_stamps m.0 t ≡ 0
    → HasName m.0 → Allows (Rule j) n id m (stamp_word j.shards) (λ x. (x + 1) % 2 ^ 64)
    (DrawsStamp t (step n (stamp_word j.shards) 1 0 none) m)
draws_stamp j n id m t runs none_yet named s rule wide me _ = let R : Moment = rule.0 in let r = rule.1 in let v :
    PassRecord = m.0 in let o = r.owned.each id v me in
    let i : ℕ = stamp_word j.shards in
    let old : ℕ = get_or s.words i 0 in
    let w : PassRecord = with_stamp v t old in
    let new : ℕ = (old + 1) % 2 ^ 64 in
    let mine : 0 < own_claims v t = omega (
      arith,
      o.running (λ u. as_number (same_task t u)),
      ap
          (weigh (λ u. as_number (same_task t u))) runs,
      ap as_number ((same_task-decides t t).1 refl),
    ) in
    let few = stamps_few j.matched j.given R (get_or s.words (live_word j.shards) 0) old s.words s.homes s.views r.sound r.records r.live in
    let up : new ≡ old + 1 = mod_up old (omega (arith, few, r.consistent.tasks_at_most)) in
    let here : get_or (set s.words i new) i 0 ≡ old + 1 = get_or-set_same s.words i new 0 (omega (arith, r.words)) ∙ up in
    let live : get_or (set s.words i new) (live_word j.shards) 0 ≡ get_or s.words (live_word j.shards)
    0 = get_or-set_other s.words i (live_word j.shards) new 0 (λ e. absurd (omega arith)) in
    let halt : get_or (set s.words i new) (halt_word j.shards) 0 ≡ get_or s.words (halt_word j.shards)
    0 = get_or-set_other s.words i (halt_word j.shards) new 0 (λ e. absurd (omega arith)) in (
      w,
      keeps,
      tt,
      (
        R,
        aside j s id v w (set s.words i new) R r (record {
          me = me;
          claims = refl;
          sends = refl;
          running = refl;
          handed = refl;
          names = refl;
          turns = refl;
          owns = record { running = o.running; sends = o.sends; nameless = λ e. absurd (named_not_empty v.names named e) };
          long = length-set s.words i new;
          turn_words = λ k near. get_or-set_other s.words i (turn_word k) new 0 (λ e. absurd (omega arith));
          quieted = subst (λ a. IsQuieted j.matched R a (set s.views id w)) (sym halt) (quiet_kept j s id v R r me w refl (r.quieted.calm id v me));
          live = subst (λ a. AreLive j.matched R a (get_or (set s.words i new) i 0) (set s.views id w)) (sym live)
              (subst (λ a. AreLive j.matched R (get_or s.words (live_word j.shards) 0) a (set s.views id w)) (sym here)
              (live_stamped j.matched j.given R (get_or s.words (live_word j.shards) 0) old s.views id v t r.sound r.records r.live me mine none_yet));
          halt = λ pre. halt ∙ (r.reserved pre).halt;
        }),
      ),
      refl,
    )
