-- What each call keeps of a world.
use Rattle.std.proofs.Common.{◌≡◌, ◌<◌, ◌≤◌, nat_eq, ℕ, List, [], length, refl, ap, sym, ◌∙◌, subst, inl, inr, Option}
use Rattle.std.proofs.Common.{Some, None, IfNone, cond, false, slice_get, arith}
use Rattle.std.proofs.lemmas.Bool.{cases_eq}
use Rattle.std.specs.Map.{lookup}
use Rattle.ptg_base.specs.Task.{Task}
use Rattle.plan_core.specs.declared.plan.Plan.{Plan}
use Rattle.coll_data.specs.Data.{Data}
use Rattle.coll_data.specs.WellMade.{IsWellMade}
use Rattle.plan_data.specs.Fit.{DataFit}
use Rattle.dep_iter.specs.Consistent.{IsConsistent}
use Rattle.dep_iter.specs.Tasks.{IsTask}
use Rattle.dep_shard.specs.Content.{Content, HasNoReady, IsBest}
use Rattle.flow_meaning.specs.Machine.{MayClaim}
use Rattle.shard_meaning.specs.Share.{IsShardOf}
use Rattle.shard_meaning.proofs.CallerLemmas.{home_below, ready_may, target_is_task, unchanged}
use Rattle.task_run.specs.Bench.{IsBenchOf, Laid}
use Rattle.rank_core.specs.declared.message.Message.{Message}
use Rattle.rank_core.specs.Sound.{IsSoundWorld}
use Rattle.rank_core.specs.World.{Deliver, WorldState, after_delivery, opening_world, rank_of, is_delivered}
use Rattle.rank_core.proofs.Worlds.{event_sound, opening_sound_world}
use Rattle.rank_core.specs.declared.mail.Mail.{Mail}
use Rattle.rank_core.specs.Changes.{StaysAt, TakesEdgeAt}
use Rattle.rank_core.specs.Keeping.{IsUnderWay, Keeps, idle_moment}
use Rattle.shard_calls.specs.Opened.{AreOpeningRanks}
use Rattle.shard_calls.specs.Taken.{MayTakeEdge}
use Rattle.rank_core.proofs.Delivering.{away, here, its_tile, mail_then, may, may_take_edge}
use Rattle.rank_core.proofs.Keeping.{opening_mail, opening_shares, ready_at}
use Rattle.list_lemmas.proofs.Places.{slice_get_there}

-- what follows from an `IfNone`
pub if_none : {A Q R : Type 0} (o : Option A) → (Q → R) → IfNone o Q → IfNone o R
if_none None f h = f h
if_none (Some x) f h = h

-- a world that was opened
pub new_keeps : (P : Plan) (G : Data) (n : ℕ) (ys : List Content) (w : WorldState) (laid : Laid) (mail : Mail)
    → IsConsistent P → DataFit P G → 0 < n → n ≤ 64 → AreOpeningRanks P n ys → w ≡ opening_world → IsBenchOf P laid
    → mail.under_way.entries ≡ [] → mail.sent ≡ 0 → Keeps P G w ys laid mail
new_keeps P G n ys w laid mail con fit some few ranks is bench none zero_sent = subst (λ v. Keeps P G v ys laid mail)
    (sym is) (record {
      consistent = con;
      fit = fit;
      some_ranks = omega (arith, ranks.count, some);
      ranks_at_most = omega (arith, ranks.count, few);
      sound = opening_sound_world P G (length ys);
      shares = opening_shares P G n ys ranks;
      bench = bench;
      mail = record {
        under_way = subst (IsUnderWay opening_world.machine opening_world.messages) (sym none) opening_mail;
        sent = zero_sent;
      };
    })

module _ (P : Plan) (G : Data) (w : WorldState) (old : List Content) (laid : Laid) (mail : Mail)
    (k : Keeps P G w old laid mail) where
  -- the rank of a task is one of the ranks
  pub rank_at : (t : Task) → (y : Content) × (slice_get old (rank_of P (length old) t) ≡ Some y)
  rank_at t = slice_get_there old (rank_of P (length old) t) (home_below P (length old) t k.some_ranks)

  -- nothing but spares has changed
  pub stays : (i : ℕ) (new : List Content) → i < length old → StaysAt i old new → Keeps P G w new laid mail
  stays i new near s = record {
    consistent = k.consistent;
    fit = k.fit;
    some_ranks = omega (arith, s.count, k.some_ranks);
    ranks_at_most = omega (arith, s.count, k.ranks_at_most);
    sound = subst (λ r. IsSoundWorld P G r w) (sym s.count) k.sound;
    shares = λ j z at. subst (λ r. IsShardOf P G (rank_of P r) j (idle_moment w.machine) z) (sym s.count)
        (share j z at);
    bench = k.bench;
    mail = k.mail;
  }
    where
      share : (j : ℕ) (z : Content) → slice_get new j ≡ Some z
          → IsShardOf P G (rank_of P (length old)) j (idle_moment w.machine) z
      share j z at = elim (cases_eq j i) [
        | inl same ↦
            let y = slice_get_there old j (omega (arith, same, near)) in
            let own = ap (slice_get old) (sym same) ∙ y.1 in
            let new_own = ap (slice_get new) (sym same) ∙ at in
            unchanged P G (rank_of P (length old)) j (idle_moment w.machine) y.0 z (s.here y.0 z own new_own)
            (k.shares j y.0 y.1)
        | inr other ↦ k.shares j z (sym (s.others j other) ∙ at)
      ]

  -- the best task of a rank may run, and none may if the rank has none
  pub best_may : (i : ℕ) (t : Task) → i < length old → ((y : Content) → slice_get old i ≡ Some y → IsBest y.entries t)
      → MayClaim P w.machine t × (rank_of P (length old) t ≡ i)
  best_may i t near best =
      let y = slice_get_there old i near in
      let b = best y.0 y.1 in
      let share = k.shares i y.0 y.1 in (
        ready_may P G (rank_of P (length old)) i (idle_moment w.machine) y.0 share t b.entry b.is b.ready,
        (share.only t b.entry b.is).1,
      )

  pub none_may : (i : ℕ) → i < length old → ((y : Content) → slice_get old i ≡ Some y → HasNoReady y.entries)
      → (t : Task) → rank_of P (length old) t ≡ i → MayClaim P w.machine t → ⊥
  none_may i near none t at may =
      let y = slice_get_there old i near in
      let e = ready_at P G w old k.some_ranks k.shares t i y.0 y.1 at may in
      none y.0 y.1 t e.0 e.1 e.2

  -- a message that is under way
  module _ (n : ℕ) (m : Message) (is : slice_get w.messages n ≡ Some m) (fresh : is_delivered w.machine m ≡ false) where
    pub target : IsTask P m.edge.to
    target = target_is_task P G k.consistent (rank_of P (length old)) (rank_of P (length old) m.edge.to)
        (idle_moment w.machine) k.sound.state m.edge (may P G k.consistent (length old) w k.sound n m is fresh)

    pub takes : IsWellMade G → (y : Content) → slice_get old (rank_of P (length old) m.edge.to) ≡ Some y
        → MayTakeEdge P m.edge m.tile y
    takes well y at =
        subst (λ o. MayTakeEdge P m.edge o y) (sym (its_tile P G k.consistent (length old) w k.sound n m is fresh))
        (may_take_edge P G k.consistent k.fit well (rank_of P (length old)) (rank_of P (length old) m.edge.to)
        (idle_moment w.machine) k.sound.state m.edge (may P G k.consistent (length old) w k.sound n m is fresh) refl
        y
        (k.shares (rank_of P (length old) m.edge.to) y at))

    pub delivered : (new : List Content) (letters : Mail) (v : WorldState) → v ≡ after_delivery w n
        → n < length w.messages → TakesEdgeAt P m (rank_of P (length old) m.edge.to) old new → letters.sent ≡ mail.sent
        → ((q : ℕ) → lookup (nat_eq q) letters.under_way.entries ≡ cond (nat_eq n q) None
        (lookup (nat_eq q) mail.under_way.entries)) → Keeps P G v new laid letters
    delivered new letters v now few t sent changes = subst (λ u. Keeps P G u new laid letters) (sym now) (record {
      consistent = k.consistent;
      fit = k.fit;
      some_ranks = omega (arith, t.count, k.some_ranks);
      ranks_at_most = omega (arith, t.count, k.ranks_at_most);
      sound = subst (λ r. IsSoundWorld P G r (after_delivery w n)) (sym t.count)
          (event_sound P G k.consistent (length old) w k.sound (Deliver n) few);
      shares = λ j z at. subst (λ r. IsShardOf P G (rank_of P r) j (idle_moment (after_delivery w n).machine) z)
          (sym t.count) (share j z at);
      bench = k.bench;
      mail = record {
        under_way = mail_then P G k.consistent (length old) w k.sound n m is fresh mail.under_way.entries
            letters.under_way.entries k.mail.under_way changes;
        sent = sent ∙ k.mail.sent;
      };
    })
      where
        share : (j : ℕ) (z : Content) → slice_get new j ≡ Some z
            → IsShardOf P G (rank_of P (length old)) j (idle_moment (after_delivery w n).machine) z
        share j z at = elim (cases_eq j (rank_of P (length old) m.edge.to)) [
          | inl same ↦
              let y = rank_at m.edge.to in
              let own = ap (slice_get new) (sym same) ∙ at in
              subst (λ i. IsShardOf P G (rank_of P (length old)) i (idle_moment (after_delivery w n).machine) z)
              (sym same)
              (here P G k.consistent (length old) w k.sound n m is fresh (rank_of P (length old) m.edge.to) y.0 z refl
              (t.here y.0 z y.1 own) (k.shares (rank_of P (length old) m.edge.to) y.0 y.1))
          | inr other ↦ away P G k.consistent (length old) w k.sound n m is fresh j z (λ e. other (sym e))
              (k.shares j z (sym (t.others j other) ∙ at))
        ]
