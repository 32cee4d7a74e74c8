-- A turn is given back with a claim.
use Rattle.std.proofs.Common.{◌≡◌, ℕ, List, [], ◌∷◌, get_or, sym, refl, ap, ◌∙◌, subst, inl, arith, Some, None}
use Rattle.std.proofs.lemmas.List.{length-append}
use mathlib.Core.Option.{none, some}
use lib.ListN.{get_elem?}
use Rattle.atomic_table.specs.Table.{Allows, gives, rest, step, stepped}
use Rattle.ptg_base.specs.Entry.{FlowTile}
use Rattle.ptg_base.specs.Task.{Task}
use Rattle.ptg_base.specs.TaskComparing.{same_task}
use Rattle.list_lemmas.proofs.Members.{IsIn-append_left}
use Rattle.list_lemmas.proofs.Counts.{weigh-one, weigh-push}
use Rattle.plan_core.specs.declared.plan.Plan.{Plan}
use Rattle.coll_data.specs.Data.{Data}
use Rattle.dep_shard.specs.Content.{Content, Takes, Uses}
use Rattle.flow_meaning.specs.Comparing.{same_item}
use Rattle.list_lemmas.specs.Counting.{as_number, weigh}
use Rattle.flow_meaning.specs.Machine.{MayClaim, SentItem, claim_count, send_count, sender}
use Rattle.flow_meaning.proofs.CallerLemmas.{claim_sound, item_sender}
use Rattle.shard_meaning.specs.Moment.{Moment, with_claim}
use Rattle.shard_meaning.specs.Share.{IsShardOf, Placement}
use Rattle.shard_meaning.proofs.CallerLemmas.{claim_away, claim_ends, claim_here, claim_inputs, finished-claim, ready-claim, ready_count, ready_may}
use Rattle.shard_meaning.proofs.CallerLemmas.{reserve-claim, reserve-claim_away, unclaimed_unsent}
use Rattle.work_board.specs.Claims.{MayStart}
use Rattle.work_board.specs.declared.record.PassRecord.{PassRecord}
use Rattle.table_rule.specs.declared.table_job.TableJob.{TableJob}
use Rattle.table_rule.specs.Changes.{turn_left, with_own_claim}
use Rattle.table_rule.specs.Live.{OwnsLives}
use Rattle.table_rule.specs.Owning.{OwnsWork}
use Rattle.shard_meaning.specs.Placing.{shard_of}
use Rattle.table_rule.specs.Plays.{GivesClaim, HasName, HasTurn, Seated}
use Rattle.table_rule.specs.Rule.{Parts, Rule, Table}
use Rattle.table_rule.specs.Words.{live_word, stamp_word, turn_word}
use Rattle.table_rule.proofs.Giving.{holds_turn}
use Rattle.table_rule.proofs.Handing.{handed_more}
use Rattle.table_rule.proofs.Living.{live_kept}
use Rattle.table_rule.proofs.Moving.{given_back}
use Rattle.table_rule.proofs.Naming.{named_not_empty}
use Rattle.table_rule.proofs.Passes.{claim_records}
use Rattle.table_rule.proofs.Weighing.{term_le}

-- the pass after the claim
claim_owns : (v : PassRecord) (t : Task) (tiles : List FlowTile) → HasName v → OwnsWork v
    → OwnsWork (turn_left (with_own_claim v t tiles))
claim_owns v t tiles named o = record {
  running = λ f. omega (arith, o.running f, weigh-push f v.running t, weigh-push f v.claims t);
  sends = λ x i. IsIn-append_left (sender x.item) v.claims (t ∷ []) (o.sends x i);
  nameless = λ e. absurd (named_not_empty v.names named e);
}

claim_lives : (v : PassRecord) (t : Task) (tiles : List FlowTile) (k : ℕ) (y₀ : Content) → v.credit ≡ 0
    → v.turns ≡ (k, y₀) ∷ [] → OwnsWork v → OwnsLives v → OwnsLives (turn_left (with_own_claim v t tiles))
claim_lives v t tiles k y₀ none_left turn o l = record {
  credit = omega (
    arith,
    none_left,
    o.running (λ _. 1),
    weigh-one v.running,
    weigh-one v.claims,
    length-append v.running
        (t ∷ []),
    length-append v.claims (t ∷ []),
  );
  stamps = λ u. omega (arith, l.stamps u, weigh-push (λ z. as_number (same_task u z)) v.claims t);
  stamped = λ u. omega (arith, l.stamped u, weigh-push (λ z. as_number (same_task u z)) v.claims t, weigh-push (λ z. as_number (same_task u z)) v.running t);
}

-- no pass has sent an item of a task that is not claimed
nothing_sent : (j : TableJob) (s : Table) (R : Moment) (id : ℕ) (v : PassRecord) (t : Task) (tiles : List FlowTile)
    (k : ℕ) (y₀ y : Content) → Parts j s R → get_elem? s.views id ≡ some v → Takes y₀ y t tiles
    → IsShardOf j.matched j.given (shard_of j.matched j.shards) k R y₀ → MayStart j.matched j.given t tiles v
nothing_sent j s R id v t tiles k y₀ y r me takes share = let P : Plan = j.matched in let G : Data = j.given in let of :
    Placement = shard_of j.matched j.shards in
    let may : MayClaim P R.state t = ready_may P G of k R y₀ share t takes.had.entry takes.had.is takes.had.ready in
    record {
      task = may.task;
      run = record {
        runs = claim_ends P G R r.consistent r.sound t may;
        inputs = claim_inputs P G of k R y₀ share r.consistent r.sound y t tiles takes;
      };
      unsent = λ i among. let none_sent : send_count R.state i ≡ 0 = unclaimed_unsent P G R.state r.sound i
          (ap (claim_count R.state) (item_sender P t i among) ∙ may.unclaimed) in
          omega (
            arith,
            none_sent,
            r.records.sends (λ (x : SentItem). as_number (same_item i x.item)),
            term_le
                (λ (u : PassRecord). weigh (λ (x : SentItem). as_number (same_item i x.item)) u.sends) s.views id v me,
          );
    }

-- the turn is given back with a claim, if the shard had a ready entry of the task
pub claims : (j : TableJob) (n id : ℕ) (m : Seated) (k : ℕ) (t : Task) (y₀ y : Content) (tiles : List FlowTile)
    → HasTurn m k y₀ y 0 → Takes y₀ y t tiles → Uses y₀.spare y.spare 0 None 0 0
    → Allows (Rule j) n id m (turn_word k) (λ _. 0) (λ _. GivesClaim (Some j) t tiles (step n (turn_word k) 0 0 none) m 0)
claims j n id m k t y₀ y tiles h takes uses s rule wide me _ = let P : Plan = j.matched in let G : Data = j.given in let
    of : Placement = shard_of j.matched j.shards in
    let R : Moment = rule.0 in let r = rule.1 in let v : PassRecord = m.0 in let w : PassRecord = turn_left (with_own_claim v t tiles) in
    let held = holds_turn m k y₀ y 0 h in
    let share = r.held id v me k y₀ held in
    let may : MayClaim P R.state t = ready_may P G of k R y₀ share t takes.had.entry takes.had.is takes.had.ready in
    let starts = nothing_sent j s R id v t tiles k y₀ y r me takes share in
    let at : of t ≡ k = (share.only t takes.had.entry takes.had.is).1 in (
      w,
      gives,
      tt,
      subst (λ (c : List (ℕ × Content)). Rule j (stepped s (turn_word k) 0 id c w gives)) (sym h.slot) (
        with_claim R t,
        given_back j s id v w k y₀ y [] R (with_claim R t) r me h.turn (ap rest h.turn) (record {
          records = claim_records s.views id v w me R t refl refl refl r.records;
          sound = claim_sound P G r.consistent R.state r.sound t may;
          finished = finished-claim P G R r.finished t;
          owns = claim_owns v t tiles h.named (r.owned.each id v me);
          handed = handed_more P G v.claims v.handed t tiles starts.run.inputs (r.handed id v me);
          names = refl;
          halts = refl;
          here = claim_here P G r.consistent of k R r.sound t y₀ y tiles at takes share;
          others = λ x z ne q. claim_away P G r.consistent of x R r.sound t z (λ e. ne (sym e ∙ at)) q;
          calms = λ c. absurd (c.none_ready t may);
          sees = λ q. absurd ((r.quieted.calm id v me q).none_ready t may);
          live = live_kept P R (with_claim R t) (get_or s.words (live_word j.shards) 0) (get_or s.words (stamp_word j.shards) 0) s.views id v w me
              (omega (arith, ready_count P R.state, ready_count P (with_claim R t).state, ready-claim P R t may, length-append R.running (t ∷ [])))
              (claim_lives v t tiles k y₀ h.credit h.turn (r.owned.each id v me) (r.live.each id v me)) refl (λ x i. inl i) r.live;
          spare_here = λ pre. reserve-claim P of k R t may y₀ y tiles takes uses ((r.reserved pre).held id v me k y₀ held);
          spare_others = λ pre x z ne q. reserve-claim_away P of x R t may z q;
        }),
      ),
      (refl, starts),
    )
