-- What a step changes of the rule: a step on a turn word, and a step on another word or on none.
use Rattle.std.proofs.Common.{◌≡◌, ℕ, ◌+◌, ◌*◌, ◌<◌, ◌≤◌, ◌≢◌, true, List, ◌∷◌, set, length, get_or, sym, refl, ap, ◌∙◌}
use Rattle.std.proofs.Common.{subst, arith, length-set, get_or-set_other}
use mathlib.Core.Option.{none, some}
use lib.ListN.{get_elem?}
use Rattle.ptg_base.specs.Lists.{IsIn}
use Rattle.dep_shard.specs.Content.{Content}
use Rattle.list_lemmas.specs.Counting.{as_number, weigh}
use Rattle.flow_meaning.specs.Sound.{IsSoundState}
use Rattle.shard_meaning.specs.Calm.{AreFinished, IsCalm}
use Rattle.shard_meaning.specs.Moment.{Moment}
use Rattle.work_board.specs.declared.record.PassRecord.{PassRecord}
use Rattle.table_rule.specs.declared.table_job.TableJob.{TableJob}
use Rattle.table_rule.specs.Live.{AreLive}
use Rattle.table_rule.specs.Owning.{AreOwned, OwnsWork}
use Rattle.table_rule.specs.Quiet.{IsQuieted, raised}
use Rattle.table_rule.specs.Records.{AreRecordsOf, Each}
use Rattle.table_rule.specs.Rule.{Parts, Reserve, Share, Table, WasHandedInputs}
use Rattle.table_rule.specs.Turns.{AreHeld, holds}
use Rattle.table_rule.specs.Words.{halt_word, live_word, stamp_word, turn_word}
use Rattle.table_rule.proofs.Handing.{handed_same}
use Rattle.table_rule.proofs.Naming.{same_names}
use Rattle.table_rule.proofs.Passes.{each_kept, each_set, same_records, same_weight}
use Rattle.table_rule.proofs.Turning.{Retunes, Slots, giving, held_after, in_slots_after, near_held, stay_else, stay_held, turns_after, turns_in}

abbrev pub board : List ℕ → Slots → List PassRecord → Table
board words slots vs = record { words = words; homes = slots; views = vs }

-- the passes after one of them has changed, and its names have not
pub owned_kept : (vs : List PassRecord) (id : ℕ) (v w : PassRecord) → get_elem? vs id ≡ some v → w.names ≡ v.names
    → OwnsWork w → AreOwned vs → AreOwned (set vs id w)
owned_kept vs id v w me names owns r = record {
  each = each_kept OwnsWork vs id w owns r.each;
  names = same_names vs (set vs id w) (λ f. same_weight vs id v w me (λ (u : PassRecord). weigh f u.names) (ap (weigh f) names)) r.names;
}

-- a step on a turn word: what it makes of the pass, of its shard and of all other shards
pub record Turning (j : TableJob) (s : Table) (id : ℕ) (v w : PassRecord) (k new : ℕ) (slot : mathlib.Core.Option.Option Content) (R R' : Moment) : Type 0 where
  pub records : AreRecordsOf R' (set s.views id w)
  pub sound : IsSoundState j.matched j.given R'.state
  pub finished : AreFinished j.matched j.given R'
  pub owns : OwnsWork w
  pub handed : WasHandedInputs j w
  pub names : w.names ≡ v.names
  pub halts : w.halts ≡ v.halts
  pub in_slots : new ≡ 0 → (y : Content) × (slot ≡ some y) × Share j R' k y
  pub others : (x : ℕ) (y : Content) → x ≢ k → Share j R x y → Share j R' x y
  pub held : (x : ℕ) (y : Content) → IsIn (x, y) w.turns → Share j R' x y
  pub calms : IsCalm j.matched R → IsCalm j.matched R'
  pub sees : w.quiet ≡ true → IsCalm j.matched R'
  pub live : AreLive j.matched R' (get_or s.words (live_word j.shards) 0) (get_or s.words (stamp_word j.shards) 0) (set s.views id w)
  pub spare_in_slots : j.preloaded ≡ true → new ≡ 0 → (y : Content) × (slot ≡ some y) × Reserve j R' k y
  pub spare_others : j.preloaded ≡ true → (x : ℕ) (y : Content) → x ≢ k → Reserve j R x y → Reserve j R' x y
  pub spare_held : j.preloaded ≡ true → (x : ℕ) (y : Content) → IsIn (x, y) w.turns → Reserve j R' x y

module _ (j : TableJob) (s : Table) (id : ℕ) (v w : PassRecord) (k new : ℕ) (slot : mathlib.Core.Option.Option Content) (R R' : Moment)
    (r : Parts j s R) (t : Retunes s.words s.homes s.views id v w k new slot) where
  other_word : (i : ℕ) → j.shards ≤ i → get_or (set s.words (turn_word k) new) (16 * i) 0 ≡ get_or s.words (16 * i) 0
  other_word i far = let near = t.near in let slots = r.slots in get_or-set_other s.words (turn_word k) (16 * i) new 0 (λ e. absurd (omega arith))

  pub turned : Turning j s id v w k new slot R R' → Parts j (board (set s.words (turn_word k) new) (set s.homes k slot) (set s.views id w)) R'
  turned g =
      let halt : get_or (set s.words (turn_word k) new) (halt_word j.shards) 0 ≡ get_or s.words (halt_word j.shards) 0 = other_word j.shards (omega arith) in
      let live : get_or (set s.words (turn_word k) new) (live_word j.shards) 0
      ≡ get_or s.words (live_word j.shards) 0 = other_word (j.shards + 1) (omega arith) in
      let stamp : get_or (set s.words (turn_word k) new) (stamp_word j.shards) 0
      ≡ get_or s.words (stamp_word j.shards) 0 = other_word (j.shards + 2) (omega arith) in
      let raises : weigh raised (set s.views id w) ≡ weigh raised s.views = same_weight s.views id v w t.me raised (ap as_number g.halts) in
      record {
        consistent = r.consistent;
        some_shards = r.some_shards;
        shards_at_most = r.shards_at_most;
        slots = length-set s.homes k slot ∙ r.slots;
        words = length-set s.words (turn_word k) new ∙ r.words;
        records = g.records;
        sound = g.sound;
        owned = owned_kept s.views id v w t.me g.names g.owns r.owned;
        handed = each_kept (WasHandedInputs j) s.views id w g.handed r.handed;
        finished = g.finished;
        in_slots = in_slots_after s.words s.homes s.views id v w k new slot t (Share j R) (Share j R') g.others g.in_slots r.in_slots;
        turns = turns_after s.words s.homes s.views id v w k new slot t r.turns;
        held = held_after s.words s.homes s.views id v w k new slot t (Share j R) (Share j R') g.others g.held r.held;
        quieted = record {
          calm = each_set (λ (u : PassRecord). u.quiet ≡ true → IsCalm j.matched R)
              (λ (u : PassRecord). u.quiet ≡ true → IsCalm j.matched R') s.views id w (λ i u ne e q is. g.calms (q is))
              g.sees r.quieted.calm;
          low = λ z. omega (arith, halt, raises, r.quieted.low);
          high = λ z. omega (arith, halt, raises, r.quieted.high);
        };
        live = subst (λ a. AreLive j.matched R' a (get_or (set s.words (turn_word k) new) (stamp_word j.shards) 0) (set s.views id w)) (sym live)
            (subst (λ a. AreLive j.matched R' (get_or s.words (live_word j.shards) 0) a (set s.views id w)) (sym stamp) g.live);
        reserved = λ pre. let old = r.reserved pre in record {
          halt = halt ∙ old.halt;
          in_slots = in_slots_after s.words s.homes s.views id v w k new slot t (Reserve j R) (Reserve j R')
              (g.spare_others pre) (g.spare_in_slots pre) old.in_slots;
          held = held_after s.words s.homes s.views id v w k new slot t (Reserve j R) (Reserve j R') (g.spare_others pre) (g.spare_held pre) old.held;
        };
      }

-- a turn is given back, with y in the shard
pub record Giving (j : TableJob) (s : Table) (id : ℕ) (v w : PassRecord) (k : ℕ) (y : Content) (R R' : Moment) : Type 0 where
  pub records : AreRecordsOf R' (set s.views id w)
  pub sound : IsSoundState j.matched j.given R'.state
  pub finished : AreFinished j.matched j.given R'
  pub owns : OwnsWork w
  pub handed : WasHandedInputs j w
  pub names : w.names ≡ v.names
  pub halts : w.halts ≡ v.halts
  pub here : Share j R' k y
  pub others : (x : ℕ) (z : Content) → x ≢ k → Share j R x z → Share j R' x z
  pub calms : IsCalm j.matched R → IsCalm j.matched R'
  pub sees : w.quiet ≡ true → IsCalm j.matched R'
  pub live : AreLive j.matched R' (get_or s.words (live_word j.shards) 0) (get_or s.words (stamp_word j.shards) 0) (set s.views id w)
  pub spare_here : j.preloaded ≡ true → Reserve j R' k y
  pub spare_others : j.preloaded ≡ true → (x : ℕ) (z : Content) → x ≢ k → Reserve j R x z → Reserve j R' x z

module _ (j : TableJob) (s : Table) (id : ℕ) (v w : PassRecord) (k : ℕ) (y₀ y : Content) (more : List (ℕ × Content)) (R R' : Moment)
    (r : Parts j s R) (me : get_elem? s.views id ≡ some v) (turn : v.turns ≡ (k, y₀) ∷ more) (left : w.turns ≡ more) where
  pub given_back : Giving j s id v w k y R R' → Parts j (board (set s.words (turn_word k) 0) (set s.homes k (some y)) (set s.views id w)) R'
  given_back g =
      let near = near_held s.words s.homes s.views id v w k y₀ y more me r.turns turn in
      let stays : (x : ℕ) (z : Content) → IsIn (x, z) w.turns → IsIn (x, z) more = λ x z h. subst (IsIn (x, z)) left h in
      let apart : (x : ℕ) (z : Content) → IsIn (x, z) w.turns
      → x ≢ k = λ x z h. stay_else s.words s.homes s.views id v w k y₀ y more me r.turns turn x z (stays x z h) in
      let kept : (x : ℕ) (z : Content) → IsIn (x, z) w.turns
      → IsIn (x, z) v.turns = λ x z h. stay_held s.words s.homes s.views id v w k y₀ y more me r.turns turn x z
      (stays x z h) in
      turned j s id v w k 0 (some y) R R' r (giving s.words s.homes s.views id v w k y₀ y more me r.turns turn (omega (arith, r.words, r.slots)) left) (record {
        records = g.records;
        sound = g.sound;
        finished = g.finished;
        owns = g.owns;
        handed = g.handed;
        names = g.names;
        halts = g.halts;
        in_slots = λ _. (y, refl, g.here);
        others = g.others;
        held = λ x z h. g.others x z (apart x z h) (r.held id v me x z (kept x z h));
        calms = g.calms;
        sees = g.sees;
        live = g.live;
        spare_in_slots = λ pre _. (y, refl, g.spare_here pre);
        spare_others = g.spare_others;
        spare_held = λ pre x z h. g.spare_others pre x z (apart x z h) ((r.reserved pre).held id v me x z (kept x z h));
      })

-- a step on another word, or on none: the turn words, the slots and the moment stay
pub record Besides (j : TableJob) (s : Table) (words : List ℕ) (vs : List PassRecord) (R : Moment) : Type 0 where
  pub long : length words ≡ length s.words
  pub turn_words : (k : ℕ) → k < j.shards → get_or words (turn_word k) 0 ≡ get_or s.words (turn_word k) 0
  pub records : AreRecordsOf R vs
  pub owned : AreOwned vs
  pub handed : Each (WasHandedInputs j) vs
  pub holding : (k : ℕ) → weigh (holds k) vs ≡ weigh (holds k) s.views
  pub quieted : IsQuieted j.matched R (get_or words (halt_word j.shards) 0) vs
  pub live : AreLive j.matched R (get_or words (live_word j.shards) 0) (get_or words (stamp_word j.shards) 0) vs
  pub halt : j.preloaded ≡ true → get_or words (halt_word j.shards) 0 ≡ 0

pub beside : (j : TableJob) (s : Table) (words : List ℕ) (vs : List PassRecord) (R : Moment) → Parts j s R
    → ((Q : ℕ → Content → Type 0) → AreHeld Q s.views → AreHeld Q vs) → Besides j s words vs R
    → Parts j (board words s.homes vs) R
beside j s words vs R r keeps b =
    let near : (k : ℕ) → k < length s.homes → k < j.shards = λ k l. omega (arith, r.slots) in
    record {
      consistent = r.consistent;
      some_shards = r.some_shards;
      shards_at_most = r.shards_at_most;
      slots = r.slots;
      words = b.long ∙ r.words;
      records = b.records;
      sound = r.sound;
      owned = b.owned;
      handed = b.handed;
      finished = r.finished;
      in_slots = λ k l z. r.in_slots k l (sym (b.turn_words k (near k l)) ∙ z);
      turns = record {
        counted = λ k l. b.holding k ∙ (r.turns.counted k l ∙ sym (b.turn_words k (near k l)));
        single = λ k l. omega (arith, b.turn_words k (near k l), r.turns.single k l);
        out = λ k l z. r.turns.out k l (sym (b.turn_words k (near k l)) ∙ z);
        of_shards = keeps (λ k y. k < length s.homes) r.turns.of_shards;
      };
      held = keeps (Share j R) r.held;
      quieted = b.quieted;
      live = b.live;
      reserved = λ pre. let old = r.reserved pre in record {
        halt = b.halt pre;
        in_slots = λ k l z. old.in_slots k l (sym (b.turn_words k (near k l)) ∙ z);
        held = keeps (Reserve j R) old.held;
      };
    }

-- the record of one pass changes, and its lists do not but for its stamps
pub record Aside (j : TableJob) (s : Table) (id : ℕ) (v w : PassRecord) (words : List ℕ) (R : Moment) : Type 0 where
  pub me : get_elem? s.views id ≡ some v
  pub claims : w.claims ≡ v.claims
  pub sends : w.sends ≡ v.sends
  pub running : w.running ≡ v.running
  pub handed : w.handed ≡ v.handed
  pub names : w.names ≡ v.names
  pub turns : w.turns ≡ v.turns
  pub owns : OwnsWork w
  pub long : length words ≡ length s.words
  pub turn_words : (k : ℕ) → k < j.shards → get_or words (turn_word k) 0 ≡ get_or s.words (turn_word k) 0
  pub quieted : IsQuieted j.matched R (get_or words (halt_word j.shards) 0) (set s.views id w)
  pub live : AreLive j.matched R (get_or words (live_word j.shards) 0) (get_or words (stamp_word j.shards) 0) (set s.views id w)
  pub halt : j.preloaded ≡ true → get_or words (halt_word j.shards) 0 ≡ 0

pub aside : (j : TableJob) (s : Table) (id : ℕ) (v w : PassRecord) (words : List ℕ) (R : Moment) → Parts j s R
    → Aside j s id v w words R → Parts j (board words s.homes (set s.views id w)) R
aside j s id v w words R r a = beside j s words (set s.views id w) R r
    (λ Q old. each_kept (λ (u : PassRecord). (k : ℕ) (y : Content) → IsIn (k, y) u.turns → Q k y) s.views id w
    (λ k y h. old id v a.me k y (subst (IsIn (k, y)) a.turns h)) old)
    (record {
      long = a.long;
      turn_words = a.turn_words;
      records = same_records s.views id v w a.me R a.claims a.sends a.running r.records;
      owned = owned_kept s.views id v w a.me a.names a.owns r.owned;
      handed = each_kept (WasHandedInputs j) s.views id w
          (handed_same j.matched j.given v.claims w.claims v.handed w.handed a.claims a.handed (r.handed id v a.me)) r.handed;
      holding = λ k. same_weight s.views id v w a.me (holds k) (ap (turns_in k) a.turns);
      quieted = a.quieted;
      live = a.live;
      halt = a.halt;
    })
