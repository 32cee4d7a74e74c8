-- Looks and turns: a turn is taken, or is found taken; the halt word is read.
use Rattle.std.proofs.Common.{◌≡◌, ℕ, ◌<◌, true, List, ◌∷◌, set, length, get_or, sym, refl, ap, ◌∙◌, subst, inl, ⊎_elim, arith, Some}
use mathlib.Core.Logic.{dite}
use mathlib.Core.Option.{none, some, some-injective}
use native.Mathlib.Decide.{ℕ_discrete}
use lib.ListN.{get_elem?}
use lib.Seq.{set-get_or}
use Rattle.atomic_table.specs.Table.{Allows, keeps, step, takes}
use Rattle.ptg_base.specs.Lists.{IsIn}
use Rattle.dep_shard.specs.Content.{Content}
use Rattle.list_lemmas.specs.Counting.{as_number, weigh}
use Rattle.shard_meaning.specs.Calm.{IsCalm}
use Rattle.shard_meaning.specs.Moment.{Moment}
use Rattle.work_board.specs.Word.{Halt, Turn, Word}
use Rattle.work_board.specs.declared.record.PassRecord.{PassRecord}
use Rattle.table_rule.specs.declared.table_job.TableJob.{TableJob}
use Rattle.table_rule.specs.Changes.{with_look, with_quiet, with_turn}
use Rattle.table_rule.specs.Live.{AreLive, OwnsLives}
use Rattle.table_rule.specs.Owning.{OwnsWork}
use Rattle.table_rule.specs.Plays.{HasName, ReadsHalt, Seated, TriesTurn}
use Rattle.table_rule.specs.Quiet.{IsQuieted, raised}
use Rattle.table_rule.specs.Rule.{Parts, Reserve, Rule, Share, Table}
use Rattle.table_rule.specs.Words.{halt_word, live_word, stamp_word, turn_word}
use Rattle.table_rule.proofs.Living.{live_kept}
use Rattle.table_rule.proofs.Moving.{aside, board, turned}
use Rattle.table_rule.proofs.Passes.{each_kept, same_records, same_weight}
use Rattle.table_rule.proofs.Turning.{taking}
use Rattle.table_rule.proofs.Naming.{named_not_empty}

-- a pass that has looked at a word, and maybe has seen quiet
module _ (j : TableJob) (s : Table) (id : ℕ) (v : PassRecord) (R : Moment) (r : Parts j s R) (me : get_elem? s.views id ≡ some v) where
  owns : OwnsWork v
  owns = r.owned.each id v me

  -- the part of the rule about halt and quiet
  pub quiet_kept : (w : PassRecord) → w.halts ≡ v.halts → (w.quiet ≡ true → IsCalm j.matched R)
      → IsQuieted j.matched R (get_or s.words (halt_word j.shards) 0) (set s.views id w)
  quiet_kept w halts sees =
      let raises : weigh raised (set s.views id w) ≡ weigh raised s.views = same_weight s.views id v w me raised (ap as_number halts) in
      record {
        calm = each_kept (λ (u : PassRecord). u.quiet ≡ true → IsCalm j.matched R) s.views id w sees r.quieted.calm;
        low = λ z. r.quieted.low (sym raises ∙ z);
        high = λ z. r.quieted.high (omega arith);
      }

  pub live_same : (w : PassRecord) → w.credit ≡ v.credit → w.stamps ≡ v.stamps → OwnsLives w
      → AreLive j.matched R (get_or s.words (live_word j.shards) 0) (get_or s.words (stamp_word j.shards) 0)
      (set s.views id w)
  live_same w credit stamps mine = live_kept j.matched R R (get_or s.words (live_word j.shards) 0)
      (get_or s.words (stamp_word j.shards) 0) s.views id v w me (omega (arith, credit)) mine stamps (λ x i. inl i)
      r.live

  pub looked : (word : Word) (found : ℕ) → Parts j (board s.words s.homes (set s.views id (with_look v word found))) R
  looked word found = let o = owns in aside j s id v (with_look v word found) s.words R r (record {
    me = me;
    claims = refl;
    sends = refl;
    running = refl;
    handed = refl;
    names = refl;
    turns = refl;
    owns = record {
      running = o.running;
      sends = o.sends;
      nameless = λ e. let n = o.nameless
          e in record {
            claims = n.claims;
            sends = n.sends;
            running = n.running;
            turns = n.turns;
            credit = n.credit;
            stamps = n.stamps;
          };
    };
    long = refl;
    turn_words = λ k l. refl;
    quieted = quiet_kept (with_look v word found) refl (r.quieted.calm id v me);
    live = let l = r.live.each id v me in live_same (with_look v word found) refl refl (record { credit = l.credit; stamps = l.stamps; stamped = l.stamped });
    halt = λ pre. (r.reserved pre).halt;
  })

  pub seen_quiet : (word : Word) (found : ℕ) → IsCalm j.matched R → Parts j (board s.words s.homes (set s.views id (with_quiet (with_look v word found)))) R
  seen_quiet word found calm = let o = owns in aside j s id v (with_quiet (with_look v word found)) s.words R r (record {
    me = me;
    claims = refl;
    sends = refl;
    running = refl;
    handed = refl;
    names = refl;
    turns = refl;
    owns = record {
      running = o.running;
      sends = o.sends;
      nameless = λ e. let n = o.nameless
          e in record {
            claims = n.claims;
            sends = n.sends;
            running = n.running;
            turns = n.turns;
            credit = n.credit;
            stamps = n.stamps;
          };
    };
    long = refl;
    turn_words = λ k l. refl;
    quieted = quiet_kept (with_quiet (with_look v word found)) refl (λ _. calm);
    live = let l = r.live.each id v me in live_same (with_quiet (with_look v word found)) refl refl
        (record { credit = l.credit; stamps = l.stamps; stamped = l.stamped });
    halt = λ pre. (r.reserved pre).halt;
  })

  -- the free turn of a shard is taken
  pub taken : (k : ℕ) (y : Content) → k < j.shards → HasName v → get_or s.words (turn_word k) 0 ≡ 0 → Share j R k y → (j.preloaded ≡ true → Reserve j R k y)
      → Parts j (board (set s.words (turn_word k) 1) (set s.homes k none) (set s.views id (with_turn v k y))) R
  taken k y near named free share spare = let o = owns in let l = r.live.each id v me in
      turned j s id v (with_turn v k y) k 1 none R R r (taking s.words s.homes s.views id v (with_turn v k y) k y
      (omega (arith, r.slots)) (omega (arith, r.words)) me r.turns free refl) (record {
        records = same_records s.views id v (with_turn v k y) me R refl refl refl r.records;
        sound = r.sound;
        finished = r.finished;
        owns = record { running = o.running; sends = o.sends; nameless = λ e. absurd (named_not_empty v.names named e) };
        handed = let h = r.handed id v me in record { tasks = h.tasks; inputs = h.inputs };
        names = refl;
        halts = refl;
        in_slots = λ z. absurd (omega arith);
        others = λ x z ne q. q;
        held = λ x z h. here_or_held (Share j R) x z share (r.held id v me) h;
        calms = λ c. c;
        sees = r.quieted.calm id v me;
        live = live_same (with_turn v k y) refl refl (record { credit = omega (arith, l.credit); stamps = l.stamps; stamped = l.stamped });
        spare_in_slots = λ pre z. absurd (omega arith);
        spare_others = λ pre x z ne q. q;
        spare_held = λ pre x z h. here_or_held (Reserve j R) x z (spare pre) ((r.reserved pre).held id v me) h;
      })
    where
      here_or_held : (Q : ℕ → Content → Type 0) (x : ℕ) (z : Content) → Q k y
          → ((x : ℕ) (z : Content) → IsIn (x, z) v.turns → Q x z) → IsIn (x, z) ((k, y) ∷ v.turns) → Q x z
      here_or_held Q x z q held h = ⊎_elim (λ (e : (x, z) ≡ (k, y)). subst (λ (p : ℕ × Content). Q p.0 p.1) (sym e) q) (λ t. held x z t) h

-- the turn of a shard is taken, or is found taken
pub takes_turn : (j : TableJob) (n id : ℕ) (m : Seated) (k : ℕ) → k < j.shards → HasName m.0
    → Allows (Rule j) n id m (turn_word k) (λ _. 1) (TriesTurn (Some j) k (step n (turn_word k) 1 0 none) m)
takes_turn j n id m k near named s rule wide me _ = let R : Moment = rule.0 in let r = rule.1 in let v : PassRecord = m.0 in
    dite (ℕ_discrete (get_or s.words (turn_word k) 0) 0)
    (λ free. let close : k < length s.homes = omega (arith, r.slots) in let home = r.in_slots k close free in let y : Content = home.0 in (
      with_turn v k y,
      takes k y,
      home.1,
      (R, taken j s id v R r me k y near named free home.2 (λ pre. same_home (Reserve j R k) s.homes y home.1 ((r.reserved pre).in_slots k close free))),
      (refl, (λ _. (y, refl, record { table = s; rule = rule; id = id; mine = me; home = home.1 })), λ held. absurd (held free)),
    ))
    (λ held. let found : ℕ = get_or s.words (turn_word k) 0 in
    let is_one : found ≡ 1 = omega (arith, r.turns.single k (omega (arith, r.slots))) in
    let same_words : set s.words (turn_word k) 1 ≡ s.words = ap (λ (x : ℕ). set s.words (turn_word k) x) (sym is_one) ∙ set-get_or s.words (turn_word k) 0 in (
      with_look v (Turn k) found,
      keeps,
      tt,
      subst (λ (words : List ℕ). Rule j (board words s.homes (set s.views id (with_look v (Turn k) found))))
          (sym same_words) (R, looked j s id v R r me (Turn k) found),
      (refl, (λ free. absurd (held free)), λ _. refl),
    ))
  where
    same_home : (Q : Content → Type 0) (slots : List (mathlib.Core.Option.Option Content)) (y : Content)
        → get_elem? slots k ≡ some (some y) → (z : Content) × (get_elem? slots k ≡ some (some z)) × Q z → Q y
    same_home Q slots y e t = subst Q (some-injective t.0 y (some-injective (some t.0) (some y) (sym t.1 ∙ e))) t.2

-- the halt word is read
pub reads_halt : (j : TableJob) (n id : ℕ) (m : Seated) → Allows (Rule j) n id m (halt_word j.shards) (λ x. x)
    (ReadsHalt (Some j) (step n (halt_word j.shards) 0 0 none) m)
reads_halt j n id m s rule wide me _ = let found : ℕ = get_or s.words (halt_word j.shards) 0 in (
  with_look m.0 Halt found,
  keeps,
  tt,
  subst (λ (words : List ℕ). Rule j (board words s.homes (set s.views id (with_look m.0 Halt found))))
      (sym (set-get_or s.words (halt_word j.shards) 0)) (rule.0, looked j s id m.0 rule.0 rule.1 me Halt found),
  (omega (arith, wide, rule.1.slots), refl, λ pre. (rule.1.reserved pre).halt),
)
