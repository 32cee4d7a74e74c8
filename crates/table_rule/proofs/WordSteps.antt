-- Steps on the halt word and on the live word: halt is raised, the live word is raised, lowered and read.
use Rattle.std.proofs.Common.{◌≡◌, ℕ, zero, suc, ◌+◌, ◌-◌, ◌%◌, ◌^◌, ◌<◌, ◌≤◌, true, false, List, [], ◌∷◌, set, length}
use Rattle.std.proofs.Common.{get_or, sym, refl, ◌∙◌, subst, arith, Some, ◌&&◌, eq-eqb, length-set, get_or-set_same}
use Rattle.std.proofs.Common.{get_or-set_other}
use mathlib.Core.Logic.{dite}
use mathlib.Core.Option.{none, some, some-ne-none}
use native.Mathlib.Decide.{ℕ_discrete}
use lib.ListN.{get_elem?}
use lib.Seq.{set-get_or}
use Rattle.atomic_table.specs.Table.{Allows, keeps, step}
use Rattle.atomic_table.proofs.Lists.{set_here}
use Rattle.ptg_base.specs.Task.{Task}
use Rattle.plan_core.specs.declared.plan.Plan.{Plan}
use Rattle.dep_iter.specs.Edges.{goal}
use Rattle.dep_iter.specs.Tasks.{all_tasks}
use Rattle.dep_iter.proofs.CallerLemmas.{listed}
use Rattle.flow_meaning.specs.Machine.{MayClaim, arrived, claim_count}
use Rattle.flow_meaning.specs.Table.{is_ready, ready_tasks}
use Rattle.list_lemmas.proofs.Counts.{count-some, weigh-one, length-filter}
use Rattle.shard_meaning.specs.Calm.{IsCalm}
use Rattle.shard_meaning.specs.Moment.{Moment}
use Rattle.work_board.specs.Word.{Live}
use Rattle.work_board.specs.declared.record.PassRecord.{PassRecord}
use Rattle.table_rule.specs.declared.table_job.TableJob.{TableJob}
use Rattle.table_rule.specs.Changes.{with_credit, with_halt, with_look, with_quiet, without_credit}
use Rattle.table_rule.specs.Live.{AreLive, OwnsLives}
use Rattle.table_rule.specs.Owning.{OwnsWork}
use Rattle.table_rule.specs.Plays.{HasName, LowersLive, RaisesHalt, RaisesLive, ReadsLive, Seated}
use Rattle.table_rule.specs.Quiet.{IsQuieted, raised}
use Rattle.table_rule.specs.Rule.{Parts, Rule, Table}
use Rattle.table_rule.specs.Words.{halt_word, live_word, stamp_word, turn_word}
use Rattle.table_rule.proofs.Living.{live_few, live_moved}
use Rattle.table_rule.proofs.Looking.{live_same, looked, quiet_kept, seen_quiet}
use Rattle.table_rule.proofs.Moving.{aside, board}
use Rattle.table_rule.proofs.Naming.{named_not_empty}
use Rattle.table_rule.proofs.Passes.{each_kept}
use Rattle.table_rule.proofs.Weighing.{term_le, weigh-set}

-- the halt word of a table that is not preloaded is raised
pub raises_halt : (j : TableJob) (n id : ℕ) (m : Seated) → j.preloaded ≡ false
    → Allows (Rule j) n id m (halt_word j.shards) (λ _. 1) (λ _. RaisesHalt (step n (halt_word j.shards) 1 0 none) m 1)
raises_halt j n id m late s rule wide me _ = let R : Moment = rule.0 in let r = rule.1 in let v : PassRecord = m.0 in
    let w : PassRecord = with_halt v in let o = r.owned.each id v me in let l = r.live.each id v me in
    let i : ℕ = halt_word j.shards in
    let here : get_or (set s.words i 1) i 0 ≡ 1 = get_or-set_same s.words i 1 0 (omega (arith, r.words)) in
    let live : get_or (set s.words i 1) (live_word j.shards) 0 ≡ get_or s.words (live_word j.shards)
    0 = get_or-set_other s.words i (live_word j.shards) 1 0 (λ e. absurd (omega arith)) in
    let stamp : get_or (set s.words i 1) (stamp_word j.shards) 0 ≡ get_or s.words (stamp_word j.shards)
    0 = get_or-set_other s.words i (stamp_word j.shards) 1 0 (λ e. absurd (omega arith)) in (
      w,
      keeps,
      tt,
      (
        R,
        aside j s id v w (set s.words i 1) R r (record {
          me = me;
          claims = refl;
          sends = refl;
          running = refl;
          handed = refl;
          names = refl;
          turns = refl;
          owns = record {
            running = o.running;
            sends = o.sends;
            nameless = λ e. let q = o.nameless
                e in record {
                  claims = q.claims;
                  sends = q.sends;
                  running = q.running;
                  turns = q.turns;
                  credit = q.credit;
                  stamps = q.stamps;
                };
          };
          long = length-set s.words i 1;
          turn_words = λ k near. get_or-set_other s.words i (turn_word k) 1 0 (λ e. absurd (omega arith));
          quieted = record {
            calm = each_kept (λ (u : PassRecord). u.quiet ≡ true → IsCalm j.matched R) s.views id w (r.quieted.calm id v me) r.quieted.calm;
            low = λ z. absurd (omega (arith, weigh-set raised s.views id v w me, term_le raised s.views id v me));
            high = λ z. omega (arith, here);
          };
          live = subst (λ a. AreLive j.matched R a (get_or (set s.words i 1) (stamp_word j.shards) 0) (set s.views id w)) (sym live)
              (subst (λ a. AreLive j.matched R (get_or s.words (live_word j.shards) 0) a (set s.views id w)) (sym stamp)
              (live_same j s id v R r me w refl refl (record
              { credit = l.credit; stamps = l.stamps; stamped = l.stamped })));
          halt = λ pre. let never : true ≡ false = sym pre ∙ late in cc;
        }),
      ),
      (omega (arith, wide, r.slots), refl),
    )

pub mod_up : (x : ℕ) → x + 1 < 2 ^ 64 → (x + 1) % 2 ^ 64 ≡ x + 1
mod_up x h = omega arith

mod_down : (x : ℕ) → 1 ≤ x → x < 2 ^ 64 → (x + (2 ^ 64 - 1)) % 2 ^ 64 ≡ x - 1
mod_down x h l = omega arith

-- how large the live word and the stamp word get
pub live_at_most : (j : TableJob) (s : Table) (R : Moment) → Parts j s R → get_or s.words (live_word j.shards) 0 ≤ length (all_tasks j.matched) + j.shards
live_at_most j s R r = omega (
  arith,
  live_few j.matched j.given R (get_or s.words (live_word j.shards) 0)
      (get_or s.words (stamp_word j.shards) 0) s.words s.homes s.views r.sound r.records r.live r.turns,
  r.slots,
)

live_small : (j : TableJob) (s : Table) (R : Moment) → Parts j s R → get_or s.words (live_word j.shards) 0 ≤ 1000256
live_small j s R r = omega (arith, live_at_most j s R r, r.consistent.tasks_at_most, r.shards_at_most)

-- a step on the live word: the credit of the pass changes as the word does
module _ (j : TableJob) (s : Table) (id : ℕ) (v w : PassRecord) (new : ℕ) (R : Moment) (r : Parts j s R) (me : get_elem? s.views id ≡ some v) where
  pub live_changed : new + v.credit ≡ get_or s.words (live_word j.shards) 0 + w.credit → w.claims ≡ v.claims
      → w.sends ≡ v.sends → w.running ≡ v.running → w.names ≡ v.names → w.turns ≡ v.turns → w.halts ≡ v.halts
      → w.quiet ≡ v.quiet → w.stamps ≡ v.stamps → w.handed ≡ v.handed → OwnsWork w → OwnsLives w
      → Parts j (board (set s.words (live_word j.shards) new) s.homes (set s.views id w)) R
  live_changed sum claims sends running names turns halts quiet stamps handed owns lives =
      let i : ℕ = live_word j.shards in
      let here : get_or (set s.words i new) i 0 ≡ new = get_or-set_same s.words i new 0 (omega (arith, r.words)) in
      let halt : get_or (set s.words i new) (halt_word j.shards) 0 ≡ get_or s.words (halt_word j.shards)
      0 = get_or-set_other s.words i (halt_word j.shards) new 0 (λ e. absurd (omega arith)) in
      let stamp : get_or (set s.words i new) (stamp_word j.shards) 0 ≡ get_or s.words (stamp_word j.shards)
      0 = get_or-set_other s.words i (stamp_word j.shards) new 0 (λ e. absurd (omega arith)) in
      aside j s id v w (set s.words i new) R r (record {
        me = me;
        claims = claims;
        sends = sends;
        running = running;
        handed = handed;
        names = names;
        turns = turns;
        owns = owns;
        long = length-set s.words i new;
        turn_words = λ k near. get_or-set_other s.words i (turn_word k) new 0 (λ e. absurd (omega arith));
        quieted = subst (λ a. IsQuieted j.matched R a (set s.views id w)) (sym halt)
            (quiet_kept j s id v R r me w halts (λ q. r.quieted.calm id v me (sym quiet ∙ q)));
        live = subst (λ a. AreLive j.matched R a (get_or (set s.words i new) (stamp_word j.shards) 0) (set s.views id w)) (sym here)
            (subst (λ a. AreLive j.matched R new a (set s.views id w)) (sym stamp)
            (live_moved j.matched R R (get_or s.words i 0) (get_or s.words (stamp_word j.shards) 0) s.views id v w
            me new sum lives stamps r.live));
        halt = λ pre. halt ∙ (r.reserved pre).halt;
      })

-- the live word is raised by a pass that holds more turns than it has credits
pub raises_live : (j : TableJob) (n id : ℕ) (m : Seated) → m.0.credit < length m.0.turns → HasName m.0
    → Allows (Rule j) n id m (live_word j.shards) (λ x. (x + 1) % 2 ^ 64)
    (RaisesLive (step n (live_word j.shards) 1 0 none) m)
raises_live j n id m room named s rule wide me _ = let R : Moment = rule.0 in let r = rule.1 in let v : PassRecord = m.0
    in let o = r.owned.each id v me in let l = r.live.each id v me in
    let old : ℕ = get_or s.words (live_word j.shards) 0 in
    let up : (old + 1) % 2 ^ 64 ≡ old + 1 = mod_up old (omega (arith, live_small j s R r)) in (
      with_credit v,
      keeps,
      tt,
      (
        R,
        live_changed j s id v (with_credit v) ((old + 1) % 2 ^ 64) R r me (omega (arith, up)) refl refl refl refl refl refl refl refl refl
            (record { running = o.running; sends = o.sends; nameless = λ e. absurd (named_not_empty v.names named e) })
            (record { credit = omega (arith, o.running (λ _. 1), weigh-one v.running, weigh-one v.claims); stamps = l.stamps; stamped = l.stamped }),
      ),
      refl,
    )

-- the live word is lowered by a pass that has a credit
pub lowers_live : (j : TableJob) (n id : ℕ) (m : Seated) → 0 < m.0.credit → HasName m.0
    → Allows (Rule j) n id m (live_word j.shards) (λ x. (x + (2 ^ 64 - 1)) % 2 ^ 64)
    (LowersLive (step n (live_word j.shards) 1 0 none) m)
lowers_live j n id m some_credit named s rule wide me _ = let R : Moment = rule.0 in let r = rule.1 in let v :
    PassRecord = m.0 in let o = r.owned.each id v me in let l = r.live.each id v me in
    let old : ℕ = get_or s.words (live_word j.shards) 0 in
    let part = term_le (λ (u : PassRecord). u.credit) s.views id v me in
    let some_live : 1 ≤ old = omega (arith, r.live.live) in
    let down : (old + (2 ^ 64 - 1)) % 2 ^ 64 ≡ old - 1 = mod_down old some_live (omega (arith, live_small j s R r)) in (
      without_credit v,
      keeps,
      tt,
      (
        R,
        live_changed j s id v (without_credit v) ((old + (2 ^ 64 - 1)) % 2 ^ 64) R r me (omega (arith, down)) refl refl refl refl refl refl refl refl refl
            (record { running = o.running; sends = o.sends; nameless = λ e. absurd (named_not_empty v.names named e) })
            (record { credit = omega (arith, l.credit); stamps = l.stamps; stamped = l.stamped }),
      ),
      refl,
    )

-- if the live word is 0, no task is ready or runs
calm_at_zero : (P : Plan) (R : Moment) (live stamp : ℕ) (vs : List PassRecord) → AreLive P R live stamp vs → live ≡ 0 → IsCalm P R
unfolding ready_tasks
calm_at_zero P R live stamp vs r zero_word = record {
  none_ready = λ t may. absurd (omega (arith, r.live, some_ready P R t may));
  none_runs = no_tasks R.running (omega (arith, r.live));
}
  where
    no_tasks : (l : List Task) → length l ≡ 0 → l ≡ []
    no_tasks [] h = refl
    no_tasks (x ∷ xs) h = absurd (omega arith)

    some_ready : (P : Plan) (R : Moment) (t : Task) → MayClaim P R.state t → 0 < length (ready_tasks P R.state)
    some_ready P R t may = omega (
      arith,
      length-filter (is_ready P R.state) (all_tasks P),
      count-some
          (is_ready P R.state) (all_tasks P) t ((listed P t).0 may.task)
          (λ i. eq-eqb (claim_count R.state t) 0 may.unclaimed i && eq-eqb (arrived P R.state t) (goal P t)
          may.all_arrived i),
    )

-- the live word is read, and 0 is quiet
pub reads_live : (j : TableJob) (n id : ℕ) (m : Seated) → Allows (Rule j) n id m (live_word j.shards) (λ x. x)
    (ReadsLive (Some j) (step n (live_word j.shards) 0 0 none) m)
reads_live j n id m s rule wide me _ = let R : Moment = rule.0 in let r = rule.1 in let v : PassRecord = m.0 in
    let found : ℕ = get_or s.words (live_word j.shards) 0 in
    let same : set s.words (live_word j.shards) found ≡ s.words = set-get_or s.words (live_word j.shards) 0 in
    dite (ℕ_discrete found 0)
    (λ none_left. let w : PassRecord = with_quiet (with_look v Live found) in
    let after : Rule j (board s.words s.homes (set s.views id w)) = (
      R,
      seen_quiet j s id v R r me Live found (calm_at_zero j.matched R found
          (get_or s.words (stamp_word j.shards) 0) s.views r.live none_left),
    ) in (
      w,
      keeps,
      tt,
      subst (λ (words : List ℕ). Rule j (board words s.homes (set s.views id w))) (sym same) after,
      (
        omega (arith, wide, r.slots),
        (λ _. (
          refl,
          record {
            table = board s.words s.homes (set s.views id w);
            rule = after;
            id = id;
            mine = set_here s.views id w (at_index_near s.views id v me);
          },
        )),
        λ nz. absurd
            (nz none_left),
      ),
    ))
    (λ more. (
      with_look v Live found,
      keeps,
      tt,
      subst (λ (words : List ℕ). Rule j (board words s.homes (set s.views id (with_look v Live found)))) (sym same) (R, looked j s id v R r me Live found),
      (omega (arith, wide, r.slots), (λ z. absurd (more z)), λ _. refl),
    ))
  where
    at_index_near : (vs : List PassRecord) (i : ℕ) (u : PassRecord) → get_elem? vs i ≡ some u → i < length vs
    at_index_near [] i u e = absurd (some-ne-none u (sym e))
    at_index_near (x ∷ xs) zero u e = omega arith
    at_index_near (x ∷ xs) (suc i) u e = omega (arith, at_index_near xs i u e)
