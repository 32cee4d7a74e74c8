-- A pass is split off another, and a pass is joined to another.
use Rattle.std.proofs.Common.{◌≡◌, ℕ, ◌+◌, ◌≤◌, Bool, true, false, ◌||◌, List, [], ◌∷◌, ◌++◌, set, length, get_or, sym, refl, ap, ◌∙◌, ⊎_elim, arith, eqb}
use Rattle.std.proofs.lemmas.List.{length-append}
use mathlib.Core.Option.{some}
use lib.ListN.{get_elem?}
use Rattle.atomic_table.specs.Table.{Joins, Splits}
use Rattle.atomic_table.proofs.Lists.{set_else}
use Rattle.ptg_base.specs.Lists.{IsIn}
use Rattle.ptg_base.specs.Task.{Task}
use Rattle.ptg_base.specs.TaskComparing.{same_task}
use Rattle.list_lemmas.proofs.Members.{IsIn-append_left, IsIn-append_right, from_append}
use Rattle.list_lemmas.proofs.Counts.{weigh-append}
use Rattle.std.proofs.lemmas.Bool.{or_cases}
use Rattle.dep_shard.specs.Content.{Content}
use Rattle.list_lemmas.specs.Counting.{as_number, weigh}
use Rattle.flow_meaning.specs.Machine.{SentItem, sender}
use Rattle.shard_meaning.specs.Calm.{IsCalm}
use Rattle.shard_meaning.specs.Moment.{Moment}
use Rattle.work_board.specs.declared.record.PassRecord.{PassRecord}
use Rattle.table_rule.specs.declared.table_job.TableJob.{TableJob}
use Rattle.table_rule.specs.Changes.{after_split, both, joined_away, new_pass, split_off}
use Rattle.table_rule.specs.Live.{AreLive, OwnsLives}
use Rattle.table_rule.specs.Names.{Name, names_after_split, names_split_off}
use Rattle.table_rule.specs.Owning.{OwnsWork}
use Rattle.table_rule.specs.Plays.{HasName}
use Rattle.table_rule.specs.Quiet.{raised}
use Rattle.table_rule.specs.Records.{AreRecordsOf, Each}
use Rattle.table_rule.specs.Rule.{Rule, WasHandedInputs}
use Rattle.table_rule.specs.Turns.{holds}
use Rattle.table_rule.specs.Words.{live_word, stamp_word}
use Rattle.table_rule.proofs.Handing.{handed_both, handed_none}
use Rattle.table_rule.proofs.Moving.{beside}
use Rattle.table_rule.proofs.Naming.{exact_mine, named_not_empty, same_names, split_names}
use Rattle.table_rule.proofs.Passes.{each_kept, each_snoc}
use Rattle.table_rule.proofs.Weighing.{terms_le, weigh-set}
use Rattle.work_board.specs.Stamps.{StampedTask}

-- a pass that has done nothing owns nothing
pub new_owns : (names : List Name) → OwnsWork (new_pass names)
new_owns names = record {
  running = λ f. omega arith;
  sends = λ x i. absurd i;
  nameless = λ e.
      record { claims = refl; sends = refl; running = refl; turns = refl; credit = refl; stamps = refl };
}

pub new_lives : (names : List Name) → OwnsLives (new_pass names)
new_lives names = record { credit = omega arith; stamps = λ t. omega arith; stamped = λ t. omega arith }

-- the list of passes changes, and no weight does
module _ (R : Moment) (old new : List PassRecord) where
  pub records_weigh : ((f : Task → ℕ) → weigh (λ (v : PassRecord). weigh f v.claims) new
      ≡ weigh (λ (v : PassRecord). weigh f v.claims) old) → ((f : SentItem → ℕ)
      → weigh (λ (v : PassRecord). weigh f v.sends) new ≡ weigh (λ (v : PassRecord). weigh f v.sends) old)
      → ((f : Task → ℕ) → weigh (λ (v : PassRecord). weigh f v.running) new
      ≡ weigh (λ (v : PassRecord). weigh f v.running) old) → AreRecordsOf R old → AreRecordsOf R new
  records_weigh claims sends running r = record {
    claims = λ f. r.claims f ∙ sym (claims f);
    sends = λ f. r.sends f
        ∙ sym (sends f);
    running = λ f. r.running f ∙ sym (running f);
  }

live_weighs : (j : TableJob) (R : Moment) (live stamp : ℕ) (old new : List PassRecord)
    → weigh (λ (v : PassRecord). v.credit) new ≡ weigh (λ (v : PassRecord). v.credit) old
    → ((f : StampedTask → ℕ) → weigh (λ (v : PassRecord). weigh f v.stamps) new
    ≡ weigh (λ (v : PassRecord). weigh f v.stamps) old) → Each OwnsLives new
    → AreLive j.matched R live stamp old → AreLive j.matched R live stamp new
live_weighs j R live stamp old new credits stamps each r = record {
  live = omega (arith, r.live, credits);
  each = each;
  stamps = r.stamps;
  theirs = λ f. r.theirs f
      ∙ sym (stamps f);
  drawn = r.drawn;
}

-- a pass with one name is split
pub splits : (j : TableJob) (id : ℕ) (v : PassRecord) (x : Name) → v.names ≡ x ∷ [] → Splits (Rule j) id v (after_split v) (split_off v)
splits j id v x names s rule me = let R : Moment = rule.0 in let r = rule.1 in
    let w : PassRecord = after_split v in
    let u : PassRecord = split_off v in
    let vs : List PassRecord = set s.views id w in
    let same : (f : PassRecord → ℕ) → f w ≡ f v → f u ≡ 0 → weigh f (vs ++ u ∷ [])
    ≡ weigh f s.views = λ f a b. omega (arith, weigh-append f vs (u ∷ []), weigh-set f s.views id v w me) in
    let o = r.owned.each id v me in
    let l = r.live.each id v me in (
      R,
      beside j s s.words (vs ++ u ∷ []) R r
          (λ Q old. each_snoc (λ (z : PassRecord). (k : ℕ) (y : Content) → IsIn (k, y) z.turns → Q k y) vs u
          (λ k y h. absurd h) (each_kept (λ (z : PassRecord). (k : ℕ) (y : Content) → IsIn (k, y) z.turns → Q k y)
          s.views id w (old id v me) old))
          (record {
            long = refl;
            turn_words = λ k near. refl;
            records = records_weigh R s.views (vs ++ u ∷ [])
                (λ f. same (λ (z : PassRecord). weigh f z.claims) refl refl)
                (λ f. same (λ (z : PassRecord). weigh f z.sends) refl refl)
                (λ f. same (λ (z : PassRecord). weigh f z.running) refl refl) r.records;
            owned = record {
              each = each_snoc OwnsWork vs u (new_owns (names_split_off v.names))
                  (each_kept OwnsWork s.views id w (record {
                    running = o.running;
                    sends = o.sends;
                    nameless = λ e.
                        absurd (still_named v.names x names e);
                  }) r.owned.each);
              names = split_names s.views (vs ++ u ∷ []) x.0 x.1 r.owned.names (exact_mine s.views id v x me names)
                  (λ f. let a : weigh f w.names ≡ f (x.0, x.1 + 1) + 0 = ap
                  (λ (l : List Name). weigh f (names_after_split l)) names in let b : weigh f v.names
                  ≡ f x + 0 = ap (weigh f) names in let c : weigh f u.names
                  ≡ f (x.0 ++ x.1 ∷ [], 0) + 0 = ap (λ (l : List Name). weigh f (names_split_off l)) names in
                  omega (
                    arith,
                    weigh-append (λ (z : PassRecord). weigh f z.names) vs (u ∷ []),
                    weigh-set
                        (λ (z : PassRecord). weigh f z.names) s.views id v w me,
                  ));
            };
            handed = each_snoc (WasHandedInputs j) vs u (handed_none j.matched j.given)
                (each_kept (WasHandedInputs j) s.views id w (let h = r.handed id v me in record { tasks = h.tasks; inputs = h.inputs }) r.handed);
            holding = λ k. same (holds k) refl refl;
            quieted = record {
              calm = each_snoc (λ (z : PassRecord). z.quiet ≡ true → IsCalm j.matched R) vs u (λ q. cc)
                  (each_kept (λ (z : PassRecord). z.quiet ≡ true → IsCalm j.matched R) s.views id w
                  (r.quieted.calm id v me) r.quieted.calm);
              low = λ z. r.quieted.low (omega (arith, same raised refl refl));
              high = λ z. r.quieted.high (omega (arith, same raised refl refl));
            };
            live = live_weighs j R (get_or s.words (live_word j.shards) 0) (get_or s.words (stamp_word j.shards) 0)
                s.views (vs ++ u ∷ []) (same (λ (z : PassRecord). z.credit) refl refl)
                (λ f. same (λ (z : PassRecord). weigh f z.stamps) refl refl)
                (each_snoc OwnsLives vs u (new_lives (names_split_off v.names))
                (each_kept OwnsLives s.views id w (record
                { credit = l.credit; stamps = l.stamps; stamped = l.stamped }) r.live.each)) r.live;
            halt = λ pre. (r.reserved pre).halt;
          }),
    )
  where
    still_named : (l : List Name) (x : Name) → l ≡ x ∷ [] → names_after_split l ≡ [] → ⊥
    still_named [] x e h = cc
    still_named (z ∷ zs) x e h = cc

pub splits_one : (j : TableJob) (id : ℕ) (v : PassRecord) → length v.names ≡ 1 → Splits (Rule j) id v (after_split v) (split_off v)
splits_one j id v one = by v.names refl one
  where
    by : (l : List Name) → v.names ≡ l → length l ≡ 1 → Splits (Rule j) id v (after_split v) (split_off v)
    by [] e h = absurd (omega arith)
    by (x ∷ []) e h = splits j id v x e
    by (x ∷ (y ∷ ys)) e h = absurd (omega arith)

one_or : (a b : Bool) → (as_number (a || b) ≤ as_number a + as_number b) × (as_number a ≤ as_number (a || b)) × (as_number b ≤ as_number (a || b))
one_or true true = (omega arith, omega arith, omega arith)
one_or true false = (omega arith, omega arith, omega arith)
one_or false true = (omega arith, omega arith, omega arith)
one_or false false = (omega arith, omega arith, omega arith)

-- a pass is joined to one that has a name
pub joins : (j : TableJob) (id : ℕ) (v : PassRecord) (other : ℕ) (u : PassRecord) → HasName v → Joins (Rule j) id v other u (both v u) joined_away
joins j id v other u named s rule me apart them = let R : Moment = rule.0 in let r = rule.1 in
    let w : PassRecord = both v u in
    let vs : List PassRecord = set s.views id w in
    let vs' : List PassRecord = set vs other joined_away in
    let sums : (f : PassRecord → ℕ) → weigh f vs' + f u + f v ≡ weigh f s.views + f w + f joined_away = λ f. omega
    (arith, weigh-set f s.views id v w me, weigh-set f vs other u joined_away them) in
    let same : (f : PassRecord → ℕ) → f w ≡ f v + f u → f joined_away ≡ 0 → weigh f vs' ≡ weigh f s.views = λ f a b. omega (arith, sums f) in
    let there : get_elem? s.views other ≡ some u = sym (set_else s.views id other w apart) ∙ them in
    let mine = r.owned.each id v me in
    let theirs = r.owned.each other u there in
    let a = r.live.each id v me in
    let b = r.live.each other u there in
    let flags = one_or v.halts u.halts in
    let twice : (P : PassRecord → Type 0) → P joined_away → P w → Each P s.views
    → Each P vs' = λ P empty here all. each_kept P vs other joined_away empty
    (each_kept P s.views id w here all) in (
      R,
      beside j s s.words vs' R r
          (λ Q old. twice (λ (z : PassRecord). (k : ℕ) (y : Content) → IsIn (k, y) z.turns → Q k y) (λ k y h. absurd h)
          (λ k y h. ⊎_elim (λ t. old id v me k y t) (λ t. old other u there k y t)
          (from_append (k, y) v.turns u.turns h)) old)
          (record {
            long = refl;
            turn_words = λ k near. refl;
            records = records_weigh R s.views vs' (λ f. same (λ (z : PassRecord). weigh f z.claims)
                (weigh-append f v.claims u.claims) refl) (λ f. same (λ (z : PassRecord). weigh f z.sends)
                (weigh-append f v.sends u.sends) refl) (λ f. same (λ (z : PassRecord). weigh f z.running)
                (weigh-append f v.running u.running) refl) r.records;
            owned = record {
              each = twice OwnsWork (new_owns []) (record {
                running = λ f. omega (arith, mine.running f, theirs.running f, weigh-append f v.running u.running, weigh-append f v.claims u.claims);
                sends = λ x i. ⊎_elim (λ t. IsIn-append_left (sender x.item) v.claims u.claims (mine.sends x t))
                    (λ t. IsIn-append_right (sender x.item) v.claims u.claims (theirs.sends x t))
                    (from_append x v.sends u.sends i);
                nameless = λ e. absurd (named_not_empty (v.names ++ u.names) (omega (arith, length-append v.names u.names)) e);
              }) r.owned.each;
              names = same_names s.views vs' (λ f. same (λ (z : PassRecord). weigh f z.names) (weigh-append f v.names u.names) refl) r.owned.names;
            };
            handed = twice (WasHandedInputs j) (handed_none j.matched j.given)
                (handed_both j.matched j.given v.claims u.claims v.handed u.handed (r.handed id v me) (r.handed other u there)) r.handed;
            holding = λ k. same (holds k) (weigh-append (λ (x : ℕ × Content). as_number (eqb x.0 k)) v.turns u.turns) refl;
            quieted = record {
              calm = twice (λ (z : PassRecord). z.quiet ≡ true → IsCalm j.matched R) (λ q. cc)
                  (λ q. ⊎_elim (r.quieted.calm id v me) (r.quieted.calm other u there) (or_cases v.quiet u.quiet q))
                  r.quieted.calm;
              low = λ z. r.quieted.low (omega (arith, sums raised, flags.1, flags.2, terms_le raised s.views id other v u apart me there));
              high = λ z. r.quieted.high (omega (arith, sums raised, flags.0));
            };
            live = live_weighs j R (get_or s.words (live_word j.shards) 0) (get_or s.words (stamp_word j.shards) 0)
                s.views vs' (same (λ (z : PassRecord). z.credit) refl refl)
                (λ f. same (λ (z : PassRecord). weigh f z.stamps) (weigh-append f v.stamps u.stamps) refl)
                (twice OwnsLives (new_lives []) (record {
                  credit = omega (arith, a.credit, b.credit, length-append v.running u.running, length-append v.claims u.claims, length-append v.turns u.turns);
                  stamps = λ t. omega (
                    arith,
                    a.stamps t,
                    b.stamps t,
                    weigh-append
                        (λ (x : StampedTask). as_number (same_task t x.0)) v.stamps u.stamps,
                    weigh-append
                        (λ x. as_number (same_task t x)) v.claims u.claims,
                  );
                  stamped = λ t. omega (
                    arith,
                    a.stamped t,
                    b.stamped t,
                    weigh-append
                        (λ (x : StampedTask). as_number (same_task t x.0)) v.stamps u.stamps,
                    weigh-append
                        (λ x. as_number (same_task t x)) v.claims u.claims,
                    weigh-append (λ x. as_number (same_task t x))
                        v.running u.running,
                  );
                }) r.live.each) r.live;
            halt = λ pre. (r.reserved pre).halt;
          }),
    )
