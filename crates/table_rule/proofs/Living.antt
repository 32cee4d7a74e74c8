-- The live word and the stamps in a step that draws no stamp, and how large the two words get.
use Rattle.std.proofs.Common.{◌↔◌, IsTrue, ◌≡◌, ℕ, ◌+◌, ◌<◌, ◌≤◌, ◌⊎◌, Bool, true, ◌&&◌, List, [], ◌∷◌, map, set}
use Rattle.std.proofs.Common.{length, sym, refl, ap, ◌∙◌, subst, ⊎_elim, arith, eqb, eq-eqb, eqb-true}
use Rattle.std.specs.Cmp.{first_so, second_so}
use Rattle.std.specs.List.{flat_map}
use mathlib.Core.Logic.{dite}
use mathlib.Core.Option.{some}
use native.Mathlib.Decide.{ℕ_discrete}
use lib.ListN.{get_elem?}
use Rattle.ptg_base.specs.Lists.{IsIn}
use Rattle.ptg_base.specs.Task.{Task}
use Rattle.ptg_base.specs.TaskComparing.{same_task}
use Rattle.ptg_base.specs.TaskLaws.{same_task-decides}
use Rattle.plan_core.specs.declared.plan.Plan.{Plan}
use Rattle.coll_data.specs.Data.{Data}
use Rattle.dep_iter.specs.Tasks.{all_tasks}
use Rattle.dep_iter.proofs.CallerLemmas.{listed}
use Rattle.dep_shard.specs.Content.{Content}
use Rattle.list_lemmas.specs.Counting.{as_number, count, weigh}
use Rattle.flow_meaning.specs.Machine.{MachineState, SentItem, claim_count, sender}
use Rattle.flow_meaning.specs.Sound.{IsSoundState}
use Rattle.flow_meaning.specs.Table.{ready_tasks}
use Rattle.list_lemmas.proofs.Counts.{count-some, some_passes, weigh-one, weigh-flat_map, weigh-plus}
use Rattle.flow_meaning.proofs.CallerLemmas.{claim_member}
use Rattle.shard_meaning.specs.Moment.{Moment}
use Rattle.shard_meaning.proofs.CallerLemmas.{ready_at_most}
use Rattle.work_board.specs.declared.record.PassRecord.{PassRecord}
use Rattle.table_rule.specs.Live.{AreLive, OwnsLives, own_stamps}
use Rattle.table_rule.specs.Records.{AreRecordsOf}
use Rattle.table_rule.specs.Turns.{AreTurns, holds}
use Rattle.table_rule.proofs.Passes.{each_kept, same_weight}
use Rattle.table_rule.proofs.Weighing.{dominated, few_numbers, some_place, term_le, weigh-same, weigh-set, weigh_terms}
use Rattle.work_board.specs.Stamps.{StampedTask}

-- whether two stamps are the same
abbrev pub same_stamp : StampedTask → StampedTask → Bool
same_stamp a b = same_task a.0 b.0 && eqb a.1 b.1

same_stamp-one : (a b : StampedTask) → same_stamp a b ≡ true → a ≡ b
same_stamp-one a b h =
    let t : a.0 ≡ b.0 = (same_task-decides a.0 b.0).0 (first_so (same_task a.0 b.0) (eqb a.1 b.1) h) in
    let s : a.1 ≡ b.1 = eqb-true a.1 b.1 (second_so (same_task a.0 b.0) (eqb a.1 b.1) h) in
    λ i. (t i, s i)

same_stamp-itself : (a : StampedTask) → same_stamp a a ≡ true
same_stamp-itself a = ap (λ b. b && eqb a.1 a.1) ((same_task-decides a.0 a.0).1 refl) ∙ eq-eqb a.1 a.1 refl

pub same_stamp-decides : (a b : StampedTask) → IsTrue (same_stamp a b) ↔ (a ≡ b)
same_stamp-decides a b = (same_stamp-one a b, λ e. subst (λ c. same_stamp a c ≡ true) e (same_stamp-itself a))

-- the stamps of a pass are among those of all, and each of those is one of some pass
module _ (stamps : List StampedTask) (vs : List PassRecord) (theirs : (f : StampedTask → ℕ)
    → weigh f stamps ≡ weigh (λ (v : PassRecord). weigh f v.stamps) vs) where
  pub stamp_among : (id : ℕ) (v : PassRecord) → get_elem? vs id ≡ some v → (x : StampedTask) → IsIn x v.stamps → IsIn x stamps
  stamp_among id v me x i =
      let mine = count-some (same_stamp x) v.stamps x i (same_stamp-itself x) in
      let found = some_passes (same_stamp x) stamps (omega (
        arith,
        theirs (λ y. as_number (same_stamp x y)),
        term_le
            (λ (u : PassRecord). count (same_stamp x) u.stamps) vs id v me,
      )) in
      subst (λ y. IsIn y stamps) (sym (same_stamp-one x found.0 found.2)) found.1

  pub stamp_of : (x : StampedTask) → IsIn x stamps → (id : ℕ) × (v : PassRecord) × (get_elem? vs id ≡ some v) × IsIn x v.stamps
  stamp_of x i =
      let place = some_place (λ (u : PassRecord). count (same_stamp x) u.stamps) vs
      (omega (
        arith,
        theirs (λ y. as_number (same_stamp x y)),
        count-some (same_stamp x) stamps x i
            (same_stamp-itself x),
      )) in
      let v : PassRecord = place.1 in
      let found = some_passes (same_stamp x) v.stamps place.3 in
      (place.0, v, place.2, subst (λ y. IsIn y v.stamps) (sym (same_stamp-one x found.0 found.2)) found.1)

pub stamp_counts : (v : PassRecord) (x : StampedTask) → IsIn x v.stamps → 0 < own_stamps v x.0
stamp_counts v x i = count-some (λ (y : StampedTask). same_task x.0 y.0) v.stamps x i ((same_task-decides x.0 x.0).1 refl)

module _ (P : Plan) (R R' : Moment) (live stamp : ℕ) (vs : List PassRecord) (id : ℕ) (v w : PassRecord) (me : get_elem? vs id ≡ some v) where
  -- the two words stay, and the ready tasks, the running ones and the credits add up to the same
  pub live_kept : length (ready_tasks P R'.state) + length R'.running + w.credit ≡ length (ready_tasks P R.state) + length R.running + v.credit
      → OwnsLives w → w.stamps ≡ v.stamps → ((x : SentItem) → IsIn x R'.state.sends → IsIn x R.state.sends ⊎ ((s : ℕ) × IsIn (sender x.item, s) v.stamps))
      → AreLive P R live stamp vs → AreLive P R' live stamp (set vs id w)
  live_kept sum owns stamps senders r = record {
    live = omega (arith, r.live, sum, weigh-set (λ (u : PassRecord). u.credit) vs id v w me);
    each = each_kept OwnsLives vs id w owns r.each;
    stamps = r.stamps;
    theirs = λ f. r.theirs f ∙ sym (same_weight vs id v w me (λ (u : PassRecord). weigh f u.stamps) (ap (weigh f) stamps));
    drawn = record {
      drawn = r.drawn.drawn;
      differ = r.drawn.differ;
      below = r.drawn.below;
      above_sources = r.drawn.above_sources;
      senders = λ x i. ⊎_elim (λ old. r.drawn.senders x old)
          (λ (t : (s : ℕ) × IsIn (sender x.item, s) v.stamps).
          (t.0, stamp_among r.stamps vs r.theirs id v me (sender x.item, t.0) t.1)) (senders x i);
    };
  }

  -- the moment stays too, and the live word may change with the credit
  pub live_moved : (live' : ℕ) → live' + v.credit ≡ live + w.credit → OwnsLives w → w.stamps ≡ v.stamps
      → AreLive P R live stamp vs → AreLive P R live' stamp (set vs id w)
  live_moved live' sum owns stamps r = record {
    live = omega (arith, r.live, sum, weigh-set (λ (u : PassRecord). u.credit) vs id v w me, term_le (λ (u : PassRecord). u.credit) vs id v me);
    each = each_kept OwnsLives vs id w owns r.each;
    stamps = r.stamps;
    theirs = λ f. r.theirs f ∙ sym (same_weight vs id v w me (λ (u : PassRecord). weigh f u.stamps) (ap (weigh f) stamps));
    drawn = r.drawn;
  }

-- a task is claimed at most once, so there are at most as many claims as tasks
module _ (P : Plan) (G : Data) (S : MachineState) (sound : IsSoundState P G S) where
  one_task : (a b : Task) → same_task a b ≡ true → a ≡ b
  one_task a b h = (same_task-decides a b).0 h

  itself : (a : Task) → same_task a a ≡ true
  itself a = (same_task-decides a a).1 refl

  pub claims_among_tasks : (f : Task → ℕ) → weigh f S.claims ≤ weigh f (all_tasks P)
  claims_among_tasks f = dominated same_task one_task itself S.claims (all_tasks P) (λ t. dite (ℕ_discrete (claim_count S t) 0)
      (λ z. omega arith)
      (λ nz. let i = claim_member S t (omega arith) in omega (
        arith,
        sound.claimed_once t,
        count-some (same_task t) (all_tasks P) t
            ((listed P t).0 (sound.claimed_have_all t i).task) (itself t),
      ))) f

-- at most as many turns are held as there are shards
module _ (words : List ℕ) (slots : List (mathlib.Core.Option.Option Content)) (vs : List PassRecord) (r : AreTurns words slots vs) where
  numbers : List ℕ
  numbers = flat_map (λ (v : PassRecord). map (λ (x : ℕ × Content). x.0) v.turns) vs

  weigh-map : (f : ℕ → ℕ) (l : List (ℕ × Content)) → weigh f (map (λ (x : ℕ × Content). x.0) l) ≡ weigh (λ (x : ℕ × Content). f x.0) l
  weigh-map f [] = refl
  weigh-map f (x ∷ xs) = omega (arith, weigh-map f xs)

  numbers-weigh : (f : ℕ → ℕ) → weigh f numbers ≡ weigh (λ (v : PassRecord). weigh (λ (x : ℕ × Content). f x.0) v.turns) vs
  unfolding numbers
  numbers-weigh f = weigh-flat_map f (λ (v : PassRecord). map (λ (x : ℕ × Content). x.0) v.turns) vs
      ∙ weigh-same (λ (v : PassRecord). weigh f (map (λ (x : ℕ × Content). x.0) v.turns))
      (λ (v : PassRecord). weigh (λ (x : ℕ × Content). f x.0) v.turns) vs (λ v. weigh-map f v.turns)

  near_number : (k : ℕ) → IsIn k numbers → k < length slots
  near_number k i =
      let place = some_place (holds k) vs (omega (arith, numbers-weigh (λ x. as_number (eqb x k)), count-some (λ x. eqb x k) numbers k i (eq-eqb k k refl))) in
      let v : PassRecord = place.1 in
      let found = some_passes (λ (x : ℕ × Content). eqb x.0 k) v.turns place.3 in
      let x : ℕ × Content = found.0 in
      subst (λ n. n < length slots) (eqb-true x.0 k found.2) (r.of_shards place.0 v place.2 x.0 x.1 found.1)

  pub turns_few : weigh (λ (v : PassRecord). length v.turns) vs ≤ length slots
  turns_few = omega (
    arith,
    numbers-weigh (λ _. 1),
    weigh-one numbers,
    weigh-same (λ (v : PassRecord). weigh (λ (x : ℕ × Content). 1) v.turns) (λ (v : PassRecord). length v.turns) vs (λ v. weigh-one v.turns),
    few_numbers (length slots) numbers near_number (λ k l. omega (arith, numbers-weigh (λ x. as_number (eqb x k)), r.counted k l, r.single k l)),
  )

-- so the live word is at most the number of tasks and the number of shards together
module _ (P : Plan) (G : Data) (R : Moment) (live stamp : ℕ) (words : List ℕ) (slots : List (mathlib.Core.Option.Option Content)) (vs : List PassRecord)
    (sound : IsSoundState P G R.state) (records : AreRecordsOf R vs) (r : AreLive P R live stamp vs) where
  length_of : {A : Type 0} (g : PassRecord → List A) → weigh (λ v. weigh (λ _. 1) (g v)) vs ≡ weigh (λ v. length (g v)) vs
  length_of g = weigh-same (λ v. weigh (λ _. 1) (g v)) (λ v. length (g v)) vs (λ v. weigh-one (g v))

  pub live_few : AreTurns words slots vs → live ≤ length (all_tasks P) + length slots
  live_few turns =
      let each = weigh_terms (λ (v : PassRecord). v.credit + length v.running)
      (λ (v : PassRecord). length v.claims + length v.turns) vs (λ i v e. (r.each i v e).credit) in
      omega (
        arith,
        r.live,
        each,
        weigh-plus (λ (v : PassRecord). v.credit) (λ (v : PassRecord). length v.running) vs,
        weigh-plus (λ (v : PassRecord). length v.claims) (λ (v : PassRecord). length v.turns) vs,
        records.running (λ _. 1),
        weigh-one R.running,
        length_of (λ (v : PassRecord). v.running),
        records.claims (λ _. 1),
        weigh-one R.state.claims,
        length_of (λ (v : PassRecord). v.claims),
        turns_few words slots vs turns,
        ready_at_most P G R.state sound,
      )

  -- and the stamp word is at most the number of tasks
  pub stamps_few : stamp ≤ length (all_tasks P)
  stamps_few = omega (
    arith,
    r.drawn.drawn,
    weigh-one r.stamps,
    r.theirs (λ _. 1),
    weigh_terms (λ (v : PassRecord). weigh (λ _. 1) v.stamps) (λ (v : PassRecord). weigh (λ _. 1) v.claims) vs (λ i v e. own_few v (r.each i v e)),
    records.claims (λ _. 1),
    claims_among_tasks P G R.state sound (λ _. 1),
    weigh-one (all_tasks P),
  )
    where
      weigh-map : (f : Task → ℕ) (l : List StampedTask) → weigh f (map (λ (x : StampedTask). x.0) l) ≡ weigh (λ (x : StampedTask). f x.0) l
      weigh-map f [] = refl
      weigh-map f (x ∷ xs) = omega (arith, weigh-map f xs)

      own_few : (v : PassRecord) → OwnsLives v → weigh (λ _. 1) v.stamps ≤ weigh (λ _. 1) v.claims
      own_few v o = omega (
        arith,
        weigh-map (λ _. 1) v.stamps,
        dominated same_task
            (λ a b h. (same_task-decides a b).0 h) (λ a. (same_task-decides a a).1 refl)
            (map (λ (x : StampedTask). x.0) v.stamps) v.claims
            (λ t. omega (arith, weigh-map (λ u. as_number (same_task t u)) v.stamps, o.stamps t)) (λ _. 1),
      )
