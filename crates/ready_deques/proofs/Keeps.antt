-- Each call keeps the rule of a deque.
use Rattle.std.proofs.Common.{◌≡◌, ℕ, ◌+◌, ◌-◌, ◌<◌, List, [], ◌∷◌, ◌++◌, set, min, sum_by, if◌then◌else◌, zero, suc, ◌⊎◌, inl, inr, length, sym}
use Rattle.std.proofs.Common.{refl, ap, subst, ◌∙◌, arith}
use Rattle.std.proofs.lemmas.List.Sums.{sum_by-append}
use Rattle.std.proofs.lemmas.List.Elements.{All-set, All-append, All-nil, All-cons}
use Rattle.std.proofs.lemmas.List.{length-set}
use mathlib.Core.Option.{some, some-injective, some-ne-none}
use lib.ListN.{get_elem?}
use Rattle.crossbeam_deque.specs.Tasks.{Pushes, Takes, Pops, Finds, FindsFew, Forks, Merges, Learns}
use Rattle.ptg_base.specs.Task.{Task}
use Rattle.ptg_base.specs.TaskComparing.{same_task}
use Rattle.ready_deques.specs.declared.tally.Tally.{Tally}
use Rattle.ready_deques.specs.Rule.{times, tally, IdleIsEmpty, HasNotPushed, OnlyFirstPushes, Balanced, AllTaken, HeldAtMost, WasEmpty, joined}
use Rattle.ready_deques.proofs.Sums.{sum_by-change, sum_by-whole, contains_at, all_at}

pub times-append : (id : Task) (xs ys : List Task) → times id (xs ++ ys) ≡ times id xs + times id ys
times-append id xs ys = sum_by-append (λ x. if same_task id x then 1 else 0) xs ys

-- only the first tally pushes, after one tally changed
still_first : (tallies : List Tally) (port : ℕ) (v w : Tally) → get_elem? tallies port ≡ some v
    → (port ≡ 0) ⊎ (w.pushed ≡ v.pushed) → OnlyFirstPushes tallies → OnlyFirstPushes (set tallies port w)
still_first [] port v w at who first = tt
still_first (t ∷ ts) zero v w at who first = first
still_first (t ∷ ts) (suc port) v w at (inl zeroth) first = absurd (omega (arith, zeroth))
still_first (t ∷ ts) (suc port) v w at (inr same) first = All-set HasNotPushed ts port w (same ∙ all_at HasNotPushed ts port v at first) first

-- a tally that has pushed nothing is added at the end
still_first_with : (tallies : List Tally) (w : Tally) → 0 < length tallies → w.pushed ≡ [] → OnlyFirstPushes tallies → OnlyFirstPushes (tallies ++ w ∷ [])
still_first_with [] w nonempty none first = absurd (omega (arith, nonempty))
still_first_with (t ∷ ts) w nonempty none first = All-append HasNotPushed ts (w ∷ []) first (All-cons HasNotPushed w [] none (All-nil HasNotPushed))

-- the rule after one tally changed
changed : (held after : List Task) (tallies : List Tally) (port : ℕ) (v w : Tally) → get_elem? tallies port ≡ some v → Balanced held tallies
    → ((id : Task) → times id w.pushed + times id v.taken + times id held ≡ times id v.pushed + times id w.taken + times id after)
    → w.parts ≡ v.parts → IdleIsEmpty w → (port ≡ 0) ⊎ (w.pushed ≡ v.pushed) → Balanced after (set tallies port w)
changed held after tallies port v w at b ids parts idle who = record {
  ids = λ id.
      let p = sum_by-change (λ (t : Tally). times id t.pushed) tallies port v w at in
      let t = sum_by-change (λ (t : Tally). times id t.taken) tallies port v w at in
      let h = b.ids id in
      let k = ids id in
      omega arith;
  parts = (let p = sum_by-change (λ (t : Tally). t.parts) tallies port v w at in let h = b.parts in omega arith);
  idle = All-set IdleIsEmpty tallies port w idle b.idle;
  pushes = still_first tallies port v w at who b.pushes;
}

some_at : (views : List Tally) (port : ℕ) (v : Tally) → get_elem? views port ≡ some v → 0 < length views
some_at [] port v at = absurd (some-ne-none v (sym at))
some_at (t ∷ ts) port v at = omega arith

pub pushes : (port : ℕ) (v : Tally) (id : Task) → port ≡ 0 → 0 < v.parts
    → Pushes Balanced port v (id ∷ []) (λ w. w ≡ tally v.parts (v.pushed ++ id ∷ []) v.taken)
pushes port v id own some_part items views b at =
    let w = tally v.parts (v.pushed ++ id ∷ []) v.taken in (
      w,
      changed items (items ++ id ∷ []) views port v w at b
          (λ x. omega (arith, times-append x v.pushed (id ∷ []), times-append x items (id ∷ [])))
          refl
          (λ none. absurd (omega arith))
          (inl own),
      refl,
    )

pub takes : (port : ℕ) (v : Tally) → 0 < v.parts → Takes Balanced port v 1 (λ xs w. w ≡ tally v.parts v.pushed (v.taken ++ xs))
takes port v some_part xs items views _ _ b at =
    let w = tally v.parts v.pushed (v.taken ++ xs) in (
      w,
      changed (xs ++ items) items views port v w at b
          (λ x. omega (arith, times-append x v.taken xs, times-append x xs items))
          refl
          (λ none. absurd (omega arith))
          (inr refl),
      refl,
    )

pub pops : (port : ℕ) (v : Tally) → 0 < v.parts → Pops Balanced port v (λ xs w. w ≡ tally v.parts v.pushed (v.taken ++ xs))
pops port v some_part x items views b at =
    let w = tally v.parts v.pushed (v.taken ++ x ∷ []) in (
      w,
      changed (items ++ x ∷ []) items views port v w at b
          (λ y. omega (arith, times-append y v.taken (x ∷ []), times-append y items (x ∷ [])))
          refl
          (λ none. absurd (omega arith))
          (inr refl),
      refl,
    )

pub finds_one : (flavor port : ℕ) (v : Tally) → FindsFew Balanced (min flavor 1) port v (HeldAtMost 1 v.pushed v.taken)
finds_one flavor port v items views few b at = (items, omega arith, (views, v.parts, contains_at views port v at, b))

pub finds : (port : ℕ) (v : Tally) → port ≡ 0 → Finds Balanced port v (WasEmpty v.parts v.pushed v.taken)
finds port v own views b at = first_of views b (subst (λ k. get_elem? views k ≡ some v) own at)
  where
    first_of : (ts : List Tally) → Balanced [] ts → get_elem? ts 0 ≡ some v → WasEmpty v.parts v.pushed v.taken
    first_of [] balanced here = absurd (some-ne-none v (sym here))
    first_of (t ∷ ts) balanced here = (ts, subst (λ (first : Tally). Balanced [] (first ∷ ts)) (some-injective t v here) balanced)

-- one tally is changed and another one is added, and neither pushes
with_new_end : (views : List Tally) (port : ℕ) (v left right : Tally) → get_elem? views port ≡ some v
    → left.pushed ≡ v.pushed → right.pushed ≡ [] → OnlyFirstPushes views
    → OnlyFirstPushes (set views port left ++ right ∷ [])
with_new_end views port v left right at same none first =
    let nonempty : 0 < length views = some_at views port v at in
    still_first_with (set views port left) right (omega (arith, nonempty, length-set views port left)) none (still_first views port v left at (inr same) first)

pub forks : (port : ℕ) (v : Tally) → 1 < v.parts → Forks Balanced port v (tally (v.parts - 1) v.pushed v.taken) (tally 1 [] [])
forks port v some_parts items views b at =
    let left = tally (v.parts - 1) v.pushed v.taken in
    let right = tally 1 [] [] in
    let sum = λ (f : Tally → ℕ). sum_by-append f (set views port left) (right ∷ []) in
    let change = λ (f : Tally → ℕ). sum_by-change f views port v left at in
    record {
      ids = λ id.
          let p = sum (λ t. times id t.pushed) in
          let p' = change (λ t. times id t.pushed) in
          let t = sum (λ t. times id t.taken) in
          let t' = change (λ t. times id t.taken) in
          let h = b.ids id in
          omega arith;
      parts = (let p = sum (λ t. t.parts) in let p' = change (λ t. t.parts) in let h = b.parts in omega arith);
      idle = All-append IdleIsEmpty (set views port left) (right ∷ [])
          (All-set IdleIsEmpty views port left (λ none. absurd (omega arith)) b.idle)
          (All-cons IdleIsEmpty right [] (λ none. absurd (omega arith)) (All-nil IdleIsEmpty));
      pushes = with_new_end views port v left right at refl refl b.pushes;
    }

-- an end without a part is added
pub forks_partless : (port : ℕ) (v : Tally) → Forks Balanced port v v (tally 0 [] [])
forks_partless port v items views b at =
    let right = tally 0 [] [] in
    let sum = λ (f : Tally → ℕ). sum_by-append f (set views port v) (right ∷ []) in
    let change = λ (f : Tally → ℕ). sum_by-change f views port v v at in
    record {
      ids = λ id.
          let p = sum (λ t. times id t.pushed) in
          let p' = change (λ t. times id t.pushed) in
          let t = sum (λ t. times id t.taken) in
          let t' = change (λ t. times id t.taken) in
          let h = b.ids id in
          omega arith;
      parts = (let p = sum (λ t. t.parts) in let p' = change (λ t. t.parts) in let h = b.parts in omega arith);
      idle = All-append IdleIsEmpty (set views port v) (right ∷ [])
          (All-set IdleIsEmpty views port v (all_at IdleIsEmpty views port v at b.idle) b.idle)
          (All-cons IdleIsEmpty right [] (λ _. (refl, refl)) (All-nil IdleIsEmpty));
      pushes = with_new_end views port v v right at refl refl b.pushes;
    }

-- a tally other than the first is spent
spent_last : (views : List Tally) (other : ℕ) (w : Tally) → ¬ (other ≡ 0) → w.pushed ≡ [] → OnlyFirstPushes views → OnlyFirstPushes (set views other w)
spent_last [] other w apart none first = tt
spent_last (t ∷ ts) zero w apart none first = absurd (apart refl)
spent_last (t ∷ ts) (suc other) w apart none first = All-set HasNotPushed ts other w none first

pub merges : (port : ℕ) (v : Tally) (other : ℕ) (w : Tally) → port ≡ 0 → 0 < v.parts → Merges Balanced port v other w (joined v w) (tally 0 [] [])
merges port v other w own some_part items views b at apart at' =
    let both = joined v w in
    let spent = tally 0 [] [] in
    let first = λ (f : Tally → ℕ). sum_by-change f views port v both at in
    let second = λ (f : Tally → ℕ). sum_by-change f (set views port both) other w spent at' in
    record {
      ids = λ id.
          let p = first (λ t. times id t.pushed) in
          let p' = second (λ t. times id t.pushed) in
          let t = first (λ t. times id t.taken) in
          let t' = second (λ t. times id t.taken) in
          let h = b.ids id in
          omega (arith, times-append id v.pushed w.pushed, times-append id v.taken w.taken);
      parts = (let p = first (λ t. t.parts) in let p' = second (λ t. t.parts) in let h = b.parts in omega arith);
      idle = All-set IdleIsEmpty (set views port both) other spent (λ _. (refl, refl))
          (All-set IdleIsEmpty views port both (λ none. absurd (omega arith)) b.idle);
      pushes = spent_last (set views port both) other spent (λ zeroth. apart (zeroth ∙ sym own)) refl (still_first views port v both at (inl own) b.pushes);
    }

pub learns : (port : ℕ) (v : Tally) → v.parts ≡ 65 → Learns Balanced port v (λ held. (id : Task) → times id v.pushed ≡ times id v.taken + times id held)
learns port v all held views b at id =
    let whole : sum_by (λ (t : Tally). t.parts) views ≡ v.parts = b.parts ∙ sym all in
    let idle = λ (j : ℕ) (t : Tally) (e : get_elem? views j ≡ some t). all_at IdleIsEmpty views j t e b.idle in
    let p = sum_by-whole (λ (t : Tally). t.parts) (λ t. times id t.pushed) views port v at (λ j t e none. ap (times id) (idle j t e none).0) whole in
    let t = sum_by-whole (λ (t : Tally). t.parts) (λ t. times id t.taken) views port v at (λ j t e none. ap (times id) (idle j t e none).1) whole in
    let h = b.ids id in
    omega arith

-- if the worker has all parts, each id was taken as often as it was pushed
pub all_taken : (parts : ℕ) (pushed taken : List Task) → parts ≡ 65 → WasEmpty parts pushed taken → AllTaken pushed taken
all_taken parts pushed taken all moment id =
    let h = learns 0 (tally parts pushed taken) all [] (tally parts pushed taken ∷ moment.0) moment.1 refl id in
    omega (arith, h)
