-- Live and stale candidates.
use Rattle.std.specs.Prelude.{◌≡◌, ◌<◌, ℤ, Bool, true, false, ◌&&◌, ◌||◌, nat_eq, List, [], ◌∷◌, length, Option, Some}
use Rattle.std.specs.Prelude.{None, IsTrue, IfSome, IfNone, slice_index_or}
use Rattle.std.proofs.Common.{refl, sym, ap, ◌∙◌, true≢false, arith, subst}
use Rattle.std.specs.List.{list_any, AllByRecursion}
use Rattle.std.specs.List.Sorted.{IsPermutation}
use Rattle.std.proofs.lemmas.List.Sorted.{list_any-IsPermutation, length_permutation}
use Rattle.std.specs.BinaryHeap.{IsHeap, PopsGreatest}
use Rattle.std.specs.Option.{option_map_or}
use Rattle.std.specs.Ordering.{int_eq, is_lt}
use Rattle.std.specs.Cmp.{first_so, second_so, unsigned_Decides, signed_Decides}
use Rattle.ptg_base.specs.Entry.{Entry}
use Rattle.ptg_base.specs.Task.{Task}
use Rattle.ptg_base.specs.TaskComparing.{same_task}
use Rattle.ptg_base.specs.TaskLaws.{same_task-decides}
use Rattle.dep_shard.specs.Content.{Entries, entry_in, IsReady, HasNoReady, IsBest, priority_cmp}
use Rattle.dep_shard.specs.Queue.{Candidate, order, is_candidate, is_live, HasEveryReady, HasLiveFront}
use Rattle.std.proofs.lemmas.Bool.{false_from_ne_true}

-- the test of sameness holds for one task only
pub same_means : (a b : Task) → IsTrue (same_task a b) → a ≡ b
same_means a b = (same_task-decides a b).0

pub same_self : (a : Task) → same_task a a ≡ true
same_self a = (same_task-decides a a).1 refl

-- the test of a candidate holds for one priority and task only
candidate_means : (p : ℤ) (t : Task) (x : Candidate) → is_candidate p t x ≡ true → (p ≡ x.0) × (t ≡ x.1.0)
candidate_means p t x h =
    ((signed_Decides p x.0).0 (first_so (int_eq p x.0) (same_task t x.1.0) h), same_means t x.1.0 (second_so (int_eq p x.0) (same_task t x.1.0) h))

pub candidate_self : (x : Candidate) → is_candidate x.0 x.1.0 x ≡ true
candidate_self x =
    let a : int_eq x.0 x.0 ≡ true = (signed_Decides x.0 x.0).1 refl in
    let b : same_task x.1.0 x.1.0 ≡ true = same_self x.1.0 in
    λ i. a i && b i

-- a ready entry is live at its priority
pub live_from : (es : Entries) (t : Task) (e : Entry) → entry_in es t ≡ Some e → IsReady e → is_live es e.priority t ≡ true
live_from es t e is ready =
    let a : nat_eq e.arrived e.goal ≡ true = (unsigned_Decides e.arrived e.goal).1 ready in
    let b : int_eq e.priority e.priority ≡ true = (signed_Decides e.priority e.priority).1 refl in
    ap (λ r. option_map_or (λ (f : Entry). nat_eq f.arrived f.goal && int_eq f.priority e.priority) r false) is ∙ (λ i. a i && b i)

-- a live candidate has a ready entry
pub record Lives (es : Entries) (p : ℤ) (t : Task) : Type 0 where
  pub entry : Entry
  pub is : entry_in es t ≡ Some entry
  pub ready : IsReady entry
  pub priority : entry.priority ≡ p

pub lives : (es : Entries) (p : ℤ) (t : Task) → is_live es p t ≡ true → Lives es p t
lives es p t h = by (entry_in es t) refl h
  where
    by : (r : Option Entry) → entry_in es t ≡ r → option_map_or (λ (f : Entry). nat_eq f.arrived f.goal && int_eq f.priority p) r false ≡ true → Lives es p t
    by None e h = absurd (true≢false (sym h))
    by (Some f) e h = record {
      entry = f;
      is = e;
      ready = (unsigned_Decides f.arrived f.goal).0 (first_so (nat_eq f.arrived f.goal) (int_eq f.priority p) h);
      priority = (signed_Decides f.priority p).0 (second_so (nat_eq f.arrived f.goal) (int_eq f.priority p) h);
    }

-- a stale candidate is not the candidate of a live task
stale : (es : Entries) (x : Candidate) (p : ℤ) (t : Task) → is_live es x.0 x.1.0 ≡ false → is_live es p t ≡ true → is_candidate p t x ≡ false
stale es x p t dead lives = false_from_ne_true (is_candidate p t x) (λ h.
    let m = candidate_means p t x h in
    let same : is_live es p t ≡ is_live es x.0 x.1.0 = λ i. is_live es (m.0 i) (m.1 i) in
    true≢false (sym lives ∙ same ∙ dead))

or_second : (a b : Bool) → (a || b) ≡ true → a ≡ false → b ≡ true
or_second true b h f = absurd (true≢false f)
or_second false b h f = h

-- A stale candidate may go.
pub dropped : (es : Entries) (x : Candidate) (rs ss : List Candidate) → is_live es x.0 x.1.0 ≡ false
    → IsPermutation rs (x ∷ ss) → HasEveryReady es rs → HasEveryReady es ss
dropped es x rs ss dead moves q t p lives =
    let same : list_any (is_candidate p t) rs ≡ list_any (is_candidate p t) (x ∷ ss) = list_any-IsPermutation (is_candidate p t) rs (x ∷ ss) moves in
    or_second (is_candidate p t x) (list_any (is_candidate p t) ss) (sym same ∙ q t p lives) (stale es x p t dead lives)

-- what `pop` ensures
pub record Pops (rs ss : List Candidate) (r : Option Candidate) : Type 0 where
  pub top : IfSome r (λ y. y ≡ slice_index_or rs 0 y)
  pub moves : IfSome r (λ y. IsPermutation rs (y ∷ ss))
  pub heap : IfSome r (λ y. PopsGreatest order rs y ss)
  pub none : IfNone r ⊥

pub popped : (es : Entries) (x : Candidate) (rs ss : List Candidate) (r : Option Candidate) → Pops rs ss r
    → x ≡ slice_index_or rs 0 x → IsHeap order rs → HasEveryReady es rs → is_live es x.0 x.1.0 ≡ false
    → IsHeap order ss × HasEveryReady es ss
popped es x rs ss None p first heap q dead = absurd p.none
popped es x [] ss (Some y) p first heap q dead = absurd (omega (arith, length_permutation [] (y ∷ ss) p.moves))
popped es x (h ∷ hs) ss (Some y) p first heap q dead =
    let same : y ≡ x = p.top ∙ sym first in
    ((p.heap heap).0, dropped es x (h ∷ hs) ss dead (subst (λ (z : Candidate). IsPermutation (h ∷ hs) (z ∷ ss)) same p.moves) q)

-- the greatest candidate is not below that of a live task
not_above : (x : Candidate) (p : ℤ) (t : Task) (rs : List Candidate)
    → AllByRecursion (λ y. is_lt (order x y) ≡ false) rs → list_any (is_candidate p t) rs ≡ true
    → is_lt (priority_cmp (x.0, x.1.0) (p, t)) ≡ false
not_above x p t [] all h = absurd (true≢false (sym h))
not_above x p t (y ∷ ys) all h = by (not_above x p t ys all.1) (is_candidate p t y) refl
  where
    by : (list_any (is_candidate p t) ys ≡ true → is_lt (priority_cmp (x.0, x.1.0) (p, t)) ≡ false) → (b : Bool)
        → is_candidate p t y ≡ b → is_lt (priority_cmp (x.0, x.1.0) (p, t)) ≡ false
    by rest true e =
        let m = candidate_means p t y e in
        (λ i. is_lt (priority_cmp (x.0, x.1.0) (m.0 i, m.1 i))) ∙ all.0
    by rest false e = rest (or_second (is_candidate p t y) (list_any (is_candidate p t) ys) h e)

-- If the greatest candidate is live, its task is the best.
pub best_from : (es : Entries) (x : Candidate) (rs : List Candidate) → HasEveryReady es rs
    → AllByRecursion (λ y. is_lt (order x y) ≡ false) rs → is_live es x.0 x.1.0 ≡ true → IsBest es x.1.0
best_from es x rs q all h = at (lives es x.0 x.1.0 h)
  where
    at : Lives es x.0 x.1.0 → IsBest es x.1.0
    at v = record {
      entry = v.entry;
      is = v.is;
      ready = v.ready;
      best = λ u f is ready.
          let low = not_above x f.priority u rs all (q u f.priority (live_from es u f is ready)) in
          (λ i. is_lt (priority_cmp (v.priority i, x.1.0) (f.priority, u))) ∙ low;
    }

-- If the queue is empty, no entry is ready.
pub none_from : (es : Entries) (rs : List Candidate) → length rs ≡ 0 → HasEveryReady es rs → HasNoReady es
none_from es [] l q t e is ready = true≢false (sym (q t e.priority (live_from es t e is ready)))
none_from es (r ∷ rs) l q t e is ready = omega (arith, l)

pub live_front : (es : Entries) (x : Candidate) (cs : List Candidate) → HasLiveFront es cs → x ≡ slice_index_or cs 0 x
    → 0 < length cs → is_live es x.0 x.1.0 ≡ true
live_front es x [] front first some = absurd (omega (arith, some))
live_front es x (c ∷ rest) front first some = (λ i. is_live es (first i).0 (first i).1.0) ∙ front c rest refl
