-- Walks over all entries, which list the candidates or find the best one.
use Rattle.std.specs.Prelude.{◌≡◌, ℕ, ◌+◌, ◌<◌, ℤ, Bool, true, false, ◌&&◌, ◌||◌, cond, nat_eq, List, [], ◌∷◌, length}
use Rattle.std.specs.Prelude.{slice_get, Option, Some, None, Result, Ok, Err, OnOk}
use Rattle.std.specs.Result.{is_err}
use Rattle.std.proofs.Common.{suc, refl, sym, ap, ◌∙◌, true≢false, arith, subst}
use Rattle.std.specs.Map.{keys_of}
use Rattle.std.specs.List.{list_any, IsDistinct}
use Rattle.std.specs.List.Sorted.{IsPermutation}
use Rattle.std.proofs.lemmas.List.Sorted.{list_any-IsPermutation}
use Rattle.std.proofs.lemmas.List.MinMax.{ranks_by}
use Rattle.std.proofs.lemmas.Cmp.{tied_itself}
use Rattle.std.specs.Option.{option_cmp}
use Rattle.std.specs.Ordering.{int_eq, is_lt, ord_max}
use Rattle.std.specs.Cmp.Lexicographic.{options_total}
use Rattle.std.specs.Cmp.{IsTotalOrder, IsStrictWeakOrder, int_cmp_total, on_total, then_total, back_total, unsigned_Decides}
use Rattle.ptg_base.specs.Entry.{Entry}
use Rattle.ptg_base.specs.Task.{Task}
use Rattle.ptg_base.specs.TaskComparing.{same_task}
use Rattle.ptg_base.specs.TaskLaws.{task_cmp-total}
use Rattle.dep_shard.specs.Content.{Entries, entry_in, IsReady, HasNoReady, IsBest}
use Rattle.dep_shard.specs.Queue.{Candidate, order, candidate_of, candidate_at, is_candidate, HasEveryReady}
use Rattle.dep_shard.proofs.Candidates.{same_means, candidate_self, lives}
use Rattle.dep_shard.proofs.QueueLemmas.{looked_up}

-- where the entry stands that a look-up finds
record RowOf (es : Entries) (t : Task) (e : Entry) : Type 0 where
  pub index : ℕ
  pub at : slice_get es index ≡ Some (t, e)
  pub within : index < length es

row_of : (es : Entries) (t : Task) (e : Entry) → entry_in es t ≡ Some e → RowOf es t e
row_of [] t e is = absurd cc
row_of (x ∷ xs) t e is = by (row_of xs t e) (same_task t x.0) refl
  where
    by : (entry_in xs t ≡ Some e → RowOf xs t e) → (b : Bool) → same_task t x.0 ≡ b → RowOf (x ∷ xs) t e
    by rest true h =
        let it : Some x.1 ≡ Some e = sym (ap (λ b. cond b (Some x.1) (entry_in xs t)) h) ∙ is in
        let one : x.1 ≡ e = cc in
        let named : t ≡ x.0 = same_means t x.0 h in
        record { index = 0; at = λ i. Some (sym named i, one i); within = omega arith }
    by rest false h =
        let next = rest (sym (ap (λ b. cond b (Some x.1) (entry_in xs t)) h) ∙ is) in
        record { index = suc next.index; at = next.at; within = omega (arith, next.within) }

-- a ready entry is a candidate at its index
candidate_from : (es : Entries) (i : ℕ) (t : Task) (e : Entry) → slice_get es i ≡ Some (t, e) → IsReady e
    → candidate_at es i ≡ Some (e.priority, record { 0 = t })
candidate_from es i t e at ready =
    let test : nat_eq e.arrived e.goal ≡ true = (unsigned_Decides e.arrived e.goal).1 ready in
    ap candidate_of at ∙ ap (λ b. cond b (Some (e.priority, record { 0 = t })) None) test

-- what an index has if it has a candidate
record Has (es : Entries) (i : ℕ) (c : Candidate) : Type 0 where
  pub entry : Entry
  pub at : slice_get es i ≡ Some (c.1.0, entry)
  pub ready : IsReady entry
  pub priority : entry.priority ≡ c.0

has : (es : Entries) (i : ℕ) (c : Candidate) → candidate_at es i ≡ Some c → Has es i c
has es i c is = by (slice_get es i) refl is
  where
    at_row : (t : Task) (e : Entry) → slice_get es i ≡ Some (t, e) → (b : Bool) → nat_eq e.arrived e.goal ≡ b
        → cond b (Some (e.priority, record { 0 = t })) None ≡ Some c → Has es i c
    at_row t e row true test k =
        let made : Candidate = (e.priority, record { 0 = t }) in
        let same : Some made ≡ Some c = k in
        let one : made ≡ c = cc in
        record {
          entry = e;
          at = row ∙ (λ j. Some ((one j).1.0, e));
          ready = (unsigned_Decides e.arrived e.goal).0 test;
          priority = ap (λ (d : Candidate). d.0) one;
        }
    at_row t e row false test k = absurd cc

    by : (r : Option (Task × Entry)) → slice_get es i ≡ r → candidate_of r ≡ Some c → Has es i c
    by None row k = absurd cc
    by (Some x) row k = at_row x.0 x.1 row (nat_eq x.1.arrived x.1.goal) refl k

-- Each ready entry before the index is among the candidates.
abbrev pub HasReadyBelow : Entries → ℕ → List Candidate → Type 0
HasReadyBelow es n cs = (j : ℕ) (c : Candidate) → j < n → candidate_at es j ≡ Some c → list_any (is_candidate c.0 c.1.0) cs ≡ true

pub begins_listed : (es : Entries) (cs : List Candidate) → HasReadyBelow es 0 cs
begins_listed es cs j c below is = absurd (omega (arith, below))

-- an index up to another that is not the same is before it
before : (a b : ℕ) → a < b + 1 → nat_eq a b ≡ false → a < b
before a b less f = omega (arith, less, apart)
  where
    apart : a ≡ b → ⊥
    apart same = true≢false (sym ((unsigned_Decides a b).1 same) ∙ f)

or_second_so : (a b : Bool) → b ≡ true → (a || b) ≡ true
or_second_so true b h = refl
or_second_so false b h = h

-- the next index has a candidate, which is pushed
pub lists_some : (es : Entries) (n : ℕ) (x : Candidate) (cs ds : List Candidate) → HasReadyBelow es n cs
    → Some x ≡ candidate_at es n → IsPermutation (x ∷ cs) ds → HasReadyBelow es (n + 1) ds
lists_some es n x cs ds below is moves j c less at =
    sym (list_any-IsPermutation (is_candidate c.0 c.1.0) (x ∷ cs) ds moves) ∙ by (nat_eq j n) refl
  where
    by : (b : Bool) → nat_eq j n ≡ b → (is_candidate c.0 c.1.0 x || list_any (is_candidate c.0 c.1.0) cs) ≡ true
    by true h =
        let same : j ≡ n = (unsigned_Decides j n).0 h in
        let both : Some x ≡ Some c = is ∙ ap (candidate_at es) (sym same) ∙ at in
        let one : x ≡ c = cc in
        ap (λ b. b || list_any (is_candidate c.0 c.1.0) cs) ((λ i. is_candidate c.0 c.1.0 (one i)) ∙ candidate_self c)
    by false h =
        let other : j < n = before j n less h in
        or_second_so (is_candidate c.0 c.1.0 x) (list_any (is_candidate c.0 c.1.0) cs) (below j c other at)

-- the next index has no candidate
pub lists_none : (es : Entries) (n : ℕ) (cs : List Candidate) → HasReadyBelow es n cs → None ≡ candidate_at es n → HasReadyBelow es (n + 1) cs
lists_none es n cs below is j c less at = by (nat_eq j n) refl
  where
    by : (b : Bool) → nat_eq j n ≡ b → list_any (is_candidate c.0 c.1.0) cs ≡ true
    by true h =
        let same : j ≡ n = (unsigned_Decides j n).0 h in
        let both : None ≡ Some c = is ∙ ap (candidate_at es) (sym same) ∙ at in
        absurd cc
    by false h = below j c (before j n less h) at

-- after the last index every ready entry is among them
pub lists_all : (es : Entries) (n : ℕ) (cs : List Candidate) → n ≡ length es → HasReadyBelow es n cs → HasEveryReady es cs
lists_all es n cs all below t p live =
    let v = lives es p t live in
    let row = row_of es t v.entry v.is in
    subst (λ (q : ℤ). list_any (is_candidate q t) cs ≡ true) v.priority
    (below row.index (v.entry.priority, record { 0 = t }) (omega (arith, row.within, all))
    (candidate_from es row.index t v.entry row.at v.ready))

-- how candidates are ordered is a total order
order_total : IsTotalOrder order
order_total = then_total (on_total (λ (c : Candidate). c.0) int_cmp_total) (on_total (λ (c : Candidate). c.1.0) (back_total task_cmp-total))

option_order_total : IsTotalOrder (option_cmp order)
option_order_total = options_total order_total

candidate_ranks : IsStrictWeakOrder (λ (x y : Option Candidate). is_lt (option_cmp order x y))
candidate_ranks = ranks_by option_order_total (λ (x : Option Candidate). x)

-- This candidate is one of the entries', if there is one, and none before the index is greater.
pub record IsBestBelow (es : Entries) (n : ℕ) (best : Option Candidate) : Type 0 where
  pub known : (c : Candidate) → best ≡ Some c → (j : ℕ) × (candidate_at es j ≡ Some c)
  pub above : (j : ℕ) → j < n → is_lt (option_cmp order best (candidate_at es j)) ≡ false

pub begins_walk : (es : Entries) → IsBestBelow es 0 None
begins_walk es = record { known = λ c is. absurd cc; above = λ j below. absurd (omega (arith, below)) }

pub goes_on : (es : Entries) (n : ℕ) (best : Option Candidate) → IsBestBelow es n best
    → IsBestBelow es (n + 1) (ord_max (option_cmp order) best (candidate_at es n))
goes_on es n best k = by (is_lt (option_cmp order (candidate_at es n) best)) refl
  where
    by : (b : Bool) → is_lt (option_cmp order (candidate_at es n) best) ≡ b → IsBestBelow es (n + 1) (cond b best (candidate_at es n))
    by true h = record {
      known = k.known;
      above = λ j less. next j less (nat_eq j n) refl;
    }
      where
        next : (j : ℕ) → j < n + 1 → (b : Bool) → nat_eq j n ≡ b → is_lt (option_cmp order best (candidate_at es j)) ≡ false
        next j less true e = (λ i. is_lt (option_cmp order best (candidate_at es ((unsigned_Decides j n).0 e i))))
            ∙ candidate_ranks.one_way (candidate_at es n) best h
        next j less false e = k.above j (before j n less e)
    by false h = record {
      known = λ c is. (n, is);
      above = λ j less. next j less (nat_eq j n) refl;
    }
      where
        next : (j : ℕ) → j < n + 1 → (b : Bool) → nat_eq j n ≡ b → is_lt (option_cmp order (candidate_at es n) (candidate_at es j)) ≡ false
        next j less true e = (λ i. is_lt (option_cmp order (candidate_at es n)
            (candidate_at es ((unsigned_Decides j n).0 e i))))
            ∙ ap is_lt (tied_itself option_order_total (candidate_at es n))
        next j less false e = candidate_ranks.chain (candidate_at es n) best (candidate_at es j) h (k.above j (before j n less e))

-- If the walk found nothing, no entry is ready.
pub walk_none : (es : Entries) (n : ℕ) → n ≡ length es → IsBestBelow es n None → HasNoReady es
walk_none es n all k t e is ready =
    let row = row_of es t e is in
    true≢false ((λ i. is_lt (option_cmp order None (sym (candidate_from es row.index t e row.at ready) i)))
    ∙ k.above row.index (omega (arith, row.within, all)))

-- What the walk found is the best.
pub walk_some : (es : Entries) (n : ℕ) (c : Candidate) → n ≡ length es → IsDistinct same_task (keys_of es) → IsBestBelow es n (Some c) → IsBest es c.1.0
walk_some es n c all distinct k =
    let from = k.known c refl in
    let v = has es from.0 c from.1 in
    record {
      entry = v.entry;
      is = looked_up es from.0 c.1.0 v.entry distinct v.at;
      ready = v.ready;
      best = λ u f is ready.
          let row = row_of es u f is in
          let low = k.above row.index (omega (arith, row.within, all)) in
          let at : candidate_at es row.index ≡ Some (f.priority, record { 0 = u }) = candidate_from es row.index u f row.at ready in
          (λ i. is_lt (order (v.priority i, c.1) (f.priority, record { 0 = u }))) ∙ (λ i. is_lt (option_cmp order (Some c) (sym at i))) ∙ low;
    }

-- what holds on success holds if the result is no error
pub unrefused : {T E P : Type 0} (r : Result T E) → is_err r ≡ false → OnOk r P → P
unrefused (Ok x) h p = p
unrefused (Err e) h p = absurd (true≢false h)

-- a candidate that was pushed
pub adds_pushed : (x : Candidate) (rs ss : List Candidate) (priority : ℤ) (task : Task) → IsPermutation (x ∷ rs) ss → x.0 ≡ priority → x.1.0 ≡ task
    → (p : ℤ) (t : Task) → list_any (is_candidate p t) ss ≡ (int_eq p priority && same_task t task || list_any (is_candidate p t) rs)
adds_pushed x rs ss priority task moves level is p t =
    sym (list_any-IsPermutation (is_candidate p t) (x ∷ rs) ss moves) ∙ (λ i. int_eq p (level i) && same_task t (is i) || list_any (is_candidate p t) rs)
