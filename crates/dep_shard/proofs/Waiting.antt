-- How many entries wait, as entries come, change and go.
use Rattle.std.specs.Prelude.{◌≡◌, ℕ, ◌+◌, ◌<◌, ◌≤◌, Bool, true, false, cond, [], ◌∷◌, ◌++◌, length, Some, swap_remove, slice_index_or, slice_get}
use Rattle.std.proofs.Common.{zero, suc, refl, sym, ap, ◌∙◌, arith, subst}
use Rattle.std.proofs.lemmas.Bool.Decides.{nat_tests}
use Rattle.std.specs.Map.{lookup}
use Rattle.std.proofs.lemmas.List.Sums.{sum_by-swap_remove}
use Rattle.indexmap.specs.IndexMap.{set_value_at}
use Rattle.ptg_base.specs.Entry.{Entry}
use Rattle.list_lemmas.proofs.Counts.{weigh-push, weigh-sum, count-at_most, one_at_most}
use Rattle.ptg_base.specs.Task.{Task}
use Rattle.dep_shard.specs.Content.{Entries, IsWaiting}
use Rattle.dep_shard.specs.Queue.{count_waiting, is_waiting}
use Rattle.list_lemmas.specs.Counting.{as_number}

pub count_waiting-push : (es : Entries) (t : Task) (e : Entry) → count_waiting (es ++ (t, e) ∷ []) ≡ count_waiting es + as_number (is_waiting e)
count_waiting-push es t e = weigh-push (λ (x : Task × Entry). as_number (is_waiting x.1)) es (t, e)

pub count_waiting-set_at : (es : Entries) (i : ℕ) (t : Task) (e f : Entry) → slice_get es i ≡ Some (t, e)
    → count_waiting (set_value_at es i f) + as_number (is_waiting e) ≡ count_waiting es + as_number (is_waiting f)
count_waiting-set_at [] i t e f is = cc
count_waiting-set_at (x ∷ xs) zero t e f is =
    let one : x ≡ (t, e) = cc in
    let same : as_number (is_waiting x.1) ≡ as_number (is_waiting e) = ap (λ (y : Task × Entry). as_number (is_waiting y.1)) one in
    omega (arith, same)
count_waiting-set_at (x ∷ xs) (suc i) t e f is = omega (arith, count_waiting-set_at xs i t e f is)

row_at : (es : Entries) (i : ℕ) (d row : Task × Entry) → slice_get es i ≡ Some row → (slice_index_or es i d ≡ row) × (i < length es)
row_at [] i d row h = absurd cc
row_at (x ∷ xs) zero d row h = let one : x ≡ row = cc in (one, omega arith)
row_at (x ∷ xs) (suc i) d row h = let next = row_at xs i d row h in (next.0, omega (arith, next.1))

pub count_waiting-swap_remove_at : (es : Entries) (i : ℕ) (t : Task) (e : Entry) → slice_get es i ≡ Some (t, e)
    → count_waiting (swap_remove es i (t, e)) + as_number (is_waiting e) ≡ count_waiting es
count_waiting-swap_remove_at es i t e is =
    let f = λ (x : Task × Entry). as_number (is_waiting x.1) in
    let there = row_at es i (t, e) (t, e) is in
    let one : f (slice_index_or es i (t, e)) ≡ as_number (is_waiting e) = ap f there.0 in
    omega (arith, one, weigh-sum f es, weigh-sum f (swap_remove es i (t, e)), sum_by-swap_remove f es i (t, e) there.1)

pub count_waiting-le : (es : Entries) → count_waiting es ≤ length es
count_waiting-le es = count-at_most (λ (x : Task × Entry). is_waiting x.1) es

waits_if : (e : Entry) → as_number (is_waiting e) ≡ 1 → IsWaiting e
waits_if e h = grind (arith, nat_tests)

-- If as many wait as there are entries, each that a look-up finds does.
pub all_wait : (test : Task → Bool) (es : Entries) (e : Entry) → count_waiting es ≡ length es → lookup test es ≡ Some e → IsWaiting e
all_wait test [] e all is = absurd cc
all_wait test (x ∷ xs) e all is = by (λ tail. all_wait test xs e (omega (arith, all, count_waiting-le xs, one_at_most (is_waiting x.1))) tail) (test x.0) refl
  where
    by : (lookup test xs ≡ Some e → IsWaiting e) → (b : Bool) → test x.0 ≡ b → IsWaiting e
    by rest true h =
        let it : Some x.1 ≡ Some e = sym (ap (λ b. cond b (Some x.1) (lookup test xs)) h) ∙ is in
        let one : x.1 ≡ e = cc in
        subst IsWaiting one (waits_if x.1 (omega (arith, all, count_waiting-le xs, one_at_most (is_waiting x.1))))
    by rest false h = rest (sym (ap (λ b. cond b (Some x.1) (lookup test xs)) h) ∙ is)

-- If each entry of the list waits, as many wait as there are.
pub count_all : (es : Entries) → ((i : ℕ) (t : Task) (e : Entry) → slice_get es i ≡ Some (t, e) → IsWaiting e) → count_waiting es ≡ length es
count_all [] waits = refl
count_all (x ∷ xs) waits =
    omega (arith, count_all xs (λ i t e is. waits (suc i) t e is), one x.1 (waits 0 x.0 x.1 refl))
  where
    one : (e : Entry) → IsWaiting e → as_number (is_waiting e) ≡ 1
    one e less = grind (arith, nat_tests)
