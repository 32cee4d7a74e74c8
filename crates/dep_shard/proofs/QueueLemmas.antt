-- The queue and its room, as entries come and go.
use Rattle.std.specs.Prelude.{◌≡◌, ◌↔◌, ℕ, ◌+◌, ◌<◌, ◌≤◌, ℤ, Bool, true, false, ◌&&◌, ◌||◌, cond, nat_eq, List, [], ◌∷◌}
use Rattle.std.specs.Prelude.{◌++◌, length, slice_get, swap_remove, Option, Some, None, IfNone, IfSome, position}
use Rattle.std.proofs.Common.{zero, suc, refl, sym, ap, ◌∙◌, true≢false, arith, subst}
use Rattle.std.specs.List.{list_any}
use Rattle.std.specs.Cmp.{first_so, second_so, unsigned_Decides, signed_Decides}
use Rattle.ptg_base.specs.Entry.{Entry}
use Rattle.ptg_base.specs.Task.{Task}
use Rattle.ptg_base.specs.TaskComparing.{same_task}
use Rattle.list_lemmas.proofs.Places.{slice_get_there}
use Rattle.dep_shard.specs.Content.{Entries, Content, entry_in, IsReady, IsWaiting, HasNoReady, IsEntryAt, ArrivesAt, Updates, with_arrival}
use Rattle.dep_shard.specs.Queue.{Candidate, QueueContent, Serves, Adds, is_candidate, is_ready_at, HasEveryReady}
use Rattle.dep_shard.specs.Queue.{HaveAtMostGoal, is_waiting, count_waiting, IsQueueOf}
use Rattle.dep_shard.proofs.Candidates.{same_means, same_self}
use Rattle.dep_shard.proofs.Waiting.{count_waiting-push, count_waiting-set_at, count_waiting-swap_remove_at, all_wait, count_all}
use Rattle.std.proofs.lemmas.Bool.Decides.{nat_tests}
use Rattle.std.specs.Map.{lookup_key, keys_of, values_of}
use Rattle.std.specs.Ordering.{int_eq}
use Rattle.std.specs.List.{IsDistinct}
use Rattle.std.specs.Cmp.{IsEquivalence, decided}
use Rattle.ptg_base.specs.TaskLaws.{same_task-decides}
use Rattle.indexmap.specs.IndexMap.{set_value_at}
use Rattle.indexmap.specs.Layout.{hash_map}
use Rattle.indexmap.proofs.CallerLemmas.{updates-with_value_at}
use Rattle.indexmap.proofs.MapLemmas.{Found-position, index-first}
use Rattle.indexmap.proofs.RemoveLemmas.{own_first}
use Rattle.list_lemmas.specs.Counting.{as_number}

one_waits : (e : Entry) → IsWaiting e → as_number (is_waiting e) ≡ 1
one_waits e less = grind (arith, nat_tests)

none_waits : (e : Entry) → IsReady e → as_number (is_waiting e) ≡ 0
none_waits e ready = grind (arith, nat_tests)

-- One entry changes. If the new one is ready, the queue has it.
pub changed : (es fs : Entries) (t : Task) (w : Option Entry) (rs : List Candidate) → Updates es fs t w
    → ((p : ℤ) → is_ready_at p w ≡ true → list_any (is_candidate p t) rs ≡ true) → HasEveryReady es rs
    → HasEveryReady fs rs
changed es fs t w rs up has q u p h = by (same_task t u) refl
  where
    by : (b : Bool) → same_task t u ≡ b → list_any (is_candidate p u) rs ≡ true
    by true e =
        let here : entry_in fs u ≡ w = up u ∙ ap (λ b. cond b w (entry_in es u)) e in
        let one : list_any (is_candidate p t) rs ≡ true = has p (sym (ap (is_ready_at p) here) ∙ h) in
        subst (λ (v : Task). list_any (is_candidate p v) rs ≡ true) (same_means t u e) one
    by false e =
        let here : entry_in fs u ≡ entry_in es u = up u ∙ ap (λ b. cond b w (entry_in es u)) e in
        q u p (sym (ap (is_ready_at p) here) ∙ h)

-- an entry that waits is not ready
pub not_ready : (e : Entry) → IsWaiting e → (p : ℤ) → is_ready_at p (Some e) ≡ true → ⊥
not_ready e less p h =
    let same : e.arrived ≡ e.goal = (unsigned_Decides e.arrived e.goal).0 (first_so (nat_eq e.arrived e.goal) (int_eq e.priority p) h) in
    omega (arith, same, less)

or_second_so : (a b : Bool) → b ≡ true → (a || b) ≡ true
or_second_so true b h = refl
or_second_so false b h = h

-- An entry changes or comes, and its candidate comes to the queue.
pub comes : (es fs : Entries) (t : Task) (e : Entry) (q r : QueueContent) → Serves es q → Updates es fs t (Some e) → Adds q r e.priority t → Serves fs r
comes es fs t e q r serves up adds on =
    changed es fs t (Some e) r.candidates up here (λ u p h. (adds on).1 p u
    ∙ or_second_so (int_eq p e.priority && same_task u t) (list_any (is_candidate p u) q.candidates)
    (serves (adds on).0 u p h))
  where
    here : (p : ℤ) → is_ready_at p (Some e) ≡ true → list_any (is_candidate p t) r.candidates ≡ true
    here p h =
        let level : e.priority ≡ p = (signed_Decides e.priority p).0 (second_so (nat_eq e.arrived e.goal) (int_eq e.priority p) h) in
        let a : int_eq p e.priority ≡ true = (signed_Decides p e.priority).1 (sym level) in
        let b : same_task t t ≡ true = same_self t in
        (adds on).1 p t ∙ (λ i. a i && b i || list_any (is_candidate p t) q.candidates)

-- the same priority, in other words
pub adds_at : (q r : QueueContent) (t : Task) (p p' : ℤ) → Adds q r p t → p ≡ p' → Adds q r p' t
adds_at q r t p p' adds same = subst (λ (x : ℤ). Adds q r x t) same adds

-- A queue that is listed only if nothing happened to it serves on.
pub serves_on : (es : Entries) (q r : QueueContent) → Serves es q → (r.listed ≡ true → r ≡ q) → Serves es r
serves_on es q r serves same on =
    let is : r ≡ q = same on in
    subst (λ (x : QueueContent). HasEveryReady es x.candidates) (sym is) (serves (sym (ap (λ (x : QueueContent). x.listed) is) ∙ on))

-- The queue forgets its candidates or stays as it is.
pub forgets : (es : Entries) (q r : QueueContent) (waiting : ℕ) → IsQueueOf es q waiting → (r.listed ≡ true → r ≡ q) → IsQueueOf es r waiting
forgets es q r waiting k same = record {
  serves = serves_on es q r k.serves same;
  at_most_goal = k.at_most_goal;
  counted = k.counted;
}

-- One entry changes. If the new one has received no more edges than it waits for, the same holds for every entry.
at_most_after : (es fs : Entries) (t : Task) (w : Option Entry) → Updates es fs t w
    → ((e : Entry) → w ≡ Some e → e.arrived ≤ e.goal) → HaveAtMostGoal es → HaveAtMostGoal fs
at_most_after es fs t w up new all u e is = by (same_task t u) refl
  where
    by : (b : Bool) → same_task t u ≡ b → e.arrived ≤ e.goal
    by true h = new e (sym (up u ∙ ap (λ b. cond b w (entry_in es u)) h) ∙ is)
    by false h = all u e (sym (up u ∙ ap (λ b. cond b w (entry_in es u)) h) ∙ is)

at_most_new : (f : Entry) → f.arrived ≤ f.goal → (e : Entry) → Some f ≡ Some e → e.arrived ≤ e.goal
at_most_new f h e is = let one : f ≡ e = cc in subst (λ (x : Entry). x.arrived ≤ x.goal) one h

no_new : (e : Entry) → None ≡ Some e → e.arrived ≤ e.goal
no_new e is = absurd cc

-- after a ready entry came, and its candidate
pub enters_ready : (es fs : Entries) (t : Task) (e : Entry) (q r : QueueContent) (waiting : ℕ)
    → IsQueueOf es q waiting → fs ≡ es ++ (t, e) ∷ [] → Updates es fs t (Some e) → IsReady e → Adds q r e.priority t
    → IsQueueOf fs r waiting
enters_ready es fs t e q r waiting k is up ready adds = record {
  serves = comes es fs t e q r k.serves up adds;
  at_most_goal = at_most_after es fs t (Some e) up (at_most_new e (omega (arith, ready))) k.at_most_goal;
  counted = ap count_waiting is ∙ omega (arith, count_waiting-push es t e, k.counted, none_waits e ready);
}

-- after a waiting entry came
pub enters_waiting : (es fs : Entries) (t : Task) (e : Entry) (q : QueueContent) (waiting : ℕ)
    → IsQueueOf es q waiting → fs ≡ es ++ (t, e) ∷ [] → Updates es fs t (Some e) → IsWaiting e
    → IsQueueOf fs q (waiting + 1)
enters_waiting es fs t e q waiting k is up waits_e = record {
  serves = λ on. changed es fs t (Some e) q.candidates up (λ p h. absurd (not_ready e waits_e p h)) (k.serves on);
  at_most_goal = at_most_after es fs t (Some e) up (at_most_new e (omega (arith, waits_e))) k.at_most_goal;
  counted = ap count_waiting is ∙ omega (arith, count_waiting-push es t e, k.counted, one_waits e waits_e);
}

-- after a ready entry went
pub leaves : (es fs : Entries) (i : ℕ) (t : Task) (e : Entry) (q : QueueContent) (waiting : ℕ)
    → IsQueueOf es q waiting → slice_get es i ≡ Some (t, e) → fs ≡ swap_remove es i (t, e) → Updates es fs t None → IsReady e
    → IsQueueOf fs q waiting
leaves es fs i t e q waiting k is gone up ready = record {
  serves = λ on. changed es fs t None q.candidates up (λ p h. absurd (true≢false (sym h))) (k.serves on);
  at_most_goal = at_most_after es fs t None up no_new k.at_most_goal;
  counted = ap count_waiting gone ∙ omega (arith, count_waiting-swap_remove_at es i t e is, k.counted, none_waits e ready);
}

-- after an edge came to an entry that still waits
pub lands : (es fs : Entries) (i : ℕ) (t : Task) (e f : Entry) (q : QueueContent) (waiting : ℕ)
    → IsQueueOf es q waiting → slice_get es i ≡ Some (t, e) → fs ≡ set_value_at es i f → Updates es fs t (Some f) → IsWaiting e → IsWaiting f
    → IsQueueOf fs q waiting
lands es fs i t e f q waiting k is set up waits_e waits_f = record {
  serves = λ on. changed es fs t (Some f) q.candidates up (λ p h. absurd (not_ready f waits_f p h)) (k.serves on);
  at_most_goal = at_most_after es fs t (Some f) up (at_most_new f (omega (arith, waits_f))) k.at_most_goal;
  counted = ap count_waiting set ∙ omega (arith, count_waiting-set_at es i t e f is, k.counted, one_waits e waits_e, one_waits f waits_f);
}

-- after the last edge came, and the candidate
pub fires : (es fs : Entries) (i : ℕ) (t : Task) (e f : Entry) (q r : QueueContent) (waiting waiting' : ℕ)
    → IsQueueOf es q waiting → slice_get es i ≡ Some (t, e) → fs ≡ set_value_at es i f → Updates es fs t (Some f) → IsWaiting e → IsReady f
    → Adds q r f.priority t → waiting ≡ waiting' + 1
    → IsQueueOf fs r waiting'
fires es fs i t e f q r waiting waiting' k is set up waits_e ready_f adds less = record {
  serves = comes es fs t f q r k.serves up adds;
  at_most_goal = at_most_after es fs t (Some f) up (at_most_new f (omega (arith, ready_f))) k.at_most_goal;
  counted = ap count_waiting set ∙ omega (arith, count_waiting-set_at es i t e f is, k.counted, one_waits e waits_e, none_waits f ready_f, less);
}

-- If an entry waits, at least one is counted.
pub some_wait : (es : Entries) (i : ℕ) (t : Task) (e : Entry) (q : QueueContent) (waiting : ℕ) → IsQueueOf es q waiting
    → slice_get es i ≡ Some (t, e) → IsWaiting e → 0 < waiting
some_wait es i t e q waiting k is waits_e = omega (arith, k.counted, count_waiting-swap_remove_at es i t e is, one_waits e waits_e)

pub updates_twice : (es fs gs : Entries) (t : Task) (v w : Option Entry) → Updates es fs t v → Updates fs gs t w → Updates es gs t w
updates_twice es fs gs t v w one two u = by (same_task t u) refl
  where
    by : (b : Bool) → same_task t u ≡ b → entry_in gs u ≡ cond (same_task t u) w (entry_in es u)
    by true e = two u ∙ ap (λ b. cond b w (entry_in fs u)) e ∙ sym (ap (λ b. cond b w (entry_in es u)) e)
    by false e = two u ∙ ap (λ b. cond b w (entry_in fs u)) e ∙ one u ∙ ap (λ b. cond b v (entry_in es u)) e ∙ sym (ap (λ b. cond b w (entry_in es u)) e)

-- a fact that holds whatever the result is
pub if_none : {T : Type 0} (r : Option T) (P : Type 0) → P → IfNone r P
if_none None P p = p
if_none (Some x) P p = tt

pub task_equivalence : IsEquivalence same_task
task_equivalence = decided same_task same_task-decides

-- a write at an index gives its task the new entry
pub updates_at : (es : Entries) (i : ℕ) (t : Task) (e f : Entry) → IsDistinct same_task (keys_of es)
    → slice_get es i ≡ Some (t, e) → Updates es (set_value_at es i f) t (Some f)
updates_at es i t e f distinct at = (updates-with_value_at (hash_map es es 0) i f task_equivalence distinct t e at).0

value_of : (es : Entries) (i : ℕ) (t : Task) (e : Entry) → slice_get es i ≡ Some (t, e) → slice_get (values_of es) i ≡ Some e
value_of [] i t e is = absurd cc
value_of (x ∷ xs) zero t e is =
    let one : x ≡ (t, e) = cc in
    ap (λ (y : Task × Entry). Some y.1) one
value_of (x ∷ xs) (suc i) t e is = value_of xs i t e is

-- a look-up of a task finds the entry that stands with it in the list
pub looked_up : (es : Entries) (i : ℕ) (t : Task) (e : Entry) → IsDistinct same_task (keys_of es) → slice_get es i ≡ Some (t, e) → entry_in es t ≡ Some e
looked_up es i t e distinct is =
    (Found-position (same_task t) es i (index-first (same_task t) es i
    (own_first same_task task_equivalence es i t e distinct is))).value ∙ value_of es i t e is

-- All entries wait if and only if none is ready.
pub calm : (es : Entries) (q : QueueContent) (waiting : ℕ) → IsQueueOf es q waiting → IsDistinct same_task (keys_of es) → (waiting ≡ length es) ↔ HasNoReady es
calm es q waiting k distinct = (
  λ all t e is ready. absurd (omega (arith, ready, all_wait (same_task t) es e (k.counted ∙ all) is)),
  λ none. sym k.counted ∙ count_all es (λ i t e is. below e (k.at_most_goal t e (looked_up es i t e distinct is)) (none t e (looked_up es i t e distinct is))),
)
  where
    below : (e : Entry) → e.arrived ≤ e.goal → (IsReady e → ⊥) → IsWaiting e
    below e most never = omega (arith, most, never)

-- An entry comes at the end of the list, and then an edge comes to it.
pub comes_first : (old es mid fs : Entries) (t : Task) (d e : Entry) (i flow : ℕ) (x tile : Option (List ℤ)) → es ≡ old
    → d ≡ e → x ≡ tile → Updates es mid t (Some d) → slice_get mid i ≡ Some (t, d) → ArrivesAt mid fs i flow x
    → Updates old fs t (Some (with_arrival e flow tile))
comes_first old es mid fs t d e i flow x tile same made brought one at two =
    let entered : Updates old mid t (Some d) = subst (λ (gs : Entries). Updates gs mid t (Some d)) same one in
    let both : Updates old fs t (Some (with_arrival d flow x)) = updates_twice old mid fs t (Some d) (Some (with_arrival d flow x)) entered (two t d at) in
    subst (λ (y : Option (List ℤ)). Updates old fs t (Some (with_arrival e flow y))) brought
    (subst (λ (f : Entry). Updates old fs t (Some (with_arrival f flow x))) made both)

-- one more entry at the end
pub at_end : (es : Entries) (x : Task × Entry) (n : ℕ) → n ≡ length es → slice_get (es ++ x ∷ []) n ≡ Some x
at_end [] x zero h = refl
at_end [] x (suc n) h = absurd (omega (arith, h))
at_end (e ∷ es) x zero h = absurd (omega (arith, h))
at_end (e ∷ es) x (suc n) h = at_end es x n (omega (arith, h))

-- an index has one entry
pub one_row : (es : Entries) (i : ℕ) (t u : Task) (e f : Entry) → slice_get es i ≡ Some (t, e) → slice_get es i ≡ Some (u, f) → (t ≡ u) × (e ≡ f)
one_row es i t u e f one other =
    let row : Task × Entry = (t, e) in
    let found : Task × Entry = (u, f) in
    let both : Some row ≡ Some found = sym one ∙ other in
    let same : row ≡ found = cc in
    (ap (λ (x : Task × Entry). x.0) same, ap (λ (x : Task × Entry). x.1) same)

-- an edge that came to the entry at an index
pub arrives_at : (old es fs : Entries) (i : ℕ) (t : Task) (e f : Entry) (flow : ℕ) (tile : Option (List ℤ)) → es ≡ old
    → slice_get es i ≡ Some (t, e) → f ≡ with_arrival e flow tile → Updates es fs t (Some f)
    → ArrivesAt old fs i flow tile
arrives_at old es fs i t e f flow tile same at is up u g asked =
    let one = one_row es i t u e g at (ap (λ (xs : Entries). slice_get xs i) same ∙ asked) in
    let here : Updates old fs t (Some (with_arrival e flow tile)) = subst
    (λ (xs : Entries). Updates xs fs t (Some (with_arrival e flow tile))) same
    (subst (λ (x : Entry). Updates es fs t (Some x)) is up) in
    subst (λ (v : Task). Updates old fs v (Some (with_arrival g flow tile))) one.0
    (subst (λ (x : Entry). Updates old fs t (Some (with_arrival x flow tile))) one.1 here)

key_of : (es : Entries) (i : ℕ) (t : Task) (e : Entry) → slice_get es i ≡ Some (t, e) → slice_get (keys_of es) i ≡ Some t
key_of [] i t e is = absurd cc
key_of (x ∷ xs) zero t e is =
    let one : x ≡ (t, e) = cc in
    ap (λ (y : Task × Entry). Some y.0) one
key_of (x ∷ xs) (suc i) t e is = key_of xs i t e is

-- a key that a look-up finds passes its test
key_passes : (test : Task → Bool) (es : Entries) (t : Task) → lookup_key test es ≡ Some t → test t ≡ true
key_passes test [] t is = absurd cc
key_passes test (x ∷ xs) t is = by (key_passes test xs t) (test x.0) refl
  where
    by : (lookup_key test xs ≡ Some t → test t ≡ true) → (b : Bool) → test x.0 ≡ b → test t ≡ true
    by rest true h =
        let it : Some x.0 ≡ Some t = sym (ap (λ b. cond b (Some x.0) (lookup_key test xs)) h) ∙ is in
        let one : x.0 ≡ t = cc in
        subst (λ (u : Task). test u ≡ true) one h
    by rest false h = rest (sym (ap (λ b. cond b (Some x.0) (lookup_key test xs)) h) ∙ is)

-- the entry that a look-up by index found
pub found_at : (y : Content) (es : Entries) (t : Task) (r : Option ℕ) → es ≡ y.entries → r ≡ position (same_task t) (keys_of es) → IfSome r (IsEntryAt y t)
found_at y es t None same is = tt
found_at y es t (Some i) same is =
    let found = Found-position (same_task t) es i (sym is) in
    let row = slice_get_there es i found.within in
    let named : same_task t row.0.0 ≡ true = key_passes (same_task t) es row.0.0 (found.key ∙ key_of es i row.0.0 row.0.1 row.1) in
    let at : slice_get es i ≡ Some (t, row.0.1) = subst (λ (u : Task). slice_get es i ≡ Some (u, row.0.1)) (sym (same_means t row.0.0 named)) row.1 in
    record {
      entry = row.0.1;
      at = ap (λ (fs : Entries). slice_get fs i) (sym same) ∙ at;
      is = ap (λ (fs : Entries). entry_in fs t) (sym same) ∙ found.value ∙ value_of es i t row.0.1 at;
    }
