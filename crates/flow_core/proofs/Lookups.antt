-- What look-ups by key find in the lists of a run.
use Rattle.std.proofs.Common.{◌≡◌, ℕ, ◌+◌, ℤ, Bool, true, false, cond, List, [], ◌∷◌, ◌++◌, refl, ap, sym, ◌∙◌, subst}
use Rattle.std.proofs.Common.{Option, Some, None, IsTrue, ◌↔◌, inl, inr, arith}
use Rattle.std.proofs.lemmas.Bool.{false≢true, false_from_ne_true}
use Rattle.std.specs.Prelude.{unwrap_or}
use Rattle.std.specs.Map.{keys_of, lookup, set_value}
use Rattle.indexmap.specs.IndexMap.{insert_entry}
use Rattle.indexmap.proofs.MapLemmas.{absent_from_lookup, insert_entry-absent}
use Rattle.ptg_base.specs.Lists.{IsIn}
use Rattle.ptg_base.specs.Task.{Task}
use Rattle.ptg_base.specs.TaskComparing.{same_task}
use Rattle.ptg_base.specs.TaskLaws.{same_task-decides}
use Rattle.ptg_base.specs.declared.edge.Item.{Item}
use Rattle.list_lemmas.proofs.Truth.{by_test}
use Rattle.std.proofs.lemmas.List.{map-append}
use Rattle.list_lemmas.specs.Counting.{as_number, count}
use Rattle.flow_meaning.specs.Comparing.{same_item}
use Rattle.flow_meaning.specs.Ending.{Ended}
use Rattle.flow_meaning.proofs.CallerLemmas.{same_item-decides}
use Rattle.flow_core.specs.SentItems.{all_sent}
use Rattle.flow_meaning.specs.Numbers.{number_for}

-- tests that decide the same are equal
same_tests : {P : Type 0} (a b : Bool) → IsTrue a ↔ P → IsTrue b ↔ P → a ≡ b
same_tests true true f g = refl
same_tests true false f g = sym (g.1 (f.0 refl))
same_tests false true f g = f.1 (g.0 refl)
same_tests false false f g = refl

pub sent_push : (es : List (Item × Option (List ℤ))) (i : Item) (tile : Option (List ℤ))
    → all_sent (es ++ (i, tile) ∷ []) ≡ all_sent es ++ record { item = i; tile = tile } ∷ []
sent_push es i tile = map-append (λ (e : Item × Option (List ℤ)). record { item = e.0; tile = e.1 }) es ((i, tile) ∷ [])

module _ (eq : Item → Item → Bool) (decides : (a b : Item) → IsTrue (eq a b) ↔ (a ≡ b)) where
  pub same : (a b : Item) → eq a b ≡ same_item a b
  same a b = same_tests (eq a b) (same_item a b) (decides a b) (same_item-decides a b)

  -- a table with one more item
  pub add_by : (es fs : List (Item × Option (List ℤ))) (i : Item) (tile : Option (List ℤ)) → lookup (eq i) es ≡ None
      → fs ≡ insert_entry eq es i tile → all_sent fs ≡ all_sent es ++ record { item = i; tile = tile } ∷ []
  add_by es fs i tile none e = ap all_sent (e ∙ insert_entry-absent eq i tile es (absent_from_lookup (eq i) es none)) ∙ sent_push es i tile

module _ {X : Type 0} where
  -- a look-up finds nothing if and only if the task is not among the keys
  pub key_count : (t : Task) (es : List (Task × X)) → (lookup (same_task t) es ≡ None) ↔ (count (same_task t) (keys_of es) ≡ 0)
  key_count t [] = (λ _. refl, λ _. refl)
  key_count t (e ∷ es) =
      by_test (same_task t e.0)
      (λ k.
      let found : lookup (same_task t) (e ∷ es) ≡ Some e.1 = ap (λ b. cond b (Some e.1) (lookup (same_task t) es)) k in
      (λ none. let no : Some e.1 ≡ None = sym found ∙ none in cc, λ zero. absurd (omega (arith, zero, ap as_number k))))
      (λ k.
      let next : lookup (same_task t) (e ∷ es) ≡ lookup (same_task t) es = ap (λ b. cond b (Some e.1) (lookup (same_task t) es)) k in
      let rest = key_count t es in
      (λ none. omega (arith, ap as_number k, rest.0 (sym next ∙ none)), λ zero. next ∙ rest.1 (omega (arith, ap as_number k, zero))))

  -- a task that a look-up finds is among the keys
  pub found_key : (t : Task) (es : List (Task × X)) (x : X) → lookup (same_task t) es ≡ Some x → IsIn t (keys_of es)
  found_key t [] x h = absurd cc
  found_key t (e ∷ es) x h =
      by_test (same_task t e.0)
      (λ k. inl ((same_task-decides t e.0).0 k))
      (λ k. inr (found_key t es x (sym (ap (λ b. cond b (Some e.1) (lookup (same_task t) es)) k) ∙ h)))

  -- and a look-up finds each key
  pub key_found : (t : Task) (es : List (Task × X)) → IsIn t (keys_of es) → (x : X) × (lookup (same_task t) es ≡ Some x)
  key_found t [] i = absurd i
  key_found t (e ∷ es) i =
      by_test (same_task t e.0)
      (λ k. (e.1, ap (λ b. cond b (Some e.1) (lookup (same_task t) es)) k))
      (λ k. elim i [
        | inl q ↦ absurd (false≢true (sym k ∙ (same_task-decides t e.0).1 q))
        | inr later ↦ let p = key_found t es later in (p.0, ap (λ b. cond b (Some e.1) (lookup (same_task t) es)) k ∙ p.1)
      ])

  -- if a look-up finds nothing in the longer list, it found nothing before
  pub none_before : (test : Task → Bool) (es : List (Task × X)) (t : Task) (x : X)
      → lookup test (es ++ (t, x) ∷ []) ≡ None → (lookup test es ≡ None) × (test t ≡ false)
  none_before test [] t x none = (refl, by_test (test t) (λ k. let no : Some x ≡ None = sym (ap (λ b. cond b (Some x) None) k) ∙ none in cc) (λ k. k))
  none_before test (e ∷ es) t x none =
      by_test (test e.0)
      (λ k. let no : Some e.1 ≡ None = sym (ap (λ b. cond b (Some e.1) (lookup test (es ++ (t, x) ∷ []))) k) ∙ none in cc)
      (λ k.
      let p = none_before test es t x (sym (ap (λ b. cond b (Some e.1) (lookup test (es ++ (t, x) ∷ []))) k) ∙ none) in
      (ap (λ b. cond b (Some e.1) (lookup test es)) k ∙ p.0, p.1))

  -- a write by key leaves the keys
  pub keys_set : (test : Task → Bool) (es : List (Task × X)) (x : X) → keys_of (set_value test es x) ≡ keys_of es
  keys_set test [] x = refl
  keys_set test (e ∷ es) x =
      by_test (test e.0)
      (λ k. ap (λ b. keys_of (cond b ((e.0, x) ∷ es) (e ∷ set_value test es x))) k)
      (λ k. ap (λ b. keys_of (cond b ((e.0, x) ∷ es) (e ∷ set_value test es x))) k ∙ ap (λ l. e.0 ∷ l) (keys_set test es x))

-- what a look-up finds after an entry is put in
pub found_in : {X : Type 0} (u t : Task) (es : List (Task × X)) (x : X)
    → lookup (same_task u) (insert_entry same_task es t x) ≡ cond (same_task u t) (Some x) (lookup (same_task u) es)
found_in u t [] x = refl
found_in {X} u t (e ∷ es) x =
    by_test (same_task t e.0)
    (λ k.
    let one : t ≡ e.0 = (same_task-decides t e.0).0 k in
    ap (λ b. lookup (same_task u) (cond b ((e.0, x) ∷ es) (e ∷ insert_entry same_task es t x))) k ∙ here e.0 one)
    (λ k.
    ap (λ b. lookup (same_task u) (cond b ((e.0, x) ∷ es) (e ∷ insert_entry same_task es t x))) k
    ∙ by_test (same_task u e.0)
    (λ q.
    let one : u ≡ e.0 = (same_task-decides u e.0).0 q in
    let miss : same_task u t ≡ false = false_from_ne_true (same_task u t)
    (λ h. false≢true (sym k ∙ (same_task-decides t e.0).1 (sym ((same_task-decides u t).0 h) ∙ one))) in
    ap (λ b. cond b (Some e.1) (lookup (same_task u) (insert_entry same_task es t x))) q
    ∙ sym (ap (λ b. cond b (Some x) (cond (same_task u e.0) (Some e.1) (lookup (same_task u) es))) miss
    ∙ ap (λ b. cond b (Some e.1) (lookup (same_task u) es)) q))
    (λ q.
    ap (λ b. cond b (Some e.1) (lookup (same_task u) (insert_entry same_task es t x))) q ∙ found_in u t es x
    ∙ sym (ap (λ b. cond (same_task u t) (Some x) (cond b (Some e.1) (lookup (same_task u) es))) q)))
  where
    here : (k : Task) → t ≡ k → cond (same_task u k) (Some x) (lookup (same_task u) es)
        ≡ cond (same_task u t) (Some x) (cond (same_task u k) (Some e.1) (lookup (same_task u) es))
    here k one = subst (λ v. cond (same_task u v) (Some x) (lookup (same_task u) es)
        ≡ cond (same_task u t) (Some x) (cond (same_task u v) (Some e.1) (lookup (same_task u) es))) one
        (twice (same_task u t))
      where
        twice : (b : Bool) → cond b (Some x) (lookup (same_task u) es) ≡ cond b (Some x) (cond b (Some e.1) (lookup (same_task u) es))
        twice true = refl
        twice false = refl

abbrev no_end : Option Ended
no_end = None

-- a task that was just claimed has not ended, and the others are as they were
pub end_push : (u t : Task) (es : List (Task × Option Ended))
    → unwrap_or (lookup (same_task u) (es ++ (t, None) ∷ [])) None ≡ unwrap_or (lookup (same_task u) es) None
end_push u t [] = by (same_task u t)
  where
    by : (b : Bool) → unwrap_or (cond b (Some no_end) None) no_end ≡ no_end
    by true = refl
    by false = refl
end_push u t (e ∷ es) =
    by_test (same_task u e.0)
    (λ k. ap (λ b. unwrap_or (cond b (Some e.1) (lookup (same_task u) (es ++ (t, None) ∷ []))) None) k
    ∙ sym (ap (λ b. unwrap_or (cond b (Some e.1) (lookup (same_task u) es)) None) k))
    (λ k. ap (λ b. unwrap_or (cond b (Some e.1) (lookup (same_task u) (es ++ (t, None) ∷ []))) None) k ∙ end_push u t es
    ∙ sym (ap (λ b. unwrap_or (cond b (Some e.1) (lookup (same_task u) es)) None) k))

-- the numbers of a table after one is added to that of a task
pub added : (old new : List (Task × ℕ)) (t key u : Task) (n : ℕ) → key ≡ t → n ≡ number_for old t
    → lookup (same_task u) new ≡ cond (same_task key u) (Some (n + 1)) (lookup (same_task u) old)
    → number_for new u ≡ number_for old u + as_number (same_task u t)
added old new t key u n same is up =
    by_test (same_task u t)
    (λ q.
    let one : u ≡ t = (same_task-decides u t).0 q in
    let hit : same_task key u ≡ true = (same_task-decides key u).1 (same ∙ sym one) in
    let value : number_for new u ≡ n + 1 = ap (λ o. unwrap_or o 0) (up ∙ ap (λ b. cond b (Some (n + 1)) (lookup (same_task u) old)) hit) in
    omega (arith, value, is, ap (number_for old) one, ap as_number q))
    (λ q.
    let miss : same_task key u ≡ false = false_from_ne_true (same_task key u)
    (λ h. false≢true (sym q ∙ (same_task-decides u t).1 (sym ((same_task-decides key u).0 h) ∙ same))) in
    let value : number_for new u ≡ number_for old u = ap (λ o. unwrap_or o 0) (up ∙ ap (λ b. cond b (Some (n + 1)) (lookup (same_task u) old)) miss) in
    omega (arith, value, ap as_number q))

-- a write-back at the head of a list, and one after it
pub listed_first : {A : Type 0} (w other : A) (left rest : List A) → left ≡ other ∷ rest → other ≡ w → IsTrue true ↔ IsIn w left
listed_first w other left rest e same = (λ _. subst (IsIn w) (sym e) (inl (sym same)), λ _. refl)

pub listed_later : {A : Type 0} (b : Bool) (w other : A) (left rest : List A) → left ≡ other ∷ rest → (other ≡ w → ⊥)
    → IsTrue b ↔ IsIn w rest → IsTrue b ↔ IsIn w left
listed_later b w other left rest e differs later = (
  λ k. subst (IsIn w) (sym e) (inr (later.0 k)),
  λ i. elim (subst (IsIn w) e i) [ inl q ↦ absurd (differs (sym q)) | inr t ↦ later.1 t ],
)
