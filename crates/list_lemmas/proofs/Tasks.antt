-- Lists of tasks: the order of tasks, counts of a task, and lists of tasks without repeats.
use Rattle.std.proofs.Common.{true, ◌≡◌, List, subst, sym, ◌<◌, arith, inl, inr, [], ap, ◌∷◌, ◌≤◌, refl, false, ◌||◌}
use Rattle.std.proofs.Common.{◌∙◌, ◌⊎◌, cond}
use Rattle.std.proofs.lemmas.Bool.{cases_eq, false≢true}
use Rattle.std.specs.List.{list_any}
use Rattle.std.specs.declared.cmp.Ordering.TheVariants.{Less}
use Rattle.ptg_base.specs.Lists.{IsIn, HasNoRepeats}
use Rattle.ptg_base.specs.Task.{Task}
use Rattle.ptg_base.specs.TaskComparing.{task_cmp, same_task}
use Rattle.ptg_base.specs.TaskLaws.{task_cmp-compares, task_cmp-total, same_task-decides}
use Rattle.ptg_base.specs.TaskOrder.{insert_by, task_before}
use Rattle.list_lemmas.proofs.Counts.{some_passes, count-once, count-some}
use Rattle.list_lemmas.proofs.Growing.{all_or_one}
use Rattle.list_lemmas.proofs.Truth.{by_test}
use Rattle.list_lemmas.specs.Counting.{count, as_number}

before_of : (a b : Task) → task_cmp a b ≡ Less → task_before a b ≡ true
before_of a b h = (task_cmp-compares a b).before.0 h

-- which task is before the other, from their comparison and back
less_of : (a b : Task) → task_before a b ≡ true → task_cmp a b ≡ Less
less_of a b h = (task_cmp-compares a b).before.1 h

pub before_trans : (a b c : Task) → task_before a b ≡ true → task_before b c ≡ true → task_before a c ≡ true
before_trans a b c h k = before_of a c (task_cmp-total.trans a b c (less_of a b h) (less_of b c k))

-- a task that is counted is a member; one that is no member is counted 0 times
pub counted_member : (t : Task) (ts : List Task) → 0 < count (same_task t) ts → IsIn t ts
counted_member t ts h = let p = some_passes (same_task t) ts h in subst (λ u. IsIn u ts) (sym ((same_task-decides t p.0).0 p.2)) p.1

pub uncounted : (t : Task) (ts : List Task) → (IsIn t ts → ⊥) → count (same_task t) ts ≡ 0
uncounted t ts h = elim (cases_eq (count (same_task t) ts) 0) [ inl z ↦ z | inr more ↦ absurd (h (counted_member t ts (omega (arith, more)))) ]

pub once_each : (ts : List Task) → HasNoRepeats ts → (t : Task) → count (same_task t) ts ≤ 1
once_each ts h t = count-once same_task (λ a b k. (same_task-decides a b).0 k) ts h t

-- a list of tasks has no repeats if each task is counted at most once
pub distinct_once : (ts : List Task) → ((t : Task) → count (same_task t) ts ≤ 1) → HasNoRepeats ts
distinct_once [] h = tt
distinct_once (t ∷ ts) h = (
  λ i. absurd (omega (arith, h t, ap as_number ((same_task-decides t t).1 refl), count-some (same_task t) ts t i ((same_task-decides t t).1 refl))),
  distinct_once ts (λ u. omega (arith, h u)),
)

pub none_member : (t : Task) (ts : List Task) → list_any (same_task t) ts ≡ false → IsIn t ts → ⊥
none_member t [] h i = i
none_member t (u ∷ us) h i =
    by_test (same_task t u)
    (λ k. false≢true (sym h ∙ ap (λ b. b || list_any (same_task t) us) k))
    (λ k. elim i [
      | inl e ↦ false≢true (sym k ∙ (same_task-decides t u).1 e)
      | inr later ↦ none_member t us (sym (ap (λ b. b || list_any (same_task t) us) k) ∙ h) later
    ])

-- a task is among these or not
pub member_or_not : (t : Task) (ts : List Task) → IsIn t ts ⊎ (IsIn t ts → ⊥)
member_or_not t [] = inr (λ i. i)
member_or_not t (u ∷ us) =
    by_test (same_task t u)
    (λ k. inl (inl ((same_task-decides t u).0 k)))
    (λ k. elim (member_or_not t us) [
      | inl i ↦ inl (inr i)
      | inr absent ↦ inr (λ i. elim i [ inl e ↦ false≢true (sym k ∙ (same_task-decides t u).1 e) | inr later ↦ absent later ])
    ])

-- all of the tasks `us` are in `ts`, or one is not
pub all_or_absent : (ts us : List Task)
    → ((t : Task) → IsIn t us → IsIn t ts) ⊎ ((t : Task) × IsIn t us × (IsIn t ts → ⊥))
all_or_absent ts us = all_or_one (λ t. IsIn t ts) (λ t. IsIn t ts → ⊥) us (λ t i. member_or_not t ts)

-- rows in task order: where a row is inserted, and which rows there are then
module _ {A : Type 0} (key : A → Task) where
  pub insert_past : (x z : A) (zs : List A) → task_before (key z) (key x) ≡ true
      → insert_by key x (z ∷ zs) ≡ z ∷ insert_by key x zs
  insert_past x z zs h = ap (λ b. cond b (z ∷ insert_by key x zs) (x ∷ z ∷ zs)) h

  pub insert_here : (x z : A) (zs : List A) → task_before (key z) (key x) ≡ false
      → insert_by key x (z ∷ zs) ≡ x ∷ z ∷ zs
  insert_here x z zs h = ap (λ b. cond b (z ∷ insert_by key x zs) (x ∷ z ∷ zs)) h

  pub from_insert : (w x : A) (l : List A) → IsIn w (insert_by key x l) → (w ≡ x) ⊎ IsIn w l
  from_insert w x [] i = i
  from_insert w x (y ∷ ys) i =
      by_test (task_before (key y) (key x))
      (λ h. elim (subst (IsIn w) (insert_past x y ys h) i)
      [ inl e ↦ inr (inl e) | inr t ↦ elim (from_insert w x ys t) [ inl e ↦ inl e | inr k ↦ inr (inr k) ] ])
      (λ h. subst (IsIn w) (insert_here x y ys h) i)
