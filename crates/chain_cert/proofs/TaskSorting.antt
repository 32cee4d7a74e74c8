-- Tasks in task order.
use Rattle.std.proofs.Common.{◌≡◌, ℕ, ◌↔◌, true, false, cond, List, [], ◌∷◌, refl, ap, sym, ◌∙◌, subst, inl, inr}
use Rattle.std.proofs.lemmas.Bool.{false≢true}
use Rattle.std.specs.declared.cmp.Ordering.{Ordering}
use Rattle.std.specs.declared.cmp.Ordering.TheVariants.{Less, Equal, Greater}
use Rattle.std.specs.Map.{keys_of}
use Rattle.ptg_base.specs.Lists.{HasNoRepeats, IsIn}
use Rattle.ptg_base.specs.Task.{Task}
use Rattle.ptg_base.specs.TaskOrder.{in_task_order, insert_by, task_before}
use Rattle.ptg_base.specs.TaskComparing.{task_cmp}
use Rattle.ptg_base.specs.TaskLaws.{task_cmp-compares}
use Rattle.plan_core.specs.declared.plan.Plan.{Plan}
use Rattle.list_lemmas.proofs.Truth.{by_test}
use Rattle.list_lemmas.proofs.Tasks.{before_trans}
use Rattle.dep_iter.specs.Tasks.{IsTask, all_tasks}
use Rattle.dep_iter.proofs.CallerLemmas.{listed, once-all_tasks}
use Rattle.chain_cert.specs.Certificates.{HasTasksInOrder, tasks_in_order}
use Rattle.chain_cert.specs.Checking.{IsRising}

-- one of two tasks is before the other, or they are the same
pub data IsOrdered (a b : Task) : Type 0 where
  Before : task_before a b ≡ true → IsOrdered a b
  Same : a ≡ b → IsOrdered a b
  After : task_before b a ≡ true → IsOrdered a b

pub ordered : (a b : Task) → IsOrdered a b
ordered a b = by (task_cmp a b) refl
  where
    by : (r : Ordering) → task_cmp a b ≡ r → IsOrdered a b
    by Less e = Before ((task_cmp-compares a b).before.0 e)
    by Equal e = Same ((task_cmp-compares a b).same.0 e)
    by Greater e = After ((task_cmp-compares a b).after.0 e)

pub not_both : (a b : Task) → task_before a b ≡ true → task_before b a ≡ true → ⊥
not_both a b h k = let l = (task_cmp-compares a b).before.1 h in let g = (task_cmp-compares a b).after.1 k in let e : Less ≡ Greater = sym l ∙ g in cc

pub not_itself : (a : Task) → task_before a a ≡ true → ⊥
not_itself a h = not_both a a h h

-- an inserted task comes after those at the front that are before it; the members are the old ones and it
pub past : (t u : Task) (us : List Task) → task_before u t ≡ true → insert_by (λ (v : Task). v) t (u ∷ us) ≡ u ∷ insert_by (λ (v : Task). v) t us
past t u us h = ap (λ b. cond b (u ∷ insert_by (λ (v : Task). v) t us) (t ∷ u ∷ us)) h

pub here : (t u : Task) (us : List Task) → task_before u t ≡ false → insert_by (λ (v : Task). v) t (u ∷ us) ≡ t ∷ u ∷ us
here t u us h = ap (λ b. cond b (u ∷ insert_by (λ (v : Task). v) t us) (t ∷ u ∷ us)) h

in_insert : (x t : Task) (us : List Task) → IsIn x (insert_by (λ (v : Task). v) t us) ↔ IsIn x (t ∷ us)
in_insert x t [] = (λ i. i, λ i. i)
in_insert x t (u ∷ us) =
    by_test (task_before u t)
    (λ h.
    let e = past t u us h in
    let rest = in_insert x t us in (
      λ i. elim (subst (IsIn x) e i) [ inl q ↦ inr (inl q) | inr later ↦ elim (rest.0 later) [ inl q ↦ inl q | inr k ↦ inr (inr k) ] ],
      λ i. subst (IsIn x) (sym e) (elim i [ inl q ↦ inr (rest.1 (inl q)) | inr later ↦ elim later [ inl q ↦ inl q | inr k ↦ inr (rest.1 (inr k)) ] ]),
    ))
    (λ h. let e = here t u us h in (λ i. subst (IsIn x) e i, λ i. subst (IsIn x) (sym e) i))

pub in_order : (x : Task) (ts : List Task) → IsIn x (in_task_order (λ t. t) ts) ↔ IsIn x ts
in_order x [] = (λ i. i, λ i. i)
in_order x (t ∷ ts) =
    let put = in_insert x t (in_task_order (λ u. u) ts) in
    let rest = in_order x ts in (
      λ i. elim (put.0 i) [ inl q ↦ inl q | inr later ↦ inr (rest.0 later) ],
      λ i. put.1 (elim i [ inl q ↦ inl q | inr later ↦ inr (rest.1 later) ]),
    )

rising_insert : (t : Task) (us : List Task) → (IsIn t us → ⊥) → IsRising us → IsRising (insert_by (λ (v : Task). v) t us)
rising_insert t [] new up = (λ u i. absurd i, tt)
rising_insert t (u ∷ us) new up =
    by_test (task_before u t)
    (λ h.
    let rest = rising_insert t us (λ i. new (inr i)) up.1 in
    let first : (v : Task) → IsIn v (insert_by (λ (w : Task). w) t us) → task_before u v ≡ true =
    λ v i. elim ((in_insert v t us).0 i) [ inl q ↦ subst (λ w. task_before u w ≡ true) (sym q) h | inr later ↦ up.0 v later ] in
    let all : IsRising (u ∷ insert_by (λ (w : Task). w) t us) = (first, rest) in
    subst IsRising (sym (past t u us h)) all)
    (λ h.
    let less : task_before t u ≡ true = elim (ordered t u) [
      | Before k ↦ k
      | Same e ↦ absurd (new (inl e))
      | After k ↦ absurd (false≢true (sym h ∙ k))
    ] in
    let first : (v : Task) → IsIn v (u ∷ us) → task_before t v ≡ true =
    λ v i. elim i [ inl q ↦ subst (λ w. task_before t w ≡ true) (sym q) less | inr later ↦ before_trans t u v less (up.0 v later) ] in
    let all : IsRising (t ∷ u ∷ us) = (first, up) in
    subst IsRising (sym (here t u us h)) all)

pub rising_order : (ts : List Task) → HasNoRepeats ts → IsRising (in_task_order (λ t. t) ts)
rising_order [] once = tt
rising_order (t ∷ ts) once = rising_insert t (in_task_order (λ u. u) ts) (λ i. once.0 ((in_order t ts).0 i)) (rising_order ts once.1)

-- rising lists with the same members are equal
pub one_rising : (ts us : List Task) → IsRising ts → IsRising us → ((x : Task) → IsIn x ts ↔ IsIn x us) → ts ≡ us
one_rising [] [] up also same = refl
one_rising [] (u ∷ us) up also same = absurd ((same u).1 (inl refl))
one_rising (t ∷ ts) [] up also same = absurd ((same t).0 (inl refl))
one_rising (t ∷ ts) (u ∷ us) up also same =
    let heads : t ≡ u = elim ((same t).0 (inl refl)) [
      | inl e ↦ e
      | inr later ↦ elim ((same u).1 (inl refl)) [
        | inl e ↦ sym e
        | inr other ↦ absurd (not_both t u (up.0 u other) (also.0 t later))
      ]
    ] in
    let rest : (x : Task) → IsIn x ts ↔ IsIn x us = λ x. (
      λ i. elim ((same x).0 (inr i)) [ inl e ↦ absurd (not_itself t (subst (λ v. task_before t v ≡ true) (e ∙ sym heads) (up.0 x i))) | inr k ↦ k ],
      λ i. elim ((same x).1 (inr i)) [ inl e ↦ absurd (not_itself u (subst (λ v. task_before u v ≡ true) (e ∙ heads) (also.0 x i))) | inr k ↦ k ],
    ) in
    ap (λ v. v ∷ ts) heads ∙ ap (λ l. u ∷ l) (one_rising ts us up.1 also.1 rest)

module _ (P : Plan) where
  pub sorted_task : (t : Task) → IsIn t (tasks_in_order P) ↔ IsTask P t
  sorted_task t = (λ i. (listed P t).1 ((in_order t (all_tasks P)).0 i), λ job. (in_order t (all_tasks P)).1 ((listed P t).0 job))

  pub sorted_rising : IsRising (tasks_in_order P)
  sorted_rising = rising_order (all_tasks P) (once-all_tasks P)

  pub order_task : (rows : List (Task × ℕ)) → HasTasksInOrder P rows → (t : Task) → IsIn t (keys_of rows) ↔ IsTask P t
  order_task rows q t = (λ i. (sorted_task t).0 (subst (IsIn t) q i), λ job. subst (IsIn t) (sym q) ((sorted_task t).1 job))
