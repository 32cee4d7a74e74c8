-- Rows that have each task of a job, in task order.
use Rattle.std.proofs.Common.{◌≡◌, ℕ, suc, ◌≤◌, ◌↔◌, Bool, true, false, List, [], ◌∷◌, length, refl, ap, sym, ◌∙◌, subst, inl, inr, IsTrue, arith}
use Rattle.std.proofs.lemmas.Bool.{false≢true}
use Rattle.std.specs.Map.{keys_of}
use Rattle.ptg_base.specs.Lists.{HasNoRepeats, IsIn}
use Rattle.ptg_base.specs.Task.{Task}
use Rattle.ptg_base.specs.TaskOrder.{in_task_order, insert_by, task_before}
use Rattle.plan_core.specs.declared.plan.Plan.{Plan}
use Rattle.list_lemmas.proofs.Truth.{by_test}
use Rattle.list_lemmas.proofs.Tasks.{before_trans}
use Rattle.list_lemmas.proofs.Distinct.{onto}
use Rattle.dep_iter.specs.Tasks.{IsTask, all_tasks}
use Rattle.dep_iter.proofs.CallerLemmas.{listed}
use Rattle.chain_cert.specs.Certificates.{HasTasksInOrder, tasks_in_order}
use Rattle.cert_check.specs.Checking.{AreInPlace, IsBeforeFirst}
use Rattle.chain_cert.specs.Checking.{IsRising}
use Rattle.chain_cert.proofs.CallerLemmas.{here, in_order, not_itself, one_rising, past, sorted_rising, sorted_task}

length_insert : (t : Task) (us : List Task) → length (insert_by (λ (v : Task). v) t us) ≡ suc (length us)
length_insert t [] = refl
length_insert t (u ∷ us) =
    by_test (task_before u t)
    (λ h. ap length (past t u us h) ∙ ap suc (length_insert t us))
    (λ h. ap length (here t u us h))

pub length_order : (ts : List Task) → length (in_task_order (λ t. t) ts) ≡ length ts
length_order [] = refl
length_order (t ∷ ts) = length_insert t (in_task_order (λ u. u) ts) ∙ ap suc (length_order ts)

pub rising_once : (ts : List Task) → IsRising ts → HasNoRepeats ts
rising_once [] up = tt
rising_once (t ∷ ts) up = (λ i. not_itself t (up.0 t i), rising_once ts up.1)

length_tasks : (rows : List (Task × ℕ)) → length (keys_of rows) ≡ length rows
length_tasks [] = refl
length_tasks (row ∷ rows) = ap suc (length_tasks rows)

pub place_rising : (P : Plan) (ts : List Task) → AreInPlace P ts → IsRising ts
place_rising P [] h = tt
place_rising P (t ∷ []) h = (λ u i. absurd i, tt)
place_rising P (t ∷ u ∷ us) h =
    let rest = place_rising P (u ∷ us) h.1 in
    (λ v i. elim i [ inl e ↦ subst (λ w. task_before t w ≡ true) (sym e) h.0.1 | inr later ↦ before_trans t u v h.0.1 (rest.0 v later) ], rest)

pub place_task : (P : Plan) (ts : List Task) → AreInPlace P ts → (t : Task) → IsIn t ts → IsTask P t
place_task P [] h t i = absurd i
place_task P (u ∷ us) h t i = elim i [ inl e ↦ subst (IsTask P) (sym e) h.0.0 | inr later ↦ place_task P us h.1 t later ]

before_first : (t : Task) (ts : List Task) → ((u : Task) → IsIn u ts → task_before t u ≡ true) → IsBeforeFirst t ts
before_first t [] h = tt
before_first t (u ∷ us) h = h u (inl refl)

in_place : (P : Plan) (ts : List Task) → IsRising ts → ((t : Task) → IsIn t ts → IsTask P t) → AreInPlace P ts
in_place P [] up job = tt
in_place P (t ∷ ts) up job = ((job t (inl refl), before_first t ts up.0), in_place P ts up.1 (λ u i. job u (inr i)))

module _ (P : Plan) where
  -- as many rows as there are tasks, each in place, are all tasks in task order
  pub has_order : (rows : List (Task × ℕ)) → length rows ≡ length (all_tasks P) → (b : Bool)
      → IsTrue b ↔ AreInPlace P (keys_of rows) → IsTrue b ↔ HasTasksInOrder P rows
  has_order rows many b h = (
    λ e.
        let placed = h.0 e in
        let up = place_rising P (keys_of rows) placed in
        let few : length (all_tasks P) ≤ length (keys_of rows) = omega (arith, many, length_tasks rows) in
        let within : (t : Task) → IsIn t (keys_of rows) → IsIn t (all_tasks P) = λ t i. (listed P t).0 (place_task P (keys_of rows) placed t i) in
        one_rising (keys_of rows) (tasks_in_order P) up (sorted_rising P) (λ t. (
          λ i. (sorted_task P t).1 (place_task P (keys_of rows) placed t i),
          λ i. onto (keys_of rows) (all_tasks P) (rising_once (keys_of rows) up) within few t ((in_order t (all_tasks P)).0 i),
        )),
    λ q. h.1 (subst (AreInPlace P) (sym q) (in_place P (tasks_in_order P) (sorted_rising P) (λ t i. (sorted_task P t).0 i))),
  )

  -- a list of another length does not have all tasks
  pub wrong_length : (rows : List (Task × ℕ)) → (length rows ≡ length (all_tasks P) → ⊥) → IsTrue false ↔ HasTasksInOrder P rows
  wrong_length rows other = (
    λ e. absurd (false≢true e),
    λ q. absurd (other (sym (length_tasks rows) ∙ ap length q ∙ length_order (all_tasks P))),
  )

  pub order_rising : (rows : List (Task × ℕ)) → HasTasksInOrder P rows → IsRising (keys_of rows)
  order_rising rows q = subst IsRising (sym q) (sorted_rising P)
