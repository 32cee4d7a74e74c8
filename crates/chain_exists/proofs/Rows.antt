-- Rows of tasks with numbers: those of levels, the heaviest of them, and the least task that passes a test.
use Rattle.std.proofs.Common.{◌≡◌, ℕ, ◌↔◌, cond, Bool, true, List, [], ◌∷◌, ◌++◌, refl, ap, sym, ◌∙◌, subst}
use Rattle.std.proofs.Common.{append_assoc, inl, inr, Option, Some, None, IsSomeAnd, is_some, arith}
use Rattle.std.specs.Prelude.{◌==◌, nat_lt}
use Rattle.std.specs.Map.{lookup, keys_of}
use Rattle.std.proofs.lemmas.Bool.{false≢true, eqb-true, eq-eqb, ltb-true, ltb-false}
use Rattle.std.proofs.lemmas.List.{append-nil}
use Rattle.ptg_base.specs.Lists.{IsIn}
use Rattle.ptg_base.specs.Task.{Task}
use Rattle.ptg_base.specs.TaskComparing.{same_task}
use Rattle.ptg_base.specs.TaskLaws.{same_task-decides}
use Rattle.ptg_base.specs.TaskOrder.{task_before}
use Rattle.plan_core.specs.declared.plan.Plan.{Plan}
use Rattle.list_lemmas.proofs.Truth.{by_test}
use Rattle.chain_cert.specs.Finding.{IsHeaviestRow, IsLeastWhere}
use Rattle.chain_cert.specs.Levels.{IsLevel}
use Rattle.chain_cert.proofs.CallerLemmas.{heaviest_first, heaviest_new, heaviest_old, least_first, least_new, least_old, least_skips}

-- rows with the levels of these tasks
pub record HasLevelRows (P : Plan) (ws : List ℕ) (ts : List Task) (rows : List (Task × ℕ)) : Type 0 where
  pub tasks : keys_of rows ≡ ts
  pub each : (t : Task) (n : ℕ) → IsIn (t, n) rows → IsLevel P ws t n
  pub found : (t : Task) → IsIn t ts → IsSomeAnd (lookup (same_task t) rows) (IsLevel P ws t)

pub level_rows : (P : Plan) (ws : List ℕ) (ts : List Task) → ((t : Task) → IsIn t ts → (n : ℕ) × IsLevel P ws t n)
    → (rows : List (Task × ℕ)) × HasLevelRows P ws ts rows
level_rows P ws [] had = ([], record { tasks = refl; each = λ t n i. absurd i; found = λ t i. absurd i })
level_rows P ws (u ∷ us) had =
    let here = had u (inl refl) in
    let rest = level_rows P ws us (λ t i. had t (inr i)) in (
      (u, here.0) ∷ rest.0,
      record {
        tasks = ap (λ l. u ∷ l) rest.1.tasks;
        each = λ t n i. elim i [
          | inl e ↦
              let task : t ≡ u = ap (λ (r : Task × ℕ). r.0) e in
              let level : n ≡ here.0 = ap (λ (r : Task × ℕ). r.1) e in
              subst (IsLevel P ws t) (sym level) (subst (λ v. IsLevel P ws v here.0) (sym task) here.1)
          | inr later ↦ rest.1.each t n later
        ];
        found = λ t i.
            by_test (same_task t u)
            (λ k.
            let one : t ≡ u = (same_task-decides t u).0 k in
            subst (λ o. IsSomeAnd o (IsLevel P ws t)) (sym (ap (λ b. cond b (Some here.0) (lookup (same_task t) rest.0))
            k)) (subst (λ v. IsLevel P ws v here.0) (sym one) here.1))
            (λ k.
            let later : IsIn t us = elim i [ inl e ↦ absurd (false≢true (sym k ∙ (same_task-decides t u).1 e)) | inr l ↦ l ] in
            subst (λ o. IsSomeAnd o (IsLevel P ws t)) (sym (ap (λ b. cond b (Some here.0) (lookup (same_task t) rest.0)) k)) (rest.1.found t later));
      },
    )

-- a task has a row if and only if a look-up finds one
pub rows_have : (rows : List (Task × ℕ)) (t : Task) → IsIn t (keys_of rows) ↔ (is_some (lookup (same_task t) rows) ≡ true)
rows_have [] t = (λ i. absurd i, λ e. absurd (false≢true e))
rows_have (r ∷ rs) t =
    by_test (same_task t r.0)
    (λ k. (
      λ _. ap (λ b. is_some (cond b (Some r.1) (lookup (same_task t) rs))) k,
      λ _. inl ((same_task-decides t r.0).0 k),
    ))
    (λ k.
    let at : is_some (lookup (same_task t) (r ∷ rs)) ≡ is_some (lookup (same_task t) rs) = ap
    (λ b. is_some (cond b (Some r.1) (lookup (same_task t) rs))) k in (
      λ i. elim i [
        | inl e ↦ absurd (false≢true (sym k ∙ (same_task-decides t r.0).1 e))
        | inr later ↦ at ∙ (rows_have rs t).0 later
      ],
      λ e. inr ((rows_have rs t).1 (sym at ∙ e)),
    ))

-- ---- the least task that passes a test

module _ (test : Task → Bool) where
  least_with : (ts : List Task) (t : Task) (o : Option Task) → IsLeastWhere test ts o → (p : Option Task) × IsLeastWhere test (ts ++ t ∷ []) p
  least_with ts t o h = by_test (test t) (λ k. passes o h k) (λ k. (o, least_skips test ts t o k h))
    where
      passes : (o : Option Task) → IsLeastWhere test ts o → test t ≡ true → (p : Option Task) × IsLeastWhere test (ts ++ t ∷ []) p
      passes None h k = (Some t, least_first test ts t k h)
      passes (Some b) h k = by_test (task_before t b) (λ less. (Some t, least_new test ts t b k less h)) (λ more. (Some b, least_old test ts t b more h))

  least_on : (done rest : List Task) (o : Option Task) → IsLeastWhere test done o → (p : Option Task) × IsLeastWhere test (done ++ rest) p
  least_on done [] o h = (o, subst (λ l. IsLeastWhere test l o) (sym (append-nil done)) h)
  least_on done (t ∷ rest) o h =
      let next = least_with done t o h in
      let all = least_on (done ++ t ∷ []) rest next.0 next.1 in
      (all.0, subst (λ l. IsLeastWhere test l all.0) (append_assoc done (t ∷ []) rest) all.1)

  pub least_of : (ts : List Task) → (o : Option Task) × IsLeastWhere test ts o
  least_of ts = least_on [] ts None (λ u i. absurd i)

-- ---- the heaviest row

heaviest_with : (rows : List (Task × ℕ)) (row : Task × ℕ) (o : Option (Task × ℕ)) → IsHeaviestRow rows o
    → (p : Option (Task × ℕ)) × IsHeaviestRow (rows ++ row ∷ []) p
heaviest_with rows row None h = (Some row, heaviest_first rows row h)
heaviest_with rows row (Some best) h =
    by_test (nat_lt best.1 row.1)
    (λ k. (Some row, heaviest_new rows row best (inl (ltb-true best.1 row.1 k)) h))
    (λ k.
    let low = ltb-false best.1 row.1 k in
    by_test (row.1 == best.1)
    (λ e. by_test (task_before row.0 best.0)
    (λ less. (Some row, heaviest_new rows row best (inr (eqb-true row.1 best.1 e, less)) h))
    (λ more. (Some best, heaviest_old rows row best (λ w. elim w [ inl lt ↦ absurd (omega (arith, lt, low)) | inr q ↦ false≢true (sym more ∙ q.1) ]) h)))
    (λ e. (
      Some best,
      heaviest_old rows row best (λ w. elim w
          [ inl lt ↦ absurd (omega (arith, lt, low)) | inr q ↦ false≢true (sym e ∙ eq-eqb row.1 best.1 q.0) ]) h,
    )))

heaviest_on : (done rest : List (Task × ℕ)) (o : Option (Task × ℕ)) → IsHeaviestRow done o → (p : Option (Task × ℕ)) × IsHeaviestRow (done ++ rest) p
heaviest_on done [] o h = (o, subst (λ l. IsHeaviestRow l o) (sym (append-nil done)) h)
heaviest_on done (row ∷ rest) o h =
    let next = heaviest_with done row o h in
    let all = heaviest_on (done ++ row ∷ []) rest next.0 next.1 in
    (all.0, subst (λ l. IsHeaviestRow l all.0) (append_assoc done (row ∷ []) rest) all.1)

pub heaviest_of : (rows : List (Task × ℕ)) → (o : Option (Task × ℕ)) × IsHeaviestRow rows o
heaviest_of rows = heaviest_on [] rows None refl
