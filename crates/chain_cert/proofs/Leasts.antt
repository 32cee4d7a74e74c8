-- The least of some tasks, and the heaviest row.
use Rattle.std.proofs.Common.{◌≡◌, ℕ, ◌<◌, Bool, true, false, List, [], ◌∷◌, ◌++◌, cond, refl, ap, sym, ◌∙◌, subst}
use Rattle.std.proofs.Common.{append_assoc, ◌⊎◌, inl, inr, Option, Some, None, arith}
use Rattle.std.specs.Prelude.{nat_le}
use Rattle.std.specs.List.{filter, fold, reduce}
use Rattle.std.specs.Ordering.{min_by_ordering}
use Rattle.std.specs.declared.cmp.Ordering.{Ordering}
use Rattle.std.specs.declared.cmp.Ordering.TheVariants.{Less, Equal, Greater}
use Rattle.std.proofs.lemmas.Bool.{false≢true, false_from_ne_true, leb-false, leb-true}
use Rattle.std.proofs.lemmas.List.{append-nil}
use Rattle.ptg_base.specs.Lists.{IsIn}
use Rattle.ptg_base.specs.Task.{Task}
use Rattle.ptg_base.specs.TaskComparing.{task_cmp}
use Rattle.ptg_base.specs.TaskLaws.{task_cmp-compares}
use Rattle.ptg_base.specs.TaskOrder.{task_before}
use Rattle.list_lemmas.proofs.Truth.{by_test}
use Rattle.list_lemmas.proofs.Members.{IsIn-append_left, IsIn-append_right, from_push}
use Rattle.list_lemmas.proofs.Tasks.{before_trans}
use Rattle.chain_cert.specs.Finding.{IsHeaviestRow, IsLeastWhere}
use Rattle.chain_cert.proofs.TaskSorting.{not_both, not_itself}

module _ (test : Task → Bool) (ts : List Task) (t : Task) where
  -- one more task that does not pass the test
  pub least_skips : (o : Option Task) → test t ≡ false → IsLeastWhere test ts o → IsLeastWhere test (ts ++ t ∷ []) o
  least_skips None fails h = λ u i. elim (from_push u ts t i) [ inl old ↦ h u old | inr e ↦ ap test e ∙ fails ]
  least_skips (Some b) fails h = (
    IsIn-append_left b ts (t ∷ []) h.0,
    h.1,
    λ u i k. elim (from_push u ts t i) [ inl old ↦ h.2 u old k | inr e ↦ absurd (false≢true (sym fails ∙ sym (ap test e) ∙ k)) ],
  )

  -- the first task that passes the test
  pub least_first : test t ≡ true → IsLeastWhere test ts None → IsLeastWhere test (ts ++ t ∷ []) (Some t)
  least_first passes h = (
    IsIn-append_right t ts (t ∷ []) (inl refl),
    passes,
    λ u i k. elim (from_push u ts t i) [
      | inl old ↦ absurd (false≢true (sym (h u old) ∙ k))
      | inr e ↦ false_from_ne_true (task_before u t) (λ b. not_itself t (subst (λ v. task_before v t ≡ true) e b))
    ],
  )

  pub least_new : (b : Task) → test t ≡ true → task_before t b ≡ true → IsLeastWhere test ts (Some b) → IsLeastWhere test (ts ++ t ∷ []) (Some t)
  least_new b passes less h = (
    IsIn-append_right t ts (t ∷ []) (inl refl),
    passes,
    λ u i k. elim (from_push u ts t i) [
      | inl old ↦ false_from_ne_true (task_before u t) (λ q. false≢true (sym (h.2 u old k) ∙ before_trans u t b q less))
      | inr e ↦ false_from_ne_true (task_before u t) (λ q. not_itself t (subst (λ v. task_before v t ≡ true) e q))
    ],
  )

  pub least_old : (b : Task) → task_before t b ≡ false → IsLeastWhere test ts (Some b) → IsLeastWhere test (ts ++ t ∷ []) (Some b)
  least_old b more h = (
    IsIn-append_left b ts (t ∷ []) h.0,
    h.1,
    λ u i k. elim (from_push u ts t i) [ inl old ↦ h.2 u old k | inr e ↦ ap (λ v. task_before v b) e ∙ more ],
  )

-- the lesser of two tasks, as `min` picks it
abbrev pub lesser : Task → Task → Task
lesser a b = min_by_ordering (task_cmp a b) a b

-- the least task so far after one more, as `min` picks it
abbrev next : Option Task → Task → Option Task
next None t = Some t
next (Some a) t = Some (lesser a t)

abbrev picks : Option Task → List Task → Option Task
picks None us = reduce lesser us
picks (Some a) us = Some (fold lesser a us)

picks_next : (o : Option Task) (t : Task) (us : List Task) → picks (next o t) us ≡ picks o (t ∷ us)
picks_next None t us = refl
picks_next (Some a) t us = refl

-- `min` picks the least of the tasks that pass a test
module _ (test : Task → Bool) where
  least_next : (seen : List Task) (t : Task) (o : Option Task) → test t ≡ true → IsLeastWhere test seen o → IsLeastWhere test (seen ++ t ∷ []) (next o t)
  least_next seen t None passes h = least_first test seen t passes h
  least_next seen t (Some a) passes h = pick (task_cmp a t) refl
    where
      pick : (o : Ordering) → task_cmp a t ≡ o → IsLeastWhere test (seen ++ t ∷ []) (Some (min_by_ordering o a t))
      pick Less e = least_old test seen t a (false_from_ne_true (task_before t a) (not_both a t ((task_cmp-compares a t).before.0 e))) h
      pick Equal e = least_old test seen t a (false_from_ne_true (task_before t a)
          (λ b. not_itself a (subst (λ u. task_before u a ≡ true) (sym ((task_cmp-compares a t).same.0 e)) b))) h
      pick Greater e = least_new test seen t a passes ((task_cmp-compares a t).after.0 e) h

  least_after : (seen ts : List Task) (o : Option Task) → IsLeastWhere test seen o → IsLeastWhere test (seen ++ ts) (picks o (filter test ts))
  least_after seen [] None h = subst (λ l. IsLeastWhere test l None) (sym (append-nil seen)) h
  least_after seen [] (Some a) h = subst (λ l. IsLeastWhere test l (Some a)) (sym (append-nil seen)) h
  least_after seen (t ∷ ts) o h =
      let others = filter test ts in
      subst (λ l. IsLeastWhere test l (picks o (filter test (t ∷ ts)))) (append_assoc seen (t ∷ []) ts)
      (by_test (test t)
      (λ k. subst (IsLeastWhere test ((seen ++ t ∷ []) ++ ts))
      (picks_next o t others ∙ ap (λ b. picks o (cond b (t ∷ others) others)) (sym k))
      (least_after (seen ++ t ∷ []) ts (next o t) (least_next seen t o k h)))
      (λ k. subst (IsLeastWhere test ((seen ++ t ∷ []) ++ ts)) (ap (λ b. picks o (cond b (t ∷ others) others)) (sym k))
      (least_after (seen ++ t ∷ []) ts o (least_skips test seen t o k h))))

  pub least_where : (ts : List Task) (o : Option Task) → o ≡ reduce lesser (filter test ts) → IsLeastWhere test ts o
  least_where ts o is = subst (IsLeastWhere test ts) (sym is) (least_after [] ts None (λ u i. absurd i))

-- one more row
module _ (rows : List (Task × ℕ)) (row : Task × ℕ) where
  pub heaviest_first : IsHeaviestRow rows None → IsHeaviestRow (rows ++ row ∷ []) (Some row)
  heaviest_first none = (
    IsIn-append_right row rows (row ∷ []) (inl refl),
    λ r i. elim (from_push r rows row i) [
      | inl old ↦ absurd (subst (IsIn r) none old)
      | inr e ↦ (
        omega (arith, ap (λ (x : Task × ℕ). x.1) e),
        λ _. false_from_ne_true (task_before r.0 row.0)
            (λ b. not_itself row.0 (subst (λ (x : Task × ℕ). task_before x.0 row.0 ≡ true) e b)),
      )
    ],
  )

  pub heaviest_new : (best : Task × ℕ) → (best.1 < row.1) ⊎ ((row.1 ≡ best.1) × (task_before row.0 best.0 ≡ true))
      → IsHeaviestRow rows (Some best) → IsHeaviestRow (rows ++ row ∷ []) (Some row)
  heaviest_new best more h = (
    IsIn-append_right row rows (row ∷ []) (inl refl),
    λ r i. elim (from_push r rows row i) [
      | inl old ↦
          let o = h.1 r old in
          elim more [
            | inl lt ↦ (omega (arith, o.0, lt), λ e. absurd (omega (arith, e, o.0, lt)))
            | inr p ↦ (
              omega (arith, o.0, p.0),
              λ e. false_from_ne_true (task_before r.0 row.0)
                  (λ b. false≢true (sym (o.1 (omega (arith, e, p.0))) ∙ before_trans r.0 row.0 best.0 b p.1)),
            )
          ]
      | inr e ↦ (
        omega (arith, ap (λ (x : Task × ℕ). x.1) e),
        λ _. false_from_ne_true (task_before r.0 row.0)
            (λ b. not_itself row.0 (subst (λ (x : Task × ℕ). task_before x.0 row.0 ≡ true) e b)),
      )
    ],
  )

  pub heaviest_old : (best : Task × ℕ) → ((best.1 < row.1) ⊎ ((row.1 ≡ best.1) × (task_before row.0 best.0 ≡ true)) → ⊥)
      → IsHeaviestRow rows (Some best) → IsHeaviestRow (rows ++ row ∷ []) (Some best)
  heaviest_old best less h = (
    IsIn-append_left best rows (row ∷ []) h.0,
    λ r i. elim (from_push r rows row i) [
      | inl old ↦ h.1 r old
      | inr e ↦
          let level : r.1 ≡ row.1 = ap (λ (x : Task × ℕ). x.1) e in
          let task : r.0 ≡ row.0 = ap (λ (x : Task × ℕ). x.0) e in (
            by_test (nat_le r.1 best.1) (λ k. leb-true r.1 best.1 k) (λ k. absurd (less (inl (omega (arith, level, leb-false r.1 best.1 k))))),
            λ q. false_from_ne_true (task_before r.0 best.0) (λ b. less (inr (sym level ∙ q, subst (λ v. task_before v best.0 ≡ true) task b))),
          )
    ],
  )
