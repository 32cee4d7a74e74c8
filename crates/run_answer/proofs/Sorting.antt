-- A sort by tasks puts rows of different tasks in task order.
use Rattle.std.proofs.Common.{◌≡◌, ℕ, zero, suc, ◌+◌, ◌<◌, ◌≤◌, Bool, true, false, not, cond, List, [], ◌∷◌, length}
use Rattle.std.proofs.Common.{get_or, refl, ap, sym, ◌∙◌, subst, inl, inr, arith}
use Rattle.std.proofs.lemmas.Bool.{false≢true, and_parts, and_from, not-true}
use Rattle.std.proofs.lemmas.List.Sorted.{answers_always, ranks_by, sorted_far, IsPermutation-sym, Contains-permutation, sum_by-IsPermutation}
use Rattle.std.specs.List.{filter}
use Rattle.std.specs.List.Sorted.{IsPermutation, IsSortedBy, IsSortedByClosure, ties}
use Rattle.std.specs.Fn.{Called, ComparesAs}
use Rattle.std.specs.declared.cmp.Ordering.{Ordering}
use Rattle.std.specs.declared.cmp.Ordering.TheVariants.{Less, Equal, Greater}
use denote.Param.Members.{Mut}
use denote.Ref.{Bor}
use Rattle.std.specs.Cmp.{IsStrictWeakOrder}
use Rattle.std.specs.Ordering.{is_lt, is_eq, ordering_reverse}
use Rattle.ptg_base.specs.Lists.{IsIn}
use Rattle.ptg_base.specs.Task.{Task}
use Rattle.ptg_base.specs.TaskOrder.{in_task_order, insert_by, task_before}
use Rattle.ptg_base.specs.TaskComparing.{same_task, task_cmp}
use Rattle.ptg_base.specs.TaskLaws.{same_task-ties, task_before-cmp, task_cmp-total}
use Rattle.list_lemmas.specs.Counting.{as_number, count}
use Rattle.run_answer.specs.Rows.{AreOfDifferentTasks}
use Rattle.list_lemmas.proofs.Truth.{by_test}
use Rattle.list_lemmas.proofs.Tasks.{from_insert, insert_here, insert_past}
use Rattle.list_lemmas.proofs.Members.{IsIn-filter, from_filter}
use Rattle.list_lemmas.proofs.Places.{index_of_member}
use Rattle.list_lemmas.proofs.Counts.{weigh-sum}

module _ {A : Type 0} (key : A → Task) where
  -- whether the task of one row is before that of another
  abbrev pub lt : A → A → Bool
  lt x y = task_before (key x) (key y)

  pub weak_order : IsStrictWeakOrder lt
  weak_order =
      let as_cmp : (λ (x y : A). is_lt (task_cmp (key x) (key y))) ≡ lt = λ i x y. task_before-cmp (key x) (key y) i in
      subst (λ (l : A → A → Bool). IsStrictWeakOrder l) as_cmp (ranks_by task_cmp-total key)

  not_self : (x : A) → lt x x ≡ false
  not_self x = by_test (lt x x) (λ h. weak_order.one_way x x h) (λ h. h)

  tie_from : (x y : A) → lt x y ≡ false → lt y x ≡ false → ties lt x y ≡ true
  tie_from x y h k = and_from (not (lt x y)) (not (lt y x)) (ap not h) (ap not k)

  tie_left : (x y : A) → ties lt x y ≡ true → lt x y ≡ false
  tie_left x y h = not-true (lt x y) ((and_parts (not (lt x y)) (not (lt y x)) h).0)

  tie_right : (x y : A) → ties lt x y ≡ true → lt y x ≡ false
  tie_right x y h = not-true (lt y x) ((and_parts (not (lt x y)) (not (lt y x)) h).1)

  -- no later row is before an earlier one
  abbrev IsUp : List A → Type 0
  IsUp [] = Unit {0}
  IsUp (x ∷ xs) = ((y : A) → IsIn y xs → lt y x ≡ false) × IsUp xs

  -- two rows may change places among those that tie with a row, if they don't both tie with it
  either_way : (x y : A) (l : List A) (a b : Bool) → (a ≡ true → b ≡ true → ⊥)
      → cond b (y ∷ cond a (x ∷ l) l) (cond a (x ∷ l) l) ≡ cond a (x ∷ cond b (y ∷ l) l) (cond b (y ∷ l) l)
  either_way x y l true true apart = absurd (apart refl refl)
  either_way x y l true false apart = refl
  either_way x y l false true apart = refl
  either_way x y l false false apart = refl

  insert_kept : (w x : A) (l : List A) → filter (ties lt w) (insert_by key x l) ≡ filter (ties lt w) (x ∷ l)
  insert_kept w x [] = refl
  insert_kept w x (y ∷ ys) =
      by_test (lt y x)
      (λ h.
      let apart : ties lt w x ≡ true → ties lt w y ≡ true → ⊥ = λ a b. false≢true (sym (weak_order.chain y w x (tie_right w y b) (tie_left w x a)) ∙ h) in
      ap (filter (ties lt w)) (insert_past key x y ys h) ∙ ap (λ l. cond (ties lt w y) (y ∷ l) l) (insert_kept w x ys)
      ∙ either_way x y (filter (ties lt w) ys) (ties lt w x) (ties lt w y) apart)
      (λ h. ap (filter (ties lt w)) (insert_here key x y ys h))

  order_kept : (w : A) (xs : List A) → filter (ties lt w) (in_task_order key xs) ≡ filter (ties lt w) xs
  order_kept w [] = refl
  order_kept w (x ∷ xs) = insert_kept w x (in_task_order key xs) ∙ ap (λ l. cond (ties lt w x) (x ∷ l) l) (order_kept w xs)

  up_insert : (x : A) (l : List A) → IsUp l → IsUp (insert_by key x l)
  up_insert x [] up = (λ y i. absurd i, tt)
  up_insert x (y ∷ ys) up =
      by_test (lt y x)
      (λ h.
      let first : (w : A) → IsIn w (insert_by key x ys) → lt w y ≡ false = λ w i. elim (from_insert key w x ys i)
      [ inl e ↦ subst (λ v. lt v y ≡ false) (sym e) (weak_order.one_way y x h) | inr t ↦ up.0 w t ] in
      let all : IsUp (y ∷ insert_by key x ys) = (first, up_insert x ys up.1) in
      subst IsUp (sym (insert_past key x y ys h)) all)
      (λ h.
      let first : (w : A) → IsIn w (y ∷ ys) → lt w x ≡ false = λ w i. elim i
      [ inl e ↦ subst (λ v. lt v x ≡ false) (sym e) h | inr t ↦ weak_order.chain w y x (up.0 w t) h ] in
      let all : IsUp (x ∷ y ∷ ys) = (first, up) in
      subst IsUp (sym (insert_here key x y ys h)) all)

  up_order : (xs : List A) → IsUp (in_task_order key xs)
  up_order [] = tt
  up_order (x ∷ xs) = up_insert x (in_task_order key xs) (up_order xs)

  -- the first of those that pass is one of the list, and passes
  first_kept : (p : A → Bool) (y : A) (l xs : List A) → filter p xs ≡ y ∷ l → IsIn y xs × (p y ≡ true)
  first_kept p y l xs e = from_filter p xs y (subst (IsIn y) (sym e) (inl refl))

  kept_first : (p : A → Bool) (x : A) (xs : List A) → p x ≡ true → filter p (x ∷ xs) ≡ x ∷ filter p xs
  kept_first p x xs h = ap (λ b. cond b (x ∷ filter p xs) (filter p xs)) h

  none_of : (x : A) (l : List A) → [] ≡ x ∷ l → ⊥
  none_of x l e = cc

  -- equal lists that begin with the same row, if any, have equal rests
  rest_same : (b : Bool) (x : A) (ys zs : List A) → cond b (x ∷ ys) ys ≡ cond b (x ∷ zs) zs → ys ≡ zs
  rest_same true x ys zs e = cc
  rest_same false x ys zs e = e

  self_tie : (x : A) → ties lt x x ≡ true
  self_tie x = tie_from x x (not_self x) (not_self x)

  -- the first of a list is before no row of a sorted list with the same ties
  not_before : (y z : A) (ys zs : List A) → IsUp (z ∷ zs) → filter (ties lt y) (y ∷ ys) ≡ filter (ties lt y) (z ∷ zs) → lt y z ≡ false
  not_before y z ys zs up e =
      elim (first_kept (ties lt y) y (filter (ties lt y) ys) (z ∷ zs) (sym e ∙ kept_first (ties lt y) y ys (self_tie y))).0 [
        | inl same ↦ subst (λ v. lt v z ≡ false) (sym same) (not_self z)
        | inr i ↦ up.0 y i
      ]

  -- two sorted lists with the same ties are equal
  same_lists : (ys zs : List A) → IsUp ys → IsUp zs → ((w : A) → filter (ties lt w) ys ≡ filter (ties lt w) zs) → ys ≡ zs
  same_lists [] [] up also e = refl
  same_lists [] (z ∷ zs) up also e = absurd (none_of z (filter (ties lt z) zs) (e z ∙ kept_first (ties lt z) z zs (self_tie z)))
  same_lists (y ∷ ys) [] up also e = absurd (none_of y (filter (ties lt y) ys) (sym (e y) ∙ kept_first (ties lt y) y ys (self_tie y)))
  same_lists (y ∷ ys) (z ∷ zs) up also e =
      let tie : ties lt y z ≡ true = tie_from y z (not_before y z ys zs also (e y)) (not_before z y zs ys up (sym (e z))) in
      let heads = sym (kept_first (ties lt y) y ys (self_tie y)) ∙ e y ∙ kept_first (ties lt y) z zs tie in
      let same : y ≡ z = cc in
      let rest : (w : A) → filter (ties lt w) ys ≡ filter (ties lt w) zs =
      λ w. rest_same (ties lt w y) y (filter (ties lt w) ys) (filter (ties lt w) zs)
      (e w ∙ ap (λ v. cond (ties lt w v) (v ∷ filter (ties lt w) zs) (filter (ties lt w) zs)) (sym same)) in
      ap (λ v. v ∷ ys) same ∙ ap (λ l. z ∷ l) (same_lists ys zs up.1 also.1 rest)

  sorted_rest : (x : A) (xs : List A) → IsSortedBy lt (x ∷ xs) → IsSortedBy lt xs
  sorted_rest x xs h = λ k d from to.
      let next : suc k + 1 ≡ suc (k + 1) = omega arith in
      subst (λ n. lt (get_or (x ∷ xs) n d) (get_or xs k d) ≡ false) next (h (suc k) d (omega arith) (omega arith))

  up_from : (xs : List A) → IsSortedBy lt xs → IsUp xs
  up_from [] h = tt
  up_from (x ∷ xs) h =
      let first : (y : A) → IsIn y xs → lt y x ≡ false = λ y i.
      let p = index_of_member y xs i in
      let far = sorted_far lt weak_order (x ∷ xs) h 0 (suc p.0) x (omega arith) (omega (arith, p.1)) in
      subst (λ v. lt v x ≡ false) (p.2 x) far in
      (first, up_from xs (sorted_rest x xs h))

  -- rows that tie are of the same task
  tie_is_same : (x y : A) → ties lt x y ≡ true → same_task (key x) (key y) ≡ true
  tie_is_same x y h = by (task_cmp (key x) (key y)) refl
    where
      by : (r : Ordering) → task_cmp (key x) (key y) ≡ r → same_task (key x) (key y) ≡ true
      by Less e = absurd (false≢true (sym (tie_left x y h) ∙ sym (task_before-cmp (key x) (key y)) ∙ ap is_lt e))
      by Equal e = same_task-ties (key x) (key y) ∙ ap is_eq e
      by Greater e =
          let back : task_cmp (key y) (key x) ≡ Less = task_cmp-total.antisymm (key y) (key x) ∙ ap ordering_reverse e in
          absurd (false≢true (sym (tie_right x y h) ∙ sym (task_before-cmp (key y) (key x)) ∙ ap is_lt back))

  -- at most as many rows tie with a row as are of its task
  few_ties : (w : A) (xs : List A) → length (filter (ties lt w) xs) ≤ count (λ r. same_task (key w) (key r)) xs
  few_ties w [] = omega arith
  few_ties w (x ∷ xs) =
      by_test (ties lt w x)
      (λ h. omega (arith, few_ties w xs, ap (λ b. length (cond b (x ∷ filter (ties lt w) xs) (filter (ties lt w) xs))) h, ap as_number (tie_is_same w x h)))
      (λ h. omega (arith, few_ties w xs, ap (λ b. length (cond b (x ∷ filter (ties lt w) xs) (filter (ties lt w) xs))) h))

  -- rows of different tasks are of different tasks in any order
  differ_moved : (xs ys : List A) → IsPermutation xs ys → AreOfDifferentTasks key xs → AreOfDifferentTasks key ys
  differ_moved xs ys moves once t =
      let f : A → ℕ = λ r. as_number (same_task t (key r)) in
      omega (arith, once t, weigh-sum f xs, weigh-sum f ys, sum_by-IsPermutation f xs ys moves)

  in_of : (y : A) (xs : List A) (k : ℕ) → k < length xs → get_or xs k y ≡ y → IsIn y xs
  in_of y [] k h e = absurd (omega (arith, h))
  in_of y (x ∷ xs) zero h e = inl (sym e)
  in_of y (x ∷ xs) (suc k) h e = inr (in_of y xs k (omega (arith, h)) e)

  in_moved : (y : A) (xs ys : List A) → IsPermutation xs ys → IsIn y xs → IsIn y ys
  in_moved y xs ys moves i =
      let p = index_of_member y xs i in
      let found = Contains-permutation xs ys y moves (p.0, p.1, p.2 y) in
      in_of y ys found.0 found.1 found.2

  -- if at most one row passes a test, the same one passes in any order
  same_one : (p : A → Bool) (xs ys cs bs : List A) → ((y : A) → IsIn y xs → IsIn y ys)
      → ((y : A) → IsIn y ys → IsIn y xs) → filter p xs ≡ cs → filter p ys ≡ bs → length cs ≤ 1 → length bs ≤ 1
      → cs ≡ bs
  same_one p xs ys [] [] to from e f one other = refl
  same_one p xs ys [] (b ∷ bs) to from e f one other =
      let k = first_kept p b bs ys f in absurd (subst (IsIn b) e ((IsIn-filter p xs b).1 (from b k.0, k.1)))
  same_one p xs ys (a ∷ cs) [] to from e f one other =
      let k = first_kept p a cs xs e in absurd (subst (IsIn a) f ((IsIn-filter p ys a).1 (to a k.0, k.1)))
  same_one p xs ys (a ∷ []) (b ∷ []) to from e f one other =
      let k = first_kept p a [] xs e in
      elim (subst (IsIn a) f ((IsIn-filter p ys a).1 (to a k.0, k.1))) [ inl q ↦ ap (λ v. v ∷ []) q | inr none ↦ absurd none ]
  same_one p xs ys (a ∷ c ∷ cs) (b ∷ bs) to from e f one other = absurd (omega (arith, one))
  same_one p xs ys (a ∷ []) (b ∷ c ∷ bs) to from e f one other = absurd (omega (arith, other))

  -- rows of different tasks have one order
  pub one_order : (xs ys : List A) → ((y : A) → IsIn y xs → IsIn y ys) → ((y : A) → IsIn y ys → IsIn y xs)
      → AreOfDifferentTasks key xs → AreOfDifferentTasks key ys → in_task_order key xs ≡ in_task_order key ys
  one_order xs ys to from once other =
      same_lists (in_task_order key xs) (in_task_order key ys) (up_order xs) (up_order ys)
      (λ w.
      order_kept w xs
      ∙ same_one (ties lt w) xs ys (filter (ties lt w) xs) (filter (ties lt w) ys) to from refl refl
      (omega (arith, few_ties w xs, once (key w))) (omega (arith, few_ties w ys, other (key w)))
      ∙ sym (order_kept w ys))

  -- a sort of rows of different tasks by their tasks puts them in task order
  pub sorted_is : (xs ys : List A) → IsSortedBy lt ys → IsPermutation xs ys → AreOfDifferentTasks key xs → ys ≡ in_task_order key xs
  sorted_is xs ys up moves once =
      same_lists ys (in_task_order key xs) (up_from ys up) (up_order xs)
      (λ w.
      sym (same_one (ties lt w) xs ys (filter (ties lt w) xs) (filter (ties lt w) ys) (λ y. in_moved y xs ys moves)
      (λ y. in_moved y ys xs (IsPermutation-sym xs ys moves)) refl refl (omega (arith, few_ties w xs, once (key w)))
      (omega (arith, few_ties w ys, differ_moved xs ys moves once (key w))))
      ∙ sym (order_kept w xs))

  -- the same for `sort_unstable_by`, if each call of its closure compares the tasks of the two rows
  pub sorted_from_sort_by : {F : Type 0} {g : Mut F (Bor A × (Bor A × Unit {0})) Ordering} {f : F} (xs ys : List A)
      → IsSortedByClosure g f ys → IsPermutation xs ys → AreOfDifferentTasks key xs →
      ((f : F) (a : Bor A × (Bor A × Unit {0})) (r : Ordering) (f' : F) → Called g f a r f'
      → r ≡ task_cmp (key a.0.now) (key a.1.0.now)) → ys ≡ in_task_order key xs
  sorted_from_sort_by {g = g} {f = f} xs ys up moves once compares =
      let always : ComparesAs g lt f =
      answers_always g (λ a r. is_lt r ≡ lt a.0.now a.1.0.now) f
      (λ f a r f' k. ap is_lt (compares f a r f' k) ∙ task_before-cmp (key a.0.now) (key a.1.0.now)) in
      sorted_is xs ys (up lt weak_order always) moves once
