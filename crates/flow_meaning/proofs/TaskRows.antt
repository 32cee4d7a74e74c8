-- Rows in task order are the same, whatever order the tasks come in.
use Rattle.std.proofs.Common.{◌≡◌, ◌≢◌, ◌≤◌, true, false, not, List, [], ◌∷◌, ◌++◌, refl, ap, sym, ◌∙◌, ◌⊎◌, inl, inr, arith}
use Rattle.std.proofs.lemmas.Bool.{false≢true, false_from_ne_true}
use Rattle.std.specs.List.{flat_map}
use Rattle.std.specs.declared.cmp.Ordering.{Ordering}
use Rattle.std.specs.declared.cmp.Ordering.TheVariants.{Less, Equal, Greater}
use Rattle.ptg_base.specs.Lists.{IsIn}
use Rattle.ptg_base.specs.Task.{Task}
use Rattle.ptg_base.specs.TaskOrder.{in_task_order, insert_by, task_before}
use Rattle.ptg_base.specs.TaskComparing.{ComparesInTaskOrder, same_task, task_cmp}
use Rattle.ptg_base.specs.TaskLaws.{same_task-decides, task_cmp-compares}
use Rattle.list_lemmas.proofs.Truth.{by_test}
use Rattle.list_lemmas.proofs.Counts.{count-some, without, without-weigh, same_in}
use Rattle.list_lemmas.proofs.Tasks.{before_trans, insert_here, insert_past}
use Rattle.list_lemmas.specs.Counting.{HasSameMembers, as_number, count}

-- exactly one of two different tasks is before the other
before_other : (a b : Task) → a ≢ b → task_before a b ≡ not (task_before b a)
before_other a b ne = by (task_cmp a b) (task_cmp-compares a b)
  where
    by : (o : Ordering) → ComparesInTaskOrder a b o → task_before a b ≡ not (task_before b a)
    by Less c = c.before.0 refl ∙ sym (ap not (false_from_ne_true (task_before b a) (λ h. let k = c.after.1 h in absurd cc)))
    by Equal c = absurd (ne (c.same.0 refl))
    by Greater c = false_from_ne_true (task_before a b) (λ h. let k = c.before.1 h in absurd cc) ∙ sym (ap not (c.after.0 refl))

module _ {A : Type 0} (key : A → Task) where
  insert_swap : (x y : A) → task_before (key x) (key y) ≡ true → task_before (key y) (key x) ≡ false → (l : List A)
      → insert_by key x (insert_by key y l) ≡ insert_by key y (insert_by key x l)
  insert_swap x y h k [] = insert_here key x y [] k ∙ sym (insert_past key y x [] h)
  insert_swap x y h k (z ∷ zs) =
      by_test (task_before (key z) (key y))
      (λ zy.
      by_test (task_before (key z) (key x))
      (λ zx.
      ap (insert_by key x) (insert_past key y z zs zy) ∙ insert_past key x z (insert_by key y zs) zx
      ∙ ap (λ l. z ∷ l) (insert_swap x y h k zs)
      ∙ sym (ap (insert_by key y) (insert_past key x z zs zx) ∙ insert_past key y z (insert_by key x zs) zy))
      (λ zx.
      ap (insert_by key x) (insert_past key y z zs zy) ∙ insert_here key x z (insert_by key y zs) zx
      ∙ sym (ap (insert_by key y) (insert_here key x z zs zx) ∙ insert_past key y x (z ∷ zs) h ∙ ap (λ l. x ∷ l) (insert_past key y z zs zy))))
      (λ zy.
      let zx : task_before (key z) (key x) ≡ false = false_from_ne_true (task_before (key z) (key x))
      (λ e. false≢true (sym zy ∙ before_trans (key z) (key x) (key y) e h)) in
      ap (insert_by key x) (insert_here key y z zs zy) ∙ insert_here key x y (z ∷ zs) k
      ∙ sym (ap (insert_by key y) (insert_here key x z zs zx) ∙ insert_past key y x (z ∷ zs) h ∙ ap (λ l. x ∷ l) (insert_here key y z zs zy)))

  insert_either : (x y : A) → key x ≢ key y → (l : List A) → insert_by key x (insert_by key y l) ≡ insert_by key y (insert_by key x l)
  insert_either x y ne l =
      by_test (task_before (key y) (key x))
      (λ h. sym (insert_swap y x h (before_other (key x) (key y) ne ∙ ap not h) l))
      (λ h. insert_swap x y (before_other (key x) (key y) ne ∙ ap not h) h l)

  -- each task has at most one row
  abbrev pub HaveOneRow : (Task → List A) → Type 0
  HaveOneRow g = (t : Task) → (g t ≡ []) ⊎ ((x : A) × (g t ≡ x ∷ []) × (key x ≡ t))

  -- rows inserted among others
  insert_all : List A → List A → List A
  insert_all [] l = l
  insert_all (x ∷ xs) l = insert_by key x (insert_all xs l)

  ordered-append : (xs ys : List A) → in_task_order key (xs ++ ys) ≡ insert_all xs (in_task_order key ys)
  unfolding insert_all
  ordered-append [] ys = refl
  ordered-append (x ∷ xs) ys = ap (insert_by key x) (ordered-append xs ys)

  all_swap : (xs ys : List A) (t u : Task) → t ≢ u → (xs ≡ []) ⊎ ((x : A) × (xs ≡ x ∷ []) × (key x ≡ t)) → (ys ≡ []) ⊎ ((y : A) × (ys ≡ y ∷ []) × (key y ≡ u)) →
      (l : List A) → insert_all xs (insert_all ys l) ≡ insert_all ys (insert_all xs l)
  unfolding insert_all
  all_swap xs ys t u ne (inl none) q l = ap (λ zs. insert_all zs (insert_all ys l)) none ∙ ap (λ zs. insert_all ys (insert_all zs l)) (sym none)
  all_swap xs ys t u ne (inr p) (inl none) l = ap (λ zs. insert_all xs (insert_all zs l)) none ∙ ap (λ zs. insert_all zs (insert_all xs l)) (sym none)
  all_swap xs ys t u ne (inr p) (inr q) l =
      let apart : key p.0 ≢ key q.0 = λ e. ne (sym p.2 ∙ e ∙ q.2) in
      let one_way : insert_all xs (insert_all ys l) ≡ insert_by key p.0 (insert_by key q.0 l) = ap
      (λ zs. insert_all zs (insert_all ys l)) p.1 ∙ ap (λ zs. insert_by key p.0 (insert_all zs l)) q.1 in
      let other_way : insert_all ys (insert_all xs l) ≡ insert_by key q.0 (insert_by key p.0 l) = ap
      (λ zs. insert_all ys (insert_all zs l)) p.1 ∙ ap (λ zs. insert_all zs (insert_by key p.0 l)) q.1 in
      one_way ∙ insert_either p.0 q.0 apart l ∙ sym other_way

  module _ (g : Task → List A) (rows : HaveOneRow g) where
    abbrev ordered : List Task → List A
    ordered ts = in_task_order key (flat_map g ts)

    ordered-cons : (t : Task) (ts : List Task) → ordered (t ∷ ts) ≡ insert_all (g t) (ordered ts)
    ordered-cons t ts = ordered-append (g t) (flat_map g ts)

    abbrev Once : List Task → Type 0
    Once ts = (t : Task) → count (same_task t) ts ≤ 1

    -- the rows of a task of the list may be inserted last
    ordered-out : (ts : List Task) (t : Task) (i : IsIn t ts) → Once ts → ordered ts ≡ insert_all (g t) (ordered (without t ts i))
    unfolding without
    ordered-out [] t i once = absurd i
    ordered-out (s ∷ ss) t (inl e) once = ordered-cons s ss ∙ ap (λ u. insert_all (g u) (ordered ss)) (sym e)
    ordered-out (s ∷ ss) t (inr i) once =
        let apart : s ≢ t = λ e.
        let twice = once t in
        let here = ap as_number ((same_task-decides t s).1 (sym e)) in
        let more = count-some (same_task t) ss t i ((same_task-decides t t).1 refl) in absurd (omega arith) in
        let fewer : Once ss = λ u. let k = once u in omega arith in
        ordered-cons s ss ∙ ap (insert_all (g s)) (ordered-out ss t i fewer)
        ∙ all_swap (g s) (g t) s t apart (rows s) (rows t) (ordered (without t ss i))
        ∙ ap (insert_all (g t)) (sym (ordered-cons s (without t ss i)))

    -- rows of the same tasks are the same in task order
    pub same_rows : (ts us : List Task) → HasSameMembers ts us → Once us → ordered ts ≡ ordered us
    same_rows [] [] same once = refl
    same_rows [] (u ∷ us) same once = absurd (omega (arith, same (λ _. 1)))
    same_rows (t ∷ ts) us same once =
        let i = same_in same_task same_task-decides (t ∷ ts) us same t (inl refl) in
        let rest : HasSameMembers ts (without t us i) = λ f. omega (arith, same f, without-weigh f t us i) in
        let fewer : Once (without t us i) = λ u. let k = once u in omega (arith, without-weigh (λ v. as_number (same_task u v)) t us i) in
        ordered-cons t ts ∙ ap (insert_all (g t)) (same_rows ts (without t us i) rest fewer) ∙ sym (ordered-out us t i once)
