-- What follows from how tasks are compared.
use Rattle.std.specs.Prelude.{◌≡◌, ℤ, Bool, true, false, ◌&&◌, ◌||◌, ◌==◌, cond, nat_eq, nat_lt, int_lt, IsTrue, ◌↔◌, List, [], ◌∷◌}
use Rattle.std.proofs.Common.{refl, sym, ap, ◌∙◌, true≢false}
use Rattle.std.specs.declared.cmp.Ordering.{Ordering}
use Rattle.std.specs.declared.cmp.Ordering.TheVariants.{Less, Equal, Greater}
use Rattle.std.specs.Ordering.{nat_cmp, int_cmp, int_eq, is_lt, is_eq, ordering_then, ordering_reverse}
use Rattle.std.specs.Cmp.{IsTotalOrder, Equal-is, both_tied, first_so, second_so, unsigned_ties, unsigned_Decides, then_total, on_total}
use Rattle.std.specs.Cmp.{nat_cmp_total, int_cmp_total}
use Rattle.std.specs.Cmp.Lexicographic.{pointwise, slice_cmp, lists_ties, lists_total}
use Rattle.std.specs.Cmp.Rules.{signed_items}
use Rattle.ptg_base.specs.Task.{Task}
use Rattle.ptg_base.specs.TaskOrder.{params_before, task_before}
use Rattle.ptg_base.specs.TaskComparing.{same_task, task_cmp, ComparesInTaskOrder}

-- the comparison is a total order
pub task_cmp-total : IsTotalOrder task_cmp
task_cmp-total =
    then_total (on_total (λ (t : Task). t.class) nat_cmp_total)
    (on_total (λ (t : Task). t.params) (lists_total int_cmp_total))

-- tasks are the same if and only if they compare as Equal
pub same_task-ties : (a b : Task) → same_task a b ≡ is_eq (task_cmp a b)
same_task-ties a b =
    both_tied (nat_eq a.class b.class) (pointwise int_eq a.params b.params)
    (nat_cmp a.class b.class) (slice_cmp int_cmp a.params b.params)
    (unsigned_ties a.class b.class) (lists_ties int_cmp (λ x y. refl) a.params b.params)

-- the test `same_task` holds if and only if the tasks are the same
pub same_task-decides : (a b : Task) → IsTrue (same_task a b) ↔ (a ≡ b)
same_task-decides a b = (one, itself)
  where
    one : IsTrue (same_task a b) → a ≡ b
    one e =
        let class_is : a.class ≡ b.class =
        (unsigned_Decides a.class b.class).0
        (first_so (nat_eq a.class b.class) (pointwise int_eq a.params b.params) e) in
        let params_are : a.params ≡ b.params =
        (signed_items a.params b.params).0
        (second_so (nat_eq a.class b.class) (pointwise int_eq a.params b.params) e) in
        λ i. record { class = class_is i; params = params_are i }

    itself : a ≡ b → IsTrue (same_task a b)
    itself e =
        let class_is : nat_eq a.class b.class ≡ true =
        (unsigned_Decides a.class b.class).1 (ap (λ (t : Task). t.class) e) in
        let params_are : pointwise int_eq a.params b.params ≡ true =
        (signed_items a.params b.params).1 (ap (λ (t : Task). t.params) e) in
        λ i. class_is i && params_are i

-- two signed numbers decide, and if they are equal, what follows does
signed_then : (less more rest : Bool) (then : Ordering) → is_lt then ≡ rest
    → is_lt (ordering_then (cond less Less (cond more Greater Equal)) then)
    ≡ (less || (is_eq (cond less Less (cond more Greater Equal)) && rest))
signed_then true more rest then e = refl
signed_then false true rest then e = refl
signed_then false false rest then e = e

-- the same for unsigned numbers, whose comparison tests for equality second
unsigned_then : (less same rest : Bool) (then : Ordering) → is_lt then ≡ rest
    → is_lt (ordering_then (cond less Less (cond same Equal Greater)) then) ≡ (less || (same && rest))
unsigned_then true same rest then e = refl
unsigned_then false true rest then e = e
unsigned_then false false rest then e = refl

params_before-cmp : (xs ys : List ℤ) → is_lt (slice_cmp int_cmp xs ys) ≡ params_before xs ys
params_before-cmp [] [] = refl
params_before-cmp [] (y ∷ ys) = refl
params_before-cmp (x ∷ xs) [] = refl
params_before-cmp (x ∷ xs) (y ∷ ys) =
    signed_then (int_lt x y) (int_lt y x) (params_before xs ys) (slice_cmp int_cmp xs ys) (params_before-cmp xs ys)

-- a task is before another in task order if and only if they compare as Less
pub task_before-cmp : (a b : Task) → is_lt (task_cmp a b) ≡ task_before a b
task_before-cmp a b =
    unsigned_then (nat_lt a.class b.class) (a.class == b.class) (params_before a.params b.params)
    (slice_cmp int_cmp a.params b.params) (params_before-cmp a.params b.params)

-- a comparison is Less if and only if its test for Less holds
less_is : (r : Ordering) (b : Bool) → is_lt r ≡ b → (r ≡ Less) ↔ IsTrue b
less_is r b e = (λ h. sym e ∙ ap is_lt h, λ h. by r (e ∙ h))
  where
    by : (r : Ordering) → is_lt r ≡ true → r ≡ Less
    by Less h = refl
    by Equal h = absurd (true≢false (sym h))
    by Greater h = absurd (true≢false (sym h))

-- a comparison is Greater if and only if the one with its sides exchanged is Less
greater_is : (r s : Ordering) → r ≡ ordering_reverse s → (r ≡ Greater) ↔ (s ≡ Less)
greater_is r s e = (λ h. by s (sym e ∙ h), λ h. e ∙ ap ordering_reverse h)
  where
    by : (s : Ordering) → ordering_reverse s ≡ Greater → s ≡ Less
    by Less h = refl
    by Equal h = absurd (true≢false (ap is_eq h))
    by Greater h = absurd (true≢false (ap is_lt h))

-- comparing tasks is task order
pub task_cmp-compares : (a b : Task) → ComparesInTaskOrder a b (task_cmp a b)
task_cmp-compares a b =
    let level = Equal-is (task_cmp a b) in
    let turned = greater_is (task_cmp a b) (task_cmp b a) (task_cmp-total.antisymm a b) in
    let back = less_is (task_cmp b a) (task_before b a) (task_before-cmp b a) in
    record {
      before = less_is (task_cmp a b) (task_before a b) (task_before-cmp a b);
      same = (
        λ h. (same_task-decides a b).0 (same_task-ties a b ∙ level.1 h),
        λ h. level.0 (sym (same_task-ties a b) ∙ (same_task-decides a b).1 h),
      );
      after = (λ h. back.0 (turned.0 h), λ h. turned.1 (back.1 h));
    }
