-- The tasks of a job as one list.
use Rattle.std.proofs.Common.{◌≡◌, ◌↔◌, ℕ, zero, suc, ◌+◌, ℤ, List, [], ◌∷◌, length, map, refl, ap, sym, ◌∙◌, subst}
use Rattle.std.proofs.Common.{add-zero, slice_get, IsSomeAnd, inl, inr, length-append, arith}
use Rattle.std.proofs.lemmas.List.{length-map}
use Rattle.ptg_base.specs.Lists.{IsIn}
use Rattle.ptg_base.specs.Task.{Task}
use Rattle.term_core.specs.declared.space.ClassSpace.{ClassSpace}
use Rattle.range_space.specs.Tasks.{tasks}
use Rattle.range_space.specs.Walk.{task_total}
use Rattle.list_lemmas.proofs.Members.{IsIn-append_left, IsIn-append_right, IsIn-map, from_append, from_map}
use Rattle.plan_core.specs.declared.plan.Plan.{Plan}
use Rattle.dep_iter.specs.Tasks.{IsTask, all_tasks, task, tasks_from}

to_listed : (n : ℕ) (ss : List ClassSpace) (i : ℕ) (ps : List ℤ) → IsSomeAnd (slice_get ss i) (λ s. IsIn ps (tasks s))
    → IsIn (task (n + i) ps) (tasks_from n ss)
to_listed n [] i ps h = absurd h
to_listed n (s ∷ ss) zero ps h =
    subst (λ m. IsIn (task m ps) (tasks_from n (s ∷ ss))) (sym (add-zero n))
    (IsIn-append_left (task n ps) (map (task n) (tasks s)) (tasks_from (suc n) ss)
    (IsIn-map (task n) (tasks s) ps h))
to_listed n (s ∷ ss) (suc i) ps h =
    let e : suc n + i ≡ n + suc i = omega arith in
    IsIn-append_right (task (n + suc i) ps) (map (task n) (tasks s)) (tasks_from (suc n) ss)
    (subst (λ m. IsIn (task m ps) (tasks_from (suc n) ss)) e (to_listed (suc n) ss i ps h))

from_listed : (n : ℕ) (ss : List ClassSpace) (t : Task) → IsIn t (tasks_from n ss)
    → (i : ℕ) × (t.class ≡ n + i) × IsSomeAnd (slice_get ss i) (λ s. IsIn t.params (tasks s))
from_listed n [] t h = absurd h
from_listed n (s ∷ ss) t h =
    elim (from_append t (map (task n) (tasks s)) (tasks_from (suc n) ss) h) [
      | inl a ↦
          let p = from_map (task n) (tasks s) t a in
          (0, ap (λ (t : Task). t.class) p.2 ∙ sym (add-zero n), subst (λ ps. IsIn ps (tasks s)) (sym (ap (λ (t : Task). t.params) p.2)) p.1)
      | inr b ↦ let p = from_listed (suc n) ss t b in (suc p.0, (let e = p.1 in omega arith), p.2)
    ]

-- the tasks of a job are those of the list
pub listed : (P : Plan) (t : Task) → IsTask P t ↔ IsIn t (all_tasks P)
listed P t = (
  λ h. subst (λ m. IsIn (task m t.params) (all_tasks P)) (omega arith) (to_listed 0 P.spaces t.class t.params h),
  λ h. let p = from_listed 0 P.spaces t h in
      let e : p.0 ≡ t.class = let k = p.1 in omega arith in
      subst (λ i. IsSomeAnd (slice_get P.spaces i) (λ s. IsIn t.params (tasks s))) e p.2,
)

pub length-tasks_from : (n : ℕ) (ss : List ClassSpace) → length (tasks_from n ss) ≡ task_total ss
length-tasks_from n [] = refl
length-tasks_from n (s ∷ ss) =
    length-append (map (task n) (tasks s)) (tasks_from (suc n) ss)
    ∙ ap (λ k. k + length (tasks_from (suc n) ss)) (length-map (tasks s) (task n))
    ∙ ap (λ k. length (tasks s) + k) (length-tasks_from (suc n) ss)
