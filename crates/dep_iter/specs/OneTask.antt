-- For a type that keeps a task of a plan with its locals: that the task is one of the plan has at most one proof. The
-- task's class has a space, in which no task occurs twice.
-- Carried by: `TaskAt`.
-- Tested by: `edges.txt`.
use Rattle.std.proofs.Common.{◌≡◌, ℕ, ℤ, List, [], ◌∷◌, ap, refl, subst, inl, inr, Option, Some, None, slice_get}
use Rattle.std.proofs.Common.{arith}
use Rattle.std.proofs.Props.{props}
use Rattle.std.proofs.lemmas.Option.{slice_get_within}
use Rattle.std.specs.Prelude.{IsSomeAnd}
use Rattle.ptg_base.specs.Lists.{HasNoRepeats, IsIn}
use Rattle.ptg_base.specs.Task.{Task}
use Rattle.term_core.specs.declared.space.ClassSpace.{ClassSpace}
use Rattle.term_core.specs.WellSpace.{IsWellSpace}
use Rattle.list_lemmas.proofs.Places.{slice_get_there}
use Rattle.range_space.specs.Tasks.{tasks}
use Rattle.range_space.proofs.CallerLemmas.{distinct_tasks}
use Rattle.plan_core.specs.declared.plan.Plan.{Plan}
use Rattle.dep_iter.specs.Tasks.{IsTask}

-- each space of a plan is well made
pub well_space : (P : Plan) (k : ℕ) (s : ClassSpace) → slice_get P.spaces k ≡ Some s → IsWellSpace s
well_space P k s h =
    let n = P.well_made.one_space_each in
    let l = slice_get_within P.spaces k s h in
    let c = slice_get_there P.classes k (omega arith) in
    (P.well_made.fit k c.0 s c.1 h).space

-- in a list without repeats, an element is there in one way only
one_place : {A : Type 0} → IsSet A → (x : A) (ys : List A) → HasNoRepeats ys → (a b : IsIn x ys) → a ≡ b
one_place set x [] once a b = absurd a
one_place set x (y ∷ ys) once (inl d) (inl e) = ap inl (set x y d e)
one_place set x (y ∷ ys) once (inl d) (inr k) = absurd (once.0 (subst (λ z. IsIn z ys) d k))
one_place set x (y ∷ ys) once (inr h) (inl e) = absurd (once.0 (subst (λ z. IsIn z ys) e h))
one_place set x (y ∷ ys) once (inr h) (inr k) = ap inr (one_place set x ys once.1 h k)

one_task : (o : Option ClassSpace) (params : List ℤ) → ((s : ClassSpace) → o ≡ Some s → IsWellSpace s)
    → IsProp (IsSomeAnd o (λ s. IsIn params (tasks s)))
one_task None params well = λ a b. absurd a
one_task (Some s) params well = one_place (hlevel props) params (tasks s) (distinct_tasks s (well s refl))

pub IsTask-prop : (P : Plan) (t : Task) → IsProp (IsTask P t)
IsTask-prop P t = one_task (slice_get P.spaces t.class) t.params (λ s e. well_space P t.class s e)
