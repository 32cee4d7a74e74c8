-- A JDF and its data have at most one plan.
use Rattle.std.proofs.Common.{◌≡◌, ℕ, List, map, Result, Ok, Err, ◌⊎◌, inl, inr, refl, sym, ◌∙◌, ap, subst}
use Rattle.std.proofs.Props.{props}
use Rattle.ptg_base.specs.declared.refusal.Refusal.{Refusal}
use Rattle.ptg_base.specs.declared.refusal.Refusal.TheVariants.{Fault, OutOfMemory}
use Rattle.ptg_base.specs.Returns.{FindsOrRefuses}
use Rattle.std.specs.Prelude.{IfOk}
use Rattle.term_core.specs.declared.space.ClassSpace.{ClassSpace}
use Rattle.coll_data.specs.WellMade.{elements_by_type}
use Rattle.plan_data.specs.Fit.{shape_of}
use Rattle.plan_core.specs.declared.class.ClassPlan.{ClassPlan}
use Rattle.plan_core.specs.declared.shape.Shape.{Shape}
use Rattle.plan_core.specs.declared.plan.Plan.{Plan}
use Rattle.plan_core.specs.WellMade.{IsWellMade}
use Rattle.type_rules.specs.TreesAndFaults.{JdfFault}
use Rattle.type_rules.specs.Names.{Job}
use Rattle.type_check.specs.Check.{IsFirstFault}
use Rattle.type_check.specs.Plans.{IsPlan, ReturnsPlan}
use Rattle.type_check.specs.Laws.{ResolvedIsAPlan, OnePlan, PlanHasNoFault}
use Rattle.type_check.proofs.Unique.{same_classes, one_first_fault, resolved_has_no_fault}
use Rattle.type_check.proofs.WellPlans.{well_plan}

-- the lists that a plan consists of
abbrev Lists : Type 0
Lists = (List ClassPlan × List ClassSpace) × (List Shape × List ℕ)

abbrev lists_of : Plan → Lists
lists_of p = ((p.classes, p.spaces), (p.colls, p.elems))

abbrev AreWell : Lists → Type 0
AreWell x = IsWellMade x.0.0 x.0.1 x.1.0 x.1.1

-- that lists are well made has at most one proof
well_once : (classes : List ClassPlan) (spaces : List ClassSpace) (colls : List Shape) (elems : List ℕ) → IsProp (IsWellMade classes spaces colls elems)
well_once classes spaces colls elems = hlevel props

abbrev plan_from : (x : Lists) → AreWell x → Plan
plan_from x h = record { classes = x.0.0; spaces = x.0.1; colls = x.1.0; elems = x.1.1; well_made = h }

-- plans with the same lists are equal
same_plan : (p q : Plan) → lists_of p ≡ lists_of q → p ≡ q
same_plan p q e =
    subst (λ x. (h : AreWell x) → plan_from (lists_of p) p.well_made ≡ plan_from x h) e
    (λ h. ap (plan_from (lists_of p)) (well_once p.classes p.spaces p.colls p.elems p.well_made h)) q.well_made

pub plan_there : ResolvedIsAPlan
plan_there job classes spaces within data_well h = (
  plan_from ((classes, spaces), (map shape_of job.given.colls, elements_by_type job.given))
      (well_plan job classes spaces within data_well h),
  record { resolved = h; fit = record { collections = refl; elements = refl } },
)

pub one_plan : OnePlan
one_plan job p q h k =
    let classes = same_classes job (p.classes, p.spaces) (q.classes, q.spaces) h.resolved k.resolved in
    let colls = sym h.fit.collections ∙ k.fit.collections in
    let elems = sym h.fit.elements ∙ k.fit.elements in
    same_plan p q (λ i. (classes i, (colls i, elems i)))

pub a_plan_has_no_fault : PlanHasNoFault
a_plan_has_no_fault job p f h k = resolved_has_no_fault job p.classes p.spaces f h.resolved k

only_plan : (job : Job) (r : Result Plan (Refusal JdfFault)) → ReturnsPlan job r → (p : Plan) → IsPlan job p → (r ≡ Ok p) ⊎ (r ≡ Err OutOfMemory)
only_plan job (Ok q) h p k = inl (ap (λ z. Ok z) (one_plan job q p h k))
only_plan job (Err (Fault f)) h p k = absurd (a_plan_has_no_fault job p f k h)
only_plan job (Err OutOfMemory) h p k = inr refl

only_fault : (job : Job) (r : Result Plan (Refusal JdfFault)) → ReturnsPlan job r → (f : JdfFault)
    → IsFirstFault job f → (r ≡ Err (Fault f)) ⊎ (r ≡ Err OutOfMemory)
only_fault job (Ok p) h f k = absurd (a_plan_has_no_fault job p f h k)
only_fault job (Err (Fault g)) h f k = inl (ap (λ z. Err (Fault z)) (one_first_fault job g f h k))
only_fault job (Err OutOfMemory) h f k = inr refl

is_fault : (job : Job) (r : Result Plan (Refusal JdfFault)) → ReturnsPlan job r → (f : JdfFault) → r ≡ Err (Fault f) → IsFirstFault job f
is_fault job r h f e = subst (ReturnsPlan job) e h

is_plan : (job : Job) (r : Result Plan (Refusal JdfFault)) → ReturnsPlan job r → IfOk r (IsPlan job)
is_plan job (Ok p) h = h
is_plan job (Err e) h = tt

-- what the type check returns is the one plan, the one first fault, or out of memory
pub plan_or_fault : (job : Job) (r : Result Plan (Refusal JdfFault)) → ReturnsPlan job r → FindsOrRefuses (IsPlan job) (IsFirstFault job) r
plan_or_fault job r h = record { found = is_plan job r h; only = only_plan job r h; fault = is_fault job r h; refused = only_fault job r h }
