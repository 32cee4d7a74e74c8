-- The targets of a well made plan fit it. The locals of its tasks.
use Rattle.std.proofs.Common.{◌≡◌, ℕ, ℤ, Bool, true, ◌&&◌, List, [], ◌∷◌, length, refl, ap, sym, ◌∙◌, Option, Some, None, IsTrue, inl, inr}
use Rattle.std.proofs.lemmas.Bool.{false≢true, and_from}
use Rattle.std.specs.List.{find}
use Rattle.std.specs.Option.{option_map_or}
use Rattle.std.specs.Ordering.{int_eq}
use Rattle.std.specs.Cmp.Lexicographic.{pointwise}
use Rattle.std.specs.Cmp.Rules.{signed_items}
use Rattle.ptg_base.specs.Lists.{IsIn}
use Rattle.term_core.specs.Term.{Term}
use Rattle.term_core.specs.declared.space.ClassSpace.{ClassSpace}
use Rattle.range_space.specs.Tasks.{all_locals, params_of}
use Rattle.range_space.specs.Locals.{IsLocalsOf}
use Rattle.list_lemmas.proofs.Truth.{by_test}
use Rattle.std.specs.Cmp.{first_so, second_so}
use Rattle.list_lemmas.proofs.Joins.{list_all-weaker}
use Rattle.plan_core.specs.declared.class.ClassPlan.{ClassPlan}
use Rattle.plan_core.specs.declared.flow.DepPlan.{DepPlan}
use Rattle.plan_core.specs.declared.flow.FlowPlan.{FlowPlan}
use Rattle.plan_core.specs.declared.plan.Plan.{Plan}
use Rattle.plan_core.specs.declared.target.Target.{Target}
use Rattle.plan_core.specs.declared.target.Target.TheVariants.{Task, Element, New, Null}
use Rattle.plan_core.specs.Flows.{is_dependence, is_destination, is_flow, is_second, is_source}
use Rattle.plan_core.specs.Targets.{exists_target}
use Rattle.plan_core.specs.WellMade.{IsWellClass}
use Rattle.dep_iter.specs.Tasks.{locals_with}
use Rattle.dep_iter.specs.Links.{dependence_fits, dependences_fit, fits, flows_fit}

module _ (P : Plan) (locals : ℕ) where
  fits-exists : (x : Target) → exists_target P.classes P.spaces P.colls locals x ≡ true → fits P x ≡ true
  fits-exists (Task class flow args) h = first_so _ _ h
  fits-exists (Element coll indices) h = refl
  fits-exists New h = refl
  fits-exists Null h = refl

  second_fits : (passes : Target → Bool) → ((x : Target) → passes x ≡ true → fits P x ≡ true)
      → (guard : Option Term) (o : Option Target) → is_second passes guard o ≡ true
      → option_map_or (fits P) o true ≡ true
  second_fits passes f guard None h = refl
  second_fits passes f guard (Some x) h = f x (second_so _ _ h)

  fits-dependence : (passes : Target → Bool) → ((x : Target) → passes x ≡ true → fits P x ≡ true) → (d : DepPlan)
      → is_dependence locals passes d ≡ true → dependence_fits P d ≡ true
  fits-dependence passes f d h = and_from _ _ (f d.yes (second_so _ _ (first_so _ _ h))) (second_fits passes f d.guard d.no (second_so _ _ h))

  fits-flow : (types : ℕ) (f : FlowPlan) → is_flow P.classes P.spaces P.colls types locals f ≡ true
      → (dependences_fit P f.ins && dependences_fit P f.outs) ≡ true
  fits-flow types f h =
      let ins = second_so _ _ (first_so _ _ h) in
      let outs = second_so _ _ h in
      let source = is_source P.classes P.spaces P.colls locals f in
      let destination = is_destination P.classes P.spaces P.colls locals f in
      and_from _ _
      (list_all-weaker (is_dependence locals source) (dependence_fits P)
      (fits-dependence source (λ x k. fits-exists x (first_so _ _ (first_so _ _ k)))) f.ins ins)
      (list_all-weaker (is_dependence locals destination) (dependence_fits P)
      (fits-dependence destination (λ x k. fits-exists x (first_so _ _ (first_so _ _ k)))) f.outs outs)

-- the flows of a class of a well made plan
pub fits-class : (P : Plan) (types : ℕ) (s : ClassSpace) (c : ClassPlan) → IsWellClass P.classes P.spaces P.colls types s c → IsTrue (flows_fit P c.flows)
fits-class P types s c w =
    list_all-weaker (is_flow P.classes P.spaces P.colls types (length s.defs))
    (λ (f : FlowPlan). dependences_fit P f.ins && dependences_fit P f.outs) (fits-flow P (length s.defs) types)
    c.flows w.flows

-- a search finds an element if one passes the test
find-found : {A : Type 0} (test : A → Bool) (xs : List A) (x : A) → IsIn x xs → test x ≡ true → (y : A) × (find test xs ≡ Some y) × IsIn y xs × (test y ≡ true)
find-found test [] x w h = absurd w
find-found test (z ∷ xs) x w h =
    by_test (test z)
    (λ k. (z, rw k refl, inl refl, k))
    (λ k. elim w [
      | inl e ↦ absurd (false≢true (sym k ∙ ap test (sym e) ∙ h))
      | inr t ↦ let p = find-found test xs x t h in (p.0, rw k p.1, inr p.2, p.3)
    ])

-- if a list of locals of a task is its only one, it is the task's locals
pub locals_with-only : (s : ClassSpace) (params locals : List ℤ) → IsLocalsOf s params locals
    → ((others : List ℤ) → IsLocalsOf s params others → locals ≡ others) → locals_with s params ≡ locals
unfolding locals_with
locals_with-only s params locals w only =
    let test = λ (l : List ℤ). pointwise int_eq (params_of s.params l) params in
    let p = find-found test (all_locals s) locals w.full ((signed_items (params_of s.params locals) params).1 w.same_params) in
    rw p.1 (sym (only p.0 (record { full = p.2; same_params = (signed_items (params_of s.params p.0) params).0 p.3 })))
