-- A well task has well flows.
use Rattle.std.proofs.Common.{◌≡◌, ℕ, suc, ℤ, List, [], ◌∷◌, refl, Option, Some, None, IsTrue, slice_get}
use Rattle.std.proofs.lemmas.Bool.{and_from}
use Rattle.std.specs.List.{list_all}
use Rattle.std.specs.Option.{option_and_then, option_map_or}
use Rattle.ptg_base.specs.Task.{Task}
use Rattle.plan_core.specs.declared.class.ClassPlan.{ClassPlan}
use Rattle.plan_core.specs.declared.flow.FlowPlan.{FlowPlan}
use Rattle.plan_core.specs.declared.plan.Plan.{Plan}
use Rattle.list_lemmas.proofs.Truth.{by_test}
use Rattle.list_lemmas.proofs.Options.{none_from_option_map}
use Rattle.dep_iter.specs.Tasks.{flows_of, locals_of}
use Rattle.dep_iter.specs.Well.{IsWellTask, first_ill_flow, has_hints, ill_part, ill_part_of, is_well_flow}

none_ill : (env : List ℤ) (n : ℕ) (fs : List FlowPlan) → first_ill_flow env n fs ≡ None → IsTrue (list_all (is_well_flow env) fs)
none_ill env n [] h = refl
none_ill env n (f ∷ fs) h =
    by_test (is_well_flow env f)
    (λ k. and_from (is_well_flow env f) (list_all (is_well_flow env) fs) k (none_ill env (suc n) fs (rw k at h)))
    (λ k. let e = rw k at h in absurd cc)

no_part : (env : List ℤ) (c : ClassPlan) → ill_part_of env c ≡ None → IsTrue (list_all (is_well_flow env) c.flows)
no_part env c h =
    by_test (has_hints env c)
    (λ k. none_ill env 0 c.flows (none_from_option_map Some (first_ill_flow env 0 c.flows) (rw k at h)))
    (λ k. let e = rw k at h in absurd cc)

of_class : (env : List ℤ) (o : Option ClassPlan) → option_and_then (ill_part_of env) o ≡ None
    → IsTrue (list_all (is_well_flow env) (option_map_or (λ (c : ClassPlan). c.flows) o []))
of_class env None h = refl
of_class env (Some c) h = no_part env c h

-- each flow of a well task is well
pub well_flows : (P : Plan) (t : Task) → IsWellTask P t → IsTrue (list_all (is_well_flow (locals_of P t)) (flows_of P t))
unfolding ill_part
well_flows P t h = of_class (locals_of P t) (slice_get P.classes t.class) h
