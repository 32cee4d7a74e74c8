-- Targets that a flow may have, given its kind: what no rule refuses is allowed.
use Rattle.std.proofs.Common.{◌≡◌, ℕ, Bool, true, false, not, cond, List, Some, IsTrue, refl, ◌∙◌, ap}
use Rattle.std.specs.List.{list_any}
use Rattle.term_core.specs.Term.{Term}
use Rattle.term_core.specs.declared.flow.FlowKind.{FlowKind}
use Rattle.term_core.specs.declared.flow.FlowKind.TheVariants.{Read, Write, Rw, Ctl}
use Rattle.plan_core.specs.declared.class.ClassPlan.{ClassPlan}
use Rattle.plan_core.specs.declared.target.Arg.{Arg}
use Rattle.plan_core.specs.declared.target.Target.TheVariants as plan
use Rattle.plan_core.specs.Closed.{is_span}
use Rattle.plan_core.specs.Kinds as kinds
use Rattle.plan_core.specs.Flows.{is_in_target, is_out_target}
use Rattle.std.proofs.lemmas.Bool.{and_from, not-false}
use Rattle.type_rules.specs.Kinds.{is_control, is_write, are_mixed}

-- two flows that both carry order or both carry a tile
pub same_sort : (k j : FlowKind) → are_mixed k j ≡ false → is_control j ≡ is_control k
same_sort k j e = go (is_control k) (is_control j) e
  where
    go : (a b : Bool) → cond a (not b) b ≡ false → b ≡ a
    go true b f = not-false b f
    go false b f = f

data_kind : (j : FlowKind) → is_control j ≡ false → kinds.is_data (Some j) ≡ true
data_kind Read h = refl
data_kind Write h = refl
data_kind Rw h = refl
data_kind Ctl h = absurd cc

control_kind : (j : FlowKind) → is_control j ≡ true → kinds.is_control (Some j) ≡ true
control_kind Read h = absurd cc
control_kind Write h = absurd cc
control_kind Rw h = absurd cc
control_kind Ctl h = refl

pub in_task : (classes : List ClassPlan) (k j : FlowKind) (n m : ℕ) (args : List Arg)
    → kinds.kind_of classes n m ≡ Some j → is_control j ≡ is_control k → is_write k ≡ false
    → (is_control k ≡ false → list_any is_span args ≡ false)
    → IsTrue (is_in_target classes k (plan.Task n m args))
in_task classes Read j n m args at same w spans =
    and_from (kinds.is_data (kinds.kind_of classes n m)) (not (list_any is_span args))
    (ap kinds.is_data at ∙ data_kind j same) (ap not (spans refl))
in_task classes Write j n m args at same w spans = absurd cc
in_task classes Rw j n m args at same w spans =
    and_from (kinds.is_data (kinds.kind_of classes n m)) (not (list_any is_span args))
    (ap kinds.is_data at ∙ data_kind j same) (ap not (spans refl))
in_task classes Ctl j n m args at same w spans = ap kinds.is_control at ∙ control_kind j same

pub out_task : (classes : List ClassPlan) (k j : FlowKind) (n m : ℕ) (args : List Arg)
    → kinds.kind_of classes n m ≡ Some j → is_control j ≡ is_control k
    → IsTrue (is_out_target classes k (plan.Task n m args))
out_task classes Read j n m args at same = ap kinds.is_data at ∙ data_kind j same
out_task classes Write j n m args at same = ap kinds.is_data at ∙ data_kind j same
out_task classes Rw j n m args at same = ap kinds.is_data at ∙ data_kind j same
out_task classes Ctl j n m args at same = ap kinds.is_control at ∙ control_kind j same

pub in_element : (classes : List ClassPlan) (k : FlowKind) (n : ℕ) (indices : List Term) → is_control k ≡ false
    → IsTrue (is_in_target classes k (plan.Element n indices))
in_element classes Read n indices h = refl
in_element classes Write n indices h = refl
in_element classes Rw n indices h = refl
in_element classes Ctl n indices h = absurd cc

pub out_element : (classes : List ClassPlan) (k : FlowKind) (n : ℕ) (indices : List Term) → is_control k ≡ false
    → IsTrue (is_out_target classes k (plan.Element n indices))
out_element classes Read n indices h = refl
out_element classes Write n indices h = refl
out_element classes Rw n indices h = refl
out_element classes Ctl n indices h = absurd cc

pub in_new : (classes : List ClassPlan) (k : FlowKind) → is_control k ≡ false → IsTrue (is_in_target classes k plan.New)
in_new classes Read h = refl
in_new classes Write h = refl
in_new classes Rw h = refl
in_new classes Ctl h = absurd cc

pub in_null : (classes : List ClassPlan) (k : FlowKind) → is_control k ≡ false → is_write k ≡ false → IsTrue (is_in_target classes k plan.Null)
in_null classes Read h w = refl
in_null classes Write h w = absurd cc
in_null classes Rw h w = refl
in_null classes Ctl h w = absurd cc

pub out_null : (classes : List ClassPlan) (k : FlowKind) → is_control k ≡ false → IsTrue (is_out_target classes k plan.Null)
out_null classes Read h = refl
out_null classes Write h = refl
out_null classes Rw h = refl
out_null classes Ctl h = absurd cc
