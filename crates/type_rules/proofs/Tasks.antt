-- Targets in tasks, and the result of checking them.
use Rattle.std.proofs.Common.{◌≡◌, ℕ, List, Option, Some, Result, subst, length, not, ◌==◌, ◌++◌, is_none}
use Rattle.std.specs.Prelude.{slice_get, option_and_then}
use Rattle.ptg_base.specs.declared.refusal.Refusal.{Refusal}
use Rattle.plan_core.specs.declared.target.Arg.{Arg}
use Rattle.plan_core.specs.declared.target.Target.{Target}
use Rattle.plan_core.specs.declared.target.Target.TheVariants.{Task}
use Rattle.type_rules.specs.TreesAndFaults.{JdfFault, Word, ClassTree, Arity, NoSuchFlow}
use Rattle.type_rules.specs.Faults.{fault_if}
use Rattle.type_rules.specs.Names.{Job, class_named, class_of, flow_named}
use Rattle.type_rules.specs.Returns.{ReturnsChecked, both}
use Rattle.type_rules.specs.Targets.{task_faults, task_of}

-- a task target, given its class and the class's number
pub task_at : (job : Job) (flow name : Word) (count n params : ℕ) (class : ClassTree)
    (r : Result (ℕ × ℕ) (Refusal JdfFault)) → Some n ≡ class_named job name.text
    → Some class ≡ slice_get job.jdf.classes n → params ≡ length class.params
    → ReturnsChecked {A = ℕ × ℕ} r (both (λ x y. (x, y)) (Some n) (flow_named class flow.text))
    (fault_if (not (params == count)) name.spot Arity ++ fault_if (is_none (flow_named class flow.text))
    flow.spot NoSuchFlow)
    → ReturnsChecked {A = ℕ × ℕ} r (task_of job flow name) (task_faults flow name count (class_of job name.text))
task_at job flow name count n params class r e at same h =
    subst (λ (o : Option ℕ). ReturnsChecked {A = ℕ × ℕ} r
    (both (λ x y. (x, y)) o (option_and_then (λ (c : ClassTree). flow_named c flow.text)
    (option_and_then (slice_get job.jdf.classes) o)))
    (task_faults flow name count (option_and_then (slice_get job.jdf.classes) o))) e
    (subst (λ k. ReturnsChecked {A = ℕ × ℕ} r
    (both (λ x y. (x, y)) (Some n) (option_and_then (λ (c : ClassTree). flow_named c flow.text) k))
    (task_faults flow name count k)) at
    (subst (λ m. ReturnsChecked {A = ℕ × ℕ} r (both (λ x y. (x, y)) (Some n) (flow_named class flow.text))
    (fault_if (not (m == count)) name.spot Arity ++ fault_if (is_none (flow_named class flow.text)) flow.spot
    NoSuchFlow)) same h))

abbrev pub task_from : ℕ × ℕ → List Arg → Target
task_from x y = Task x.0 x.1 y
