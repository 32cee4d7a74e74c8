-- Classes of tasks whose expressions all have values on small locals, so that no task with small locals is ill.
-- Carried by: inside `accepts`.
-- Tested by: `accepted.txt`.
use Rattle.std.specs.Prelude.{◌≡◌, ℕ, ℤ, List, Bool, true, IsTrue, Option, None}
use Rattle.std.specs.Option.{option_map_or}
use Rattle.ptg_base.specs.Task.{Task}
use Rattle.term_core.specs.ValueBounds.{AreSmall}
use Rattle.plan_core.specs.declared.class.ClassPlan.{ClassPlan}
use Rattle.plan_core.specs.declared.flow.DepPlan.{DepPlan}
use Rattle.plan_core.specs.declared.plan.Plan.{Plan}
use Rattle.plan_core.specs.declared.target.Target.{Target}
use Rattle.dep_iter.specs.Active.{active_target}
use Rattle.dep_iter.specs.Tasks.{locals_of}
use Rattle.dep_iter.specs.Well.{IsWellTask, are_well, has_arguments, ill_part_of, is_well_then}

-- a test of locals passes on all small locals
abbrev pub OnSmall : (List ℤ → Bool) → Type 0
OnSmall test = (locals : List ℤ) → AreSmall locals → IsTrue (test locals)

-- whether a target has its arguments, if there is one
abbrev pub has_arguments_if_any : List ℤ → Option Target → Bool
has_arguments_if_any env x = option_map_or (has_arguments env) x true

-- on small locals, a dependence has its values, whether only the first that holds counts or all that hold
abbrev pub IsHarmlessDep : DepPlan → Type 0
IsHarmlessDep d = (first_only : Bool) → OnSmall (λ env. is_well_then first_only env (active_target d env) true)

-- the same for each of these dependences
abbrev pub AreHarmlessDeps : List DepPlan → Type 0
AreHarmlessDeps ds = (first_only : Bool) → OnSmall (λ env. are_well first_only env ds)

-- nothing of a task of the class with small locals is ill
abbrev pub IsHarmlessClass : ClassPlan → Type 0
IsHarmlessClass c = (locals : List ℤ) → AreSmall locals → ill_part_of locals c ≡ None

-- each task of the class with this number is well, if its locals are small
abbrev pub IsHarmless : Plan → ℕ → Type 0
IsHarmless P n = (t : Task) → t.class ≡ n → AreSmall (locals_of P t) → IsWellTask P t
