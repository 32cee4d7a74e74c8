-- Each expression that a task needs has a value, stated apart from the walk that looks for a fault. Source: DAGuE
-- (Parallel Computing, 2012) and PaRSEC (2013). Of a data flow's in dependences, the first that holds counts, so those
-- after it are not reached. Of its out dependences, and of a CTL flow's dependences, all are reached.
-- Carried by: law `a_well_task_has_its_values`.
use Rattle.std.specs.Prelude.{◌≡◌, ℤ, List, ◌∷◌, ◌++◌, IsTrue, IsOk, Some, None, slice_get}
use Rattle.ptg_base.specs.Lists.{IsIn}
use Rattle.ptg_base.specs.Task.{Task}
use Rattle.term_core.specs.Term.{Term}
use Rattle.term_core.specs.Value.{value}
use Rattle.plan_core.specs.declared.class.ClassPlan.{ClassPlan}
use Rattle.plan_core.specs.declared.flow.DepPlan.{DepPlan}
use Rattle.plan_core.specs.declared.flow.FlowPlan.{FlowPlan}
use Rattle.plan_core.specs.declared.plan.Plan.{Plan}
use Rattle.plan_core.specs.declared.target.Arg.{Arg}
use Rattle.plan_core.specs.declared.target.Target.{Target}
use Rattle.plan_core.specs.declared.target.Target.TheVariants as target
use Rattle.plan_core.specs.Kinds.{is_data}
use Rattle.dep_iter.specs.Tasks.{flows_of, locals_of}
use Rattle.dep_iter.specs.Active.{flow_ins, flow_outs, held_target}
use Rattle.dep_iter.specs.Arguments.{arg_values}

-- an expression has a value under these locals
abbrev pub HasValue : List ℤ → Term → Type 0
HasValue env e = IsOk (value e env)

-- each argument of a target has its values: each index of an element, and each argument of a task, whether one value or
-- a range
abbrev pub ArgumentsHaveValues : List ℤ → Target → Type 0
ArgumentsHaveValues env (target.Task class flow args) = (a : Arg) → IsIn a args → IsOk (arg_values a env)
ArgumentsHaveValues env (target.Element coll indices) = (e : Term) → IsIn e indices → HasValue env e
ArgumentsHaveValues env target.New = Unit {0}
ArgumentsHaveValues env target.Null = Unit {0}

-- an in dependence of a flow is reached: in a data flow, none before it holds
pub record IsReached (env : List ℤ) (f : FlowPlan) (d : DepPlan) : Type 0 where
  pub before : List DepPlan
  pub after : List DepPlan
  pub listed : f.ins ≡ before ++ d ∷ after
  pub none_before : IsTrue (is_data (Some f.kind)) → (b : DepPlan) → IsIn b before → held_target b env ≡ None

-- each expression that a flow needs has a value
pub record FlowHasValues (env : List ℤ) (f : FlowPlan) : Type 0 where
  -- the guard of each in dependence that is reached, and that of each out dependence
  pub in_guards : (d : DepPlan) (e : Term) → IsReached env f d → d.guard ≡ Some e → HasValue env e
  pub out_guards : (d : DepPlan) (e : Term) → IsIn d f.outs → d.guard ≡ Some e → HasValue env e
  -- each argument of each active target
  pub in_arguments : (x : Target) → IsIn x (flow_ins env f) → ArgumentsHaveValues env x
  pub out_arguments : (x : Target) → IsIn x (flow_outs env f) → ArgumentsHaveValues env x

-- each expression that a task needs has a value
pub record TaskHasValues (P : Plan) (t : Task) : Type 0 where
  -- each index of the affinity of its class, and the priority, if one is written
  pub affinity : (c : ClassPlan) (e : Term) → slice_get P.classes t.class ≡ Some c → IsIn e c.affinity.indices
      → HasValue (locals_of P t) e
  pub priority : (c : ClassPlan) (e : Term) → slice_get P.classes t.class ≡ Some c → c.priority ≡ Some e
      → HasValue (locals_of P t) e
  -- each expression that its flows need
  pub flows : (f : FlowPlan) → IsIn f (flows_of P t) → FlowHasValues (locals_of P t) f
