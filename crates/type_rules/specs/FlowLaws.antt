-- Laws of resolved elements and flows.
use Rattle.std.specs.Prelude.{◌≡◌, ℕ, suc, List, [], Some, length, IsTrue}
use Rattle.term_core.specs.Term.{Term}
use Rattle.term_core.specs.declared.space.ClassSpace.{ClassSpace}
use Rattle.jdf_tree.specs.TreeLimits.{IsFlowWithinLimits}
use Rattle.plan_core.specs.declared.class.ClassPlan.{ClassPlan}
use Rattle.plan_core.specs.declared.flow.FlowPlan.{FlowPlan}
use Rattle.plan_core.specs.declared.shape.Shape.{Shape}
use Rattle.plan_core.specs.Flows.{is_flow}
use Rattle.plan_core.specs.Targets.{is_element}
use Rattle.type_rules.specs.TreesAndFaults.{Word, DefTree, FlowTree, ArgTree}
use Rattle.type_rules.specs.Names.{Job}
use Rattle.type_rules.specs.Elements.{element_faults, element_of}
use Rattle.type_rules.specs.Dependences.{flow_faults, flow_plan}
use Rattle.type_rules.specs.PartsOfJob.{HaveParts}

-- If a plan has the parts of a job, a resolved element that breaks no rule is an element of a collection of the plan.
abbrev pub ElementsExist : Type 0
ElementsExist =
    (job : Job) (classes : List ClassPlan) (spaces : List ClassSpace) (colls : List Shape)
    → HaveParts job classes spaces colls
    → (seen : List DefTree) (w : Word) (args : List ArgTree) (x : ℕ × List Term)
    → element_faults job seen w args ≡ [] → element_of job seen w args ≡ Some x
    → IsTrue (is_element colls (length seen) x.0 x.1)

-- If a plan has the parts of a job, a resolved flow that breaks no rule may be a flow of the plan.
abbrev pub FlowsAreWellMade : Type 0
FlowsAreWellMade =
    (job : Job) (classes : List ClassPlan) (spaces : List ClassSpace) (colls : List Shape)
    → HaveParts job classes spaces colls → (seen : List DefTree) (flow : FlowTree) (p : FlowPlan)
    → IsFlowWithinLimits flow → flow_faults job seen flow ≡ [] → flow_plan job seen flow ≡ Some p
    → IsTrue (is_flow classes spaces colls (suc (length job.given.types)) (length seen) p)
