-- What breaks no rule of the type check is resolved, so that a job has a plan or a first fault.
-- Carried by: law `a_job_has_a_plan_or_a_fault`.
use Rattle.std.specs.Prelude.{◌≡◌, ◌⊎◌, List, [], Option}
use Rattle.std.specs.Option.{IsSome}
use Rattle.jdf_tree.specs.Expression.{Expression}
use Rattle.jdf_tree.specs.TreeLimits.{IsClassWithinLimits, IsWithinLimits}
use Rattle.coll_data.specs.WellMade as well_data
use Rattle.plan_core.specs.declared.plan.Plan.{Plan}
use Rattle.type_rules.specs.TreesAndFaults.{JdfFault, Word, DefTree, ArgTree, FlowTree, ClassTree}
use Rattle.type_rules.specs.Names.{Job}
use Rattle.type_rules.specs.Arguments.{arguments_faults, arguments_of, indices_faults, indices_of}
use Rattle.type_rules.specs.Expressions.{option_faults, option_term}
use Rattle.type_rules.specs.Definitions.{space_faults, space_of}
use Rattle.type_rules.specs.Elements.{element_faults, element_of}
use Rattle.type_rules.specs.Dependences.{flow_faults, flow_plan}
use Rattle.type_check.specs.Bodies.{BodyResult, ReadsBody}
use Rattle.type_check.specs.Classes.{class_plan, class_faults}
use Rattle.type_check.specs.Check.{IsFirstFault}
use Rattle.type_check.specs.Plans.{IsPlan}

-- Arguments that break no rule are resolved.
abbrev pub ArgumentsAreResolved : Type 0
ArgumentsAreResolved =
    (job : Job) (seen : List DefTree) (args : List ArgTree) → arguments_faults job seen args ≡ []
    → IsSome (arguments_of job seen args)

-- Indices that break no rule are resolved.
abbrev pub IndicesAreResolved : Type 0
IndicesAreResolved =
    (job : Job) (seen : List DefTree) (args : List ArgTree) → indices_faults job seen args ≡ []
    → IsSome (indices_of job seen args)

-- An optional expression that breaks no rule is resolved.
abbrev pub OptionIsResolved : Type 0
OptionIsResolved =
    (job : Job) (seen : List DefTree) (e : Option Expression) → option_faults job seen e ≡ []
    → IsSome (option_term job seen e)

-- The space of a class that breaks no rule is resolved.
abbrev pub SpaceIsResolved : Type 0
SpaceIsResolved =
    (job : Job) (params : List Word) (defs : List DefTree) → space_faults job params defs ≡ []
    → IsSome (space_of job params defs)

-- An element that breaks no rule is resolved.
abbrev pub ElementIsResolved : Type 0
ElementIsResolved =
    (job : Job) (seen : List DefTree) (w : Word) (args : List ArgTree) → element_faults job seen w args ≡ []
    → IsSome (element_of job seen w args)

-- A flow that breaks no rule is resolved.
abbrev pub FlowIsResolved : Type 0
FlowIsResolved =
    (job : Job) (seen : List DefTree) (flow : FlowTree) → flow_faults job seen flow ≡ []
    → IsSome (flow_plan job seen flow)

-- A class that breaks no rule is resolved.
abbrev pub ClassIsResolved : Type 0
ClassIsResolved =
    (job : Job) (class : ClassTree) (b : BodyResult) → class_faults job class b ≡ [] → IsSome (class_plan job class b)

-- Reading the body of a class within the limits always has a result: its tokens form a body, or have a first fault.
abbrev pub EachBodyIsRead : Type 0
EachBodyIsRead = (job : Job) (class : ClassTree) → IsClassWithinLimits class → (b : BodyResult) × ReadsBody job class b

-- A JDF and its data have a plan or a first fault.
abbrev pub HasPlanOrFault : Job → Type 0
HasPlanOrFault job = ((p : Plan) × IsPlan job p) ⊎ ((f : JdfFault) × IsFirstFault job f)

-- Each JDF within the limits, with well made data, has a plan or a first fault.
abbrev pub EachHasPlanOrFault : Type 0
EachHasPlanOrFault = (job : Job) → IsWithinLimits job.jdf → well_data.IsWellMade job.given → HasPlanOrFault job
