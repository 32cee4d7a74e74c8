-- What breaks no rule is resolved: the parts of a class, a class, and a whole JDF.
use Rattle.std.proofs.Common.{◌≡◌, List, [], ◌∷◌, ◌++◌, flat_map, Option, Some, None, Ok, Err, inl, inr, refl}
use Rattle.std.specs.Option.{IsSome}
use Rattle.std.specs.Result.{result_ok}
use Rattle.type_rules.specs.TreesAndFaults.{JdfFault, DefTree, FlowTree, ClassTree, NameTwice}
use Rattle.type_rules.specs.Faults.{first_fault, resolved_faults}
use Rattle.type_rules.specs.Returns.{both}
use Rattle.type_rules.specs.Repeats.{repeats}
use Rattle.type_rules.specs.Names.{Job}
use Rattle.type_rules.specs.Expressions.{option_faults, option_term}
use Rattle.type_rules.specs.Definitions.{space_of, space_faults}
use Rattle.type_rules.proofs.CallerLemmas.{first_none}
use Rattle.list_lemmas.proofs.Joins.{first_nil}
use Rattle.list_lemmas.proofs.Options.{some_value}
use Rattle.check_laws.proofs.AllThere.{both_there, each_there}
use Rattle.check_laws.proofs.NamesResolved.{option_there, space_there}
use Rattle.type_rules.specs.Elements.{element_faults, element_of}
use Rattle.type_rules.specs.Dependences.{flow_faults, flow_plan}
use Rattle.check_laws.proofs.FlowsResolved.{element_there, flow_is_there}
use Rattle.type_check.specs.Bodies.{BodyResult}
use Rattle.type_check.specs.Classes.{flows_of, flows_faults, head_from, head_of, head_faults, class_from, class_plan, class_faults}
use Rattle.type_check.specs.Check.{ReadBodies, classes_faults, classes_plan, names_faults, faults_of, AreResolved}
use Rattle.check_laws.specs.Laws.{HasPlanOrFault, EachHasPlanOrFault}
use Rattle.type_check.proofs.CallerLemmas.{Plans, plan_first, plan_there}
use Rattle.check_laws.proofs.Readings.{bodies_read}

-- ---- a class

flows_there : (job : Job) (seen : List DefTree) (flows : List FlowTree) → flows_faults job seen flows ≡ [] → IsSome (flows_of job seen flows)
flows_there job seen flows h =
    each_there (flow_plan job seen) (flow_faults job seen) (flow_is_there job seen) flows
    (first_nil (flat_map (flow_faults job seen) flows) (repeats (λ (f : FlowTree). f.name) NameTwice flows) h)

head_there : (job : Job) (class : ClassTree) → head_faults job class ≡ [] → IsSome (head_of job class)
head_there job class h =
    let space = space_of job class.params class.defs in
    let element = element_of job class.defs class.affinity class.affinity_args in
    let flows = flows_of job class.defs class.flows in
    let priority = option_term job class.defs class.priority in
    let bad_space = space_faults job class.params class.defs in
    let bad_element = element_faults job class.defs class.affinity class.affinity_args in
    let bad_flows = flows_faults job class.defs class.flows in
    let bad_priority = option_faults job class.defs class.priority in
    both_there head_from (both (λ x y. (x, y)) space element) (both (λ x y. (x, y)) flows priority) (bad_space ++ bad_element) (bad_flows ++ bad_priority)
    (both_there (λ x y. (x, y)) space element bad_space bad_element (space_there job class.params class.defs)
    (element_there job class.defs class.affinity class.affinity_args))
    (both_there (λ x y. (x, y)) flows priority bad_flows bad_priority (flows_there job class.defs class.flows) (option_there job class.defs class.priority)) h

body_there : (b : BodyResult) → resolved_faults b ≡ [] → IsSome (result_ok b)
body_there (Ok x) h = refl
body_there (Err f) h = absurd cc

pub class_there : (job : Job) (class : ClassTree) (b : BodyResult) → class_faults job class b ≡ [] → IsSome (class_plan job class b)
class_there job class b h = both_there (class_from class) (head_of job class) (result_ok b) (head_faults job class)
    (resolved_faults b) (head_there job class) (body_there b) h

classes_there : (job : Job) (classes : List ClassTree) (bodies : List BodyResult) → ReadBodies job classes bodies
    → classes_faults job classes bodies ≡ [] → IsSome (classes_plan job classes bodies)
classes_there job [] bodies read h = refl
classes_there job (c ∷ classes) [] read h = absurd read
classes_there job (c ∷ classes) (b ∷ bodies) read h =
    both_there plan_first (class_plan job c b) (classes_plan job classes bodies) (class_faults job c b)
    (classes_faults job classes bodies) (class_there job c b) (classes_there job classes bodies read.1) h

-- ---- the job

resolved_there : (job : Job) (bodies : List BodyResult) → ReadBodies job job.jdf.classes bodies
    → faults_of job bodies ≡ [] → (x : Plans) × AreResolved job x.0 x.1
resolved_there job bodies read h =
    let classes = some_value (classes_plan job job.jdf.classes bodies)
    (classes_there job job.jdf.classes bodies read (first_nil (classes_faults job job.jdf.classes bodies)
    (names_faults job) h)) in
    (classes.0, record { bodies = bodies; read = read; no_fault = h; plans = classes.1 })

-- a job has a plan, or a first fault
pub plan_or_first_fault : EachHasPlanOrFault
plan_or_first_fault job within data_well = go (first_fault (faults_of job bodies.0)) refl
  where
    bodies : (bodies : List BodyResult) × ReadBodies job job.jdf.classes bodies
    bodies = bodies_read job job.jdf.classes within.classes

    go : (o : Option JdfFault) → first_fault (faults_of job bodies.0) ≡ o → HasPlanOrFault job
    go (Some f) e = inr (f, record { bodies = bodies.0; read = bodies.1; first = e })
    go None e = let x = resolved_there job bodies.0 bodies.1 (first_none (faults_of job bodies.0) e) in inl (plan_there job x.0.0 x.0.1 within data_well x.1)
