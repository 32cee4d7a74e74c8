-- The resolved classes of a JDF with its data, and its first fault. Source: PaRSEC 2013 and the JDF documentation; that
-- the first fault of the whole text is reported is this project's own choice.
-- Carried by: `check`; law `one_answer`.
-- Tested by: `type_faults.txt`, `type_places.txt`, `type_datatypes.txt`.
use Rattle.std.specs.Prelude.{◌≡◌, List, [], ◌∷◌, ◌++◌, Option, Some, None, Result, Ok, Err}
use Rattle.std.specs.List.{AllZip}
use Rattle.term_core.specs.declared.space.ClassSpace.{ClassSpace}
use Rattle.plan_core.specs.declared.class.ClassPlan.{ClassPlan}
use Rattle.ptg_base.specs.declared.refusal.Refusal.{Refusal}
use Rattle.ptg_base.specs.declared.refusal.Refusal.TheVariants.{Fault, OutOfMemory}
use Rattle.type_rules.specs.TreesAndFaults.{JdfFault, Word, ClassTree, NameTwice}
use Rattle.type_rules.specs.Faults.{first_fault}
use Rattle.type_rules.specs.Returns.{ReturnsChecked, both}
use Rattle.type_rules.specs.Repeats.{repeats}
use Rattle.type_rules.specs.Names.{Job}
use Rattle.type_check.specs.Bodies.{BodyResult, ReadsBody}
use Rattle.type_check.specs.Classes.{class_plan, class_faults}

-- Reading the bodies of these classes gives these results, in order.
abbrev pub ReadBodies : Job → List ClassTree → List BodyResult → Type 0
ReadBodies job classes bodies = AllZip (ReadsBody job) classes bodies

-- all faults of some classes, given the results of reading their bodies
abbrev pub classes_faults : Job → List ClassTree → List BodyResult → List JdfFault
classes_faults job [] bodies = []
classes_faults job (c ∷ classes) [] = []
classes_faults job (c ∷ classes) (b ∷ bodies) = class_faults job c b ++ classes_faults job classes bodies

-- the classes and their spaces with all names resolved, given the results of reading their bodies
abbrev pub classes_plan : Job → List ClassTree → List BodyResult → Option (List ClassPlan × List ClassSpace)
classes_plan job [] bodies = Some ([], [])
classes_plan job (c ∷ classes) [] = None
classes_plan job (c ∷ classes) (b ∷ bodies) =
    both (λ x xs. (x.0 ∷ xs.0, x.1 ∷ xs.1)) (class_plan job c b) (classes_plan job classes bodies)

-- The result of reading and resolving a class: the class with its space, or the first of its faults.
pub record IsClassRead (job : Job) (class : ClassTree)
    (r : Result (ClassPlan × ClassSpace) (Refusal JdfFault)) : Type 0 where
  pub body : BodyResult
  pub read : ReadsBody job class body
  pub checked : ReturnsChecked r (class_plan job class body) (class_faults job class body)

-- The result of reading and resolving some classes in order: the classes with their spaces, or the first of their
-- faults.
pub record AreRead (job : Job) (classes : List ClassTree)
    (r : Result (List ClassPlan × List ClassSpace) (Refusal JdfFault)) : Type 0 where
  pub bodies : List BodyResult
  pub read : ReadBodies job classes bodies
  pub checked : ReturnsChecked r (classes_plan job classes bodies) (classes_faults job classes bodies)

-- the faults of names that two globals or two classes share
abbrev pub names_faults : Job → List JdfFault
names_faults job =
    repeats (λ (w : Word). w) NameTwice job.jdf.globals ++ repeats (λ (c : ClassTree). c.name) NameTwice job.jdf.classes

-- all faults of a text
abbrev pub faults_of : Job → List BodyResult → List JdfFault
faults_of job bodies = classes_faults job job.jdf.classes bodies ++ names_faults job

-- The classes of a JDF and their spaces, with all names resolved; no rule is broken.
pub record AreResolved (job : Job) (classes : List ClassPlan) (spaces : List ClassSpace) : Type 0 where
  pub bodies : List BodyResult
  pub read : ReadBodies job job.jdf.classes bodies
  pub no_fault : faults_of job bodies ≡ []
  pub plans : classes_plan job job.jdf.classes bodies ≡ Some (classes, spaces)

-- The first fault of a JDF with its data.
pub record IsFirstFault (job : Job) (f : JdfFault) : Type 0 where
  pub bodies : List BodyResult
  pub read : ReadBodies job job.jdf.classes bodies
  pub first : first_fault (faults_of job bodies) ≡ Some f

-- The result of resolving all names: the classes with their spaces, the first fault, or out of memory.
abbrev pub ReturnsResolved : Job → Result (List ClassPlan × List ClassSpace) (Refusal JdfFault) → Type 0
ReturnsResolved job (Ok x) = AreResolved job x.0 x.1
ReturnsResolved job (Err (Fault f)) = IsFirstFault job f
ReturnsResolved job (Err OutOfMemory) = Unit {0}
