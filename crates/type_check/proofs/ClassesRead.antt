-- Classes that were read, in lists that grow by one.
use Rattle.std.proofs.Common.{◌≡◌, ℕ, ◌+◌, ◌<◌, List, [], ◌∷◌, ◌++◌, take, length, get_or, Option, Some, None, Result, Ok, Err, refl, sym, ◌∙◌, ap, subst}
use Rattle.std.proofs.lemmas.List.{take_more, append-nil, append_assoc}
use Rattle.ptg_base.specs.declared.refusal.Refusal.{Refusal}
use Rattle.ptg_base.specs.declared.refusal.Refusal.TheVariants.{Fault, OutOfMemory}
use Rattle.term_core.specs.declared.space.ClassSpace.{ClassSpace}
use Rattle.plan_core.specs.declared.class.ClassPlan.{ClassPlan}
use Rattle.type_rules.specs.TreesAndFaults.{JdfFault, ClassTree}
use Rattle.type_rules.specs.Names.{Job}
use Rattle.type_rules.specs.Returns.{ReturnsChecked, both}
use Rattle.type_check.specs.Bodies.{BodyResult, ReadsBody}
use Rattle.type_check.specs.Classes.{class_plan, class_faults}
use Rattle.type_check.specs.Check.{ReadBodies, classes_faults, classes_plan, names_faults, faults_of, IsClassRead, AreRead, ReturnsResolved}

abbrev pub Plans : Type 0
Plans = List ClassPlan × List ClassSpace

abbrev pub with_plan : Plans → ClassPlan × ClassSpace → Plans
with_plan xs x = (xs.0 ++ x.0 ∷ [], xs.1 ++ x.1 ∷ [])

abbrev pub plan_first : ClassPlan × ClassSpace → Plans → Plans
plan_first x xs = (x.0 ∷ xs.0, x.1 ∷ xs.1)

read_more : (job : Job) (classes : List ClassTree) (bodies : List BodyResult) (c : ClassTree) (b : BodyResult)
    → ReadBodies job classes bodies → ReadsBody job c b → ReadBodies job (classes ++ c ∷ []) (bodies ++ b ∷ [])
read_more job [] [] c b h k = (k, tt)
read_more job [] (x ∷ bodies) c b h k = absurd h
read_more job (y ∷ classes) [] c b h k = absurd h
read_more job (y ∷ classes) (x ∷ bodies) c b h k = (h.0, read_more job classes bodies c b h.1 k)

faults_more : (job : Job) (classes : List ClassTree) (bodies : List BodyResult) (c : ClassTree) (b : BodyResult) → ReadBodies job classes bodies
    → classes_faults job (classes ++ c ∷ []) (bodies ++ b ∷ []) ≡ classes_faults job classes bodies ++ class_faults job c b
faults_more job [] [] c b h = append-nil (class_faults job c b)
faults_more job [] (x ∷ bodies) c b h = absurd h
faults_more job (y ∷ classes) [] c b h = absurd h
faults_more job (y ∷ classes) (x ∷ bodies) c b h =
    ap (λ l. class_faults job y x ++ l) (faults_more job classes bodies c b h.1)
    ∙ sym (append_assoc (class_faults job y x) (classes_faults job classes bodies) (class_faults job c b))

plan_more : (job : Job) (classes : List ClassTree) (bodies : List BodyResult) (c : ClassTree) (b : BodyResult) → ReadBodies job classes bodies
    → classes_plan job (classes ++ c ∷ []) (bodies ++ b ∷ []) ≡ both with_plan (classes_plan job classes bodies) (class_plan job c b)
plan_more job [] [] c b h = go (class_plan job c b)
  where
    go : (o : Option (ClassPlan × ClassSpace)) → both plan_first o (Some ([], [])) ≡ both with_plan (Some ([], [])) o
    go None = refl
    go (Some x) = refl
plan_more job [] (x ∷ bodies) c b h = absurd h
plan_more job (y ∷ classes) [] c b h = absurd h
plan_more job (y ∷ classes) (x ∷ bodies) c b h =
    ap (both plan_first (class_plan job y x)) (plan_more job classes bodies c b h.1)
    ∙ go (class_plan job y x) (classes_plan job classes bodies) (class_plan job c b)
  where
    go : (a : Option (ClassPlan × ClassSpace)) (p : Option Plans) (q : Option (ClassPlan × ClassSpace))
        → both plan_first a (both with_plan p q) ≡ both with_plan (both plan_first a p) q
    go None p q = refl
    go (Some u) None q = refl
    go (Some u) (Some v) None = refl
    go (Some u) (Some v) (Some w) = refl

-- what is returned after one more class
pub one_class : (job : Job) (classes : List ClassTree) (c : ClassTree) (r s : Result Plans (Refusal JdfFault))
    (q : Result (ClassPlan × ClassSpace) (Refusal JdfFault))
    → ((p : Option Plans) (o : Option (ClassPlan × ClassSpace)) (fs gs : List JdfFault)
    → ReturnsChecked {A = Plans} r p fs → ReturnsChecked {A = ClassPlan × ClassSpace} q o gs
    → ReturnsChecked {A = Plans} s (both with_plan p o) (fs ++ gs))
    → AreRead job classes r → IsClassRead job c q → AreRead job (classes ++ c ∷ []) s
one_class job classes c r s q step h k = record {
  bodies = h.bodies ++ k.body ∷ [];
  read = read_more job classes h.bodies c k.body h.read k.read;
  checked =
      subst (λ o. ReturnsChecked {A = Plans} s o (classes_faults job (classes ++ c ∷ []) (h.bodies ++ k.body ∷ [])))
      (sym (plan_more job classes h.bodies c k.body h.read))
      (subst (λ l. ReturnsChecked {A = Plans} s
      (both with_plan (classes_plan job classes h.bodies) (class_plan job c k.body)) l)
      (sym (faults_more job classes h.bodies c k.body h.read))
      (step (classes_plan job classes h.bodies) (class_plan job c k.body) (classes_faults job classes h.bodies)
      (class_faults job c k.body) h.checked k.checked));
}

-- the same, if that class is the next one of a list
pub next_class : (job : Job) (classes : List ClassTree) (i : ℕ) (c : ClassTree)
    (s : Result Plans (Refusal JdfFault)) → i < length classes → c ≡ get_or classes i c
    → AreRead job (take i classes ++ c ∷ []) s → AreRead job (take (i + 1) classes) s
next_class job classes i c s lt at read =
    let more : take i classes ++ c ∷ [] ≡ take (i + 1) classes = ap (λ y. take i classes ++ y ∷ []) at ∙ sym (take_more classes i c lt) in
    subst (λ l. AreRead job l s) more read

-- with the rules on names of globals and classes, the result for all classes is that for the whole text
pub resolved : (job : Job) (r s : Result Plans (Refusal JdfFault)) (gs : List JdfFault) → AreRead job job.jdf.classes r
    → ((p : Option Plans) (fs : List JdfFault) → ReturnsChecked {A = Plans} r p fs → ReturnsChecked {A = Plans} s p (fs ++ gs))
    → gs ≡ names_faults job → ReturnsResolved job s
resolved job r s gs h step e = go s (subst
    (λ l. ReturnsChecked {A = Plans} s (classes_plan job job.jdf.classes h.bodies)
    (classes_faults job job.jdf.classes h.bodies ++ l)) e
    (step (classes_plan job job.jdf.classes h.bodies) (classes_faults job job.jdf.classes h.bodies) h.checked))
  where
    go : (t : Result Plans (Refusal JdfFault))
        → ReturnsChecked {A = Plans} t (classes_plan job job.jdf.classes h.bodies) (faults_of job h.bodies)
        → ReturnsResolved job t
    go (Ok x) k = record { bodies = h.bodies; read = h.read; no_fault = k.1; plans = k.0 }
    go (Err (Fault f)) k = record { bodies = h.bodies; read = h.read; first = k }
    go (Err OutOfMemory) k = tt
