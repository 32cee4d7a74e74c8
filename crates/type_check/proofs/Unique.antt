-- The classes of a JDF and its data resolve in at most one way, or have at most one first fault, and never both.
use Rattle.std.proofs.Common.{◌≡◌, ◌≤◌, ℕ, ℤ, Bool, length, List, [], ◌∷◌, Option, Ok, Err, refl, sym, ◌∙◌, ap, subst}
use Rattle.term_core.specs.declared.space.ClassSpace.{ClassSpace}
use Rattle.plan_core.specs.declared.class.ClassPlan.{ClassPlan}
use native.Mathlib.Bridge.{le_prop}
use Rattle.body_lang.specs.Environment.{Environment}
use Rattle.body_lang.specs.declared.scope.FlowName.{FlowName}
use Rattle.body_lang.proofs.CallerLemmas.{body_or_fault, one_body, one_fault}
use Rattle.type_rules.specs.TreesAndFaults.{JdfFault, ClassTree}
use Rattle.type_rules.specs.Names.{Job}
use Rattle.type_rules.specs.Faults.{first_fault}
use Rattle.type_check.specs.Bodies.{BodyResult, ReadsAs, ReadsBody}
use Rattle.type_check.specs.Check.{ReadBodies, classes_plan, faults_of, AreResolved, IsFirstFault}
use Rattle.type_check.specs.Laws.{OneFirstFault}
use Rattle.std.proofs.lemmas.Option.{same_Some, none-some}

abbrev from : (locals : List (List ℕ)) (integer : List ℕ → Option ℤ) (is_collection : List ℕ → Bool)
    (flows : List FlowName) → length locals ≤ 16 → length flows ≤ 8 → Environment
from locals integer is_collection flows h k =
    record {
      locals = locals;
      integer = integer;
      is_collection = is_collection;
      flows = flows;
      locals_at_most =
          h;
      flows_at_most = k;
    }

same_environment : (s t : Environment) → s.locals ≡ t.locals → ((n : List ℕ) → s.integer n ≡ t.integer n)
    → ((n : List ℕ) → s.is_collection n ≡ t.is_collection n) → s.flows ≡ t.flows → s ≡ t
same_environment s t a b c d =
    let integer : s.integer ≡ t.integer = λ i n. b n i in
    let is_collection : s.is_collection ≡ t.is_collection = λ i n. c n i in
    subst (λ l. (h : length l ≤ 16) → from s.locals s.integer s.is_collection s.flows s.locals_at_most
    s.flows_at_most ≡ from l s.integer s.is_collection s.flows h s.flows_at_most) a
    (λ h. ap (λ p. from s.locals s.integer s.is_collection s.flows p s.flows_at_most) (le_prop s.locals_at_most h)) t.locals_at_most
    ∙ (ap (λ x. from t.locals x s.is_collection s.flows t.locals_at_most s.flows_at_most) integer
    ∙ (ap (λ x. from t.locals t.integer x s.flows t.locals_at_most s.flows_at_most) is_collection
    ∙ subst (λ l. (h : length l ≤ 8) → from t.locals t.integer t.is_collection s.flows t.locals_at_most
    s.flows_at_most ≡ from t.locals t.integer t.is_collection l t.locals_at_most h) d
    (λ h. ap (λ p. from t.locals t.integer t.is_collection s.flows t.locals_at_most p) (le_prop s.flows_at_most h)) t.flows_at_most))

one_result : (scope : Environment) (class : ClassTree) (b c : BodyResult) → ReadsAs scope class b → ReadsAs scope class c → b ≡ c
one_result scope class (Ok x) (Ok y) h k = ap (λ z. Ok z) (one_body scope class.body x y h k)
one_result scope class (Ok x) (Err g) h k = absurd (body_or_fault scope class.body class.finish x g h k)
one_result scope class (Err f) (Ok y) h k = absurd (body_or_fault scope class.body class.finish y f k h)
one_result scope class (Err f) (Err g) h k = ap (λ z. Err z) (one_fault scope class.body class.finish f g h k)

one_reading : (job : Job) (class : ClassTree) (b c : BodyResult) → ReadsBody job class b → ReadsBody job class c → b ≡ c
one_reading job class b c h k =
    let same =
    same_environment h.scope k.scope (h.means.locals ∙ sym k.means.locals)
    (λ n. h.means.integer n ∙ sym (k.means.integer n))
    (λ n. h.means.is_collection n ∙ sym (k.means.is_collection n))
    (h.means.flows ∙ sym k.means.flows) in
    one_result k.scope class b c (subst (λ s. ReadsAs s class b) same h.reads) k.reads

one_list : (job : Job) (classes : List ClassTree) (bs cs : List BodyResult) → ReadBodies job classes bs → ReadBodies job classes cs → bs ≡ cs
one_list job [] [] [] h k = refl
one_list job [] [] (c ∷ cs) h k = absurd k
one_list job [] (b ∷ bs) cs h k = absurd h
one_list job (x ∷ classes) [] cs h k = absurd h
one_list job (x ∷ classes) (b ∷ bs) [] h k = absurd k
one_list job (x ∷ classes) (b ∷ bs) (c ∷ cs) h k =
    let first = one_reading job x b c h.0 k.0 in
    let rest = one_list job classes bs cs h.1 k.1 in
    λ i. first i ∷ rest i

-- the classes are resolved in at most one way
pub same_classes : (job : Job) (x y : List ClassPlan × List ClassSpace) → AreResolved job x.0 x.1 → AreResolved job y.0 y.1 → x ≡ y
same_classes job x y h k = same_Some x y (sym h.plans
    ∙ (ap (classes_plan job job.jdf.classes) (one_list job job.jdf.classes h.bodies k.bodies h.read k.read)
    ∙ k.plans))

pub one_first_fault : OneFirstFault
one_first_fault job f g h k = same_Some f g
    (sym h.first ∙ (ap (λ bs. first_fault (faults_of job bs))
    (one_list job job.jdf.classes h.bodies k.bodies h.read k.read) ∙ k.first))

-- classes that are resolved have no fault
pub resolved_has_no_fault : (job : Job) (classes : List ClassPlan) (spaces : List ClassSpace) (f : JdfFault)
    → AreResolved job classes spaces → IsFirstFault job f → ⊥
resolved_has_no_fault job classes spaces f h k =
    none-some f (ap first_fault (sym h.no_fault)
    ∙ (ap (λ bs. first_fault (faults_of job bs)) (one_list job job.jdf.classes h.bodies k.bodies h.read k.read)
    ∙ k.first))
