-- A class that breaks no rule, with its names resolved, is one that a plan may have.
use Rattle.std.proofs.Common.{◌≡◌, ℕ, suc, Bool, List, [], ◌∷◌, ◌++◌, length, map, flat_map, Option, Some, Ok, Err, IsTrue, refl, sym, ◌∙◌, ap, subst}
use Rattle.std.specs.List.{list_all, AllByRecursion}
use Rattle.std.specs.Result.{result_ok}
use Rattle.std.proofs.lemmas.List.{length-map}
use Rattle.std.proofs.lemmas.Simd.{map-map}
use Rattle.term_core.specs.WellBody.{IsWellBody}
use Rattle.term_core.specs.declared.body.Body.{Body}
use Rattle.term_core.specs.declared.space.ClassSpace.{ClassSpace}
use Rattle.jdf_tree.specs.TreeLimits.{IsFlowWithinLimits, IsClassWithinLimits}
use Rattle.body_lang.specs.declared.scope.FlowName.{FlowName}
use Rattle.plan_core.specs.declared.class.ClassPlan.{ClassPlan}
use Rattle.plan_core.specs.declared.flow.FlowPlan.{FlowPlan}
use Rattle.plan_core.specs.declared.shape.Shape.{Shape}
use Rattle.plan_core.specs.Closed.{is_closed_option}
use Rattle.plan_core.specs.Targets.{is_element}
use Rattle.plan_core.specs.Flows.{is_flow}
use Rattle.plan_core.specs.Bodies.{respects_kinds}
use Rattle.plan_core.specs.WellMade.{IsWellClass}
use Rattle.type_rules.specs.TreesAndFaults.{JdfFault, DefTree, FlowTree, ClassTree, NameTwice}
use Rattle.type_rules.specs.Faults.{resolved_faults}
use Rattle.type_rules.specs.Names.{Job}
use Rattle.type_rules.specs.Repeats.{repeats}
use Rattle.type_rules.specs.Returns.{both, each}
use Rattle.type_rules.specs.Expressions.{option_faults, option_term}
use Rattle.type_rules.specs.Definitions.{definitions_of, parameter_of, space_of, space_faults}
use Rattle.type_rules.proofs.CallerLemmas.{closed_option, definitions_length, distinct_names, each_length, element_exists, pair_of, pair_parts, parts_of}
use Rattle.type_rules.proofs.CallerLemmas.{well_flow, well_space}
use Rattle.type_check.proofs.Parts.{parts_map}
use Rattle.type_rules.specs.Elements.{element_faults, element_of}
use Rattle.type_rules.specs.Dependences.{flow_faults, flow_plan}
use Rattle.type_rules.specs.PartsOfJob.{HaveParts}
use Rattle.type_check.proofs.FlowParts.{flow_is, flow_name}
use Rattle.type_check.specs.Bodies.{BodyResult, ReadsAs, ReadsBody}
use Rattle.type_check.specs.Classes.{flows_of, head_from, head_of, head_faults, class_from, class_plan, class_faults}
use Rattle.type_check.proofs.BodyKinds.{kinds_of}
use Rattle.type_check.proofs.WellBodies.{fit_body, fit_words}
use Rattle.std.proofs.lemmas.Bool.{and_from}
use Rattle.std.proofs.lemmas.Option.{same_Some}
use Rattle.std.specs.Str.{bytes_eq}
use Rattle.ptg_base.specs.Lists.{are_distinct}
use Rattle.list_lemmas.proofs.Joins.{first_nil, rest_nil}

-- ---- the parts of a class

pub record IsClassOf (job : Job) (class : ClassTree) (b : BodyResult) (c : ClassPlan) (s : ClassSpace) : Type 0 where
  pub space : space_of job class.params class.defs ≡ Some s
  pub affinity : element_of job class.defs class.affinity class.affinity_args ≡ Some (c.affinity.coll, c.affinity.indices)
  pub flows : flows_of job class.defs class.flows ≡ Some c.flows
  pub priority : option_term job class.defs class.priority ≡ Some c.priority
  pub body : result_ok b ≡ Some (c.body, c.trap_words)
  pub name : c.name ≡ class.name.text

pub class_of : (job : Job) (class : ClassTree) (b : BodyResult) (z : ClassPlan × ClassSpace) → class_plan job class b ≡ Some z → IsClassOf job class b z.0 z.1
class_of job class b z e =
    let q = parts_of (class_from class) (head_of job class) (result_ok b) z e in
    let place = both (λ x y. (x, y)) (space_of job class.params class.defs) (element_of job class.defs class.affinity class.affinity_args) in
    let rest = both (λ x y. (x, y)) (flows_of job class.defs class.flows) (option_term job class.defs class.priority) in
    let halves = parts_of head_from place rest q.0 q.2 in
    let first = pair_parts (space_of job class.params class.defs) (element_of job class.defs class.affinity class.affinity_args) halves.0 halves.2 in
    let second = pair_parts (flows_of job class.defs class.flows) (option_term job class.defs class.priority) halves.1 halves.3 in
    subst (λ (y : ClassPlan × ClassSpace). IsClassOf job class b y.0 y.1) (ap (λ h. class_from class h q.1) halves.4 ∙ q.4)
    (record { space = first.0; affinity = first.1; flows = second.0; priority = second.1; body = q.3; name = refl })

-- as many definitions and parameters as in the text
pub defs_count : (job : Job) (class : ClassTree) (s : ClassSpace) → space_of job class.params class.defs ≡ Some s → length s.defs ≡ length class.defs
defs_count job class s e =
    let p = pair_of (definitions_of job [] class.defs) (each (parameter_of class.defs) class.params) s e in
    ap (λ (t : ClassSpace). length t.defs) (sym p.4) ∙ definitions_length job [] class.defs p.0 p.2

pub params_count : (job : Job) (class : ClassTree) (s : ClassSpace) → space_of job class.params class.defs ≡ Some s → length s.params ≡ length class.params
params_count job class s e =
    let p = pair_of (definitions_of job [] class.defs) (each (parameter_of class.defs) class.params) s e in
    ap (λ (t : ClassSpace). length t.params) (sym p.4) ∙ each_length (parameter_of class.defs) class.params p.1 p.3

-- ---- lists

-- if the value of each element without a fault passes a test, all values of a list without faults pass it
parts_sound : {A B : Type 0} (f : A → Option B) (g : A → List JdfFault) (p : B → Bool) (P : A → Type 0)
    → ((a : A) (b : B) → P a → g a ≡ [] → f a ≡ Some b → IsTrue (p b))
    → (xs : List A) (ys : List B) → AllByRecursion P xs → flat_map g xs ≡ [] → each f xs ≡ Some ys → IsTrue (list_all p ys)
parts_sound f g p P h [] ys all none e = subst (λ l. IsTrue (list_all p l)) (same_Some [] ys e) refl
parts_sound f g p P h (x ∷ xs) ys all none e =
    let q = parts_of (λ y ys. y ∷ ys) (f x) (each f xs) ys e in
    subst (λ l. IsTrue (list_all p l)) q.4
    (and_from (p q.0) (list_all p q.1) (h x q.0 all.0 (first_nil (g x) (flat_map g xs) none) q.2)
    (parts_sound f g p P h xs q.1 all.1 (rest_nil (g x) (flat_map g xs) none) q.3))

-- ---- the body

body_read : (b : BodyResult) (y : Body × List (List ℕ)) → result_ok b ≡ Some y → b ≡ Ok y
body_read (Ok x) y e = ap (λ z. Ok z) (same_Some x y e)
body_read (Err f) y e = absurd cc

-- ---- the class

module _ (job : Job) (classes : List ClassPlan) (spaces : List ClassSpace) (colls : List Shape)
    (parts : HaveParts job classes spaces colls) (class : ClassTree) (b : BodyResult) (c : ClassPlan)
    (s : ClassSpace) (is : IsClassOf job class b c s) where
  flow_kinds : map (λ (f : FlowPlan). f.kind) c.flows ≡ map (λ (f : FlowTree). f.kind) class.flows
  flow_kinds = parts_map (flow_plan job class.defs) (λ (f : FlowPlan). f.kind) (λ (f : FlowTree). f.kind)
      (λ f p e. (flow_is job class.defs f p e).kind) class.flows c.flows is.flows

  flow_texts : map (λ (f : FlowPlan). f.name) c.flows ≡ map (λ (f : FlowTree). f.name.text) class.flows
  flow_texts = parts_map (flow_plan job class.defs) (λ (f : FlowPlan). f.name) (λ (f : FlowTree). f.name.text)
      (λ f p e. flow_name job class.defs f p e) class.flows c.flows is.flows

  -- the scope has the definitions and the flows of the class
  scope_locals : (r : ReadsBody job class b) → length r.scope.locals ≡ length s.defs
  scope_locals r = ap length r.means.locals ∙ (length-map class.defs (λ (d : DefTree). d.name.text) ∙ sym (defs_count job class s is.space))

  scope_flows : (r : ReadsBody job class b) → length r.scope.flows ≡ length c.flows
  scope_flows r = ap length r.means.flows
      ∙ (length-map class.flows (λ (f : FlowTree). record { name = f.name.text; kind = f.kind })
      ∙ sym (each_length (flow_plan job class.defs) class.flows c.flows is.flows))

  scope_kinds : (r : ReadsBody job class b) → kinds_of r.scope ≡ map (λ (f : FlowPlan). f.kind) c.flows
  scope_kinds r = ap (map (λ (x : FlowName). x.kind)) r.means.flows
      ∙ (map-map (λ (x : FlowName). x.kind) (λ (f : FlowTree). record { name = f.name.text; kind = f.kind })
      class.flows ∙ sym flow_kinds)

  pub well_class : IsClassWithinLimits class → ReadsBody job class b → class_faults job class b ≡ []
      → IsWellClass classes spaces colls (suc (length job.given.types)) s c
  well_class within r h =
      let y : Body × List (List ℕ) = (c.body, c.trap_words) in
      let types = suc (length job.given.types) in
      let text = subst (λ z. ReadsAs r.scope class z) (body_read b y is.body) r.reads in
      let fit = fit_body r.scope class.body y text in
      let space = space_faults job class.params class.defs in
      let element = element_faults job class.defs class.affinity class.affinity_args in
      let named = repeats (λ (f : FlowTree). f.name) NameTwice class.flows in
      let flows = flat_map (flow_faults job class.defs) class.flows in
      let priority = option_faults job class.defs class.priority in
      let head : (space ++ element) ++ ((flows ++ named) ++ priority) ≡ [] = first_nil (head_faults job class) (resolved_faults b) h in
      let place : space ++ element ≡ [] = first_nil (space ++ element) ((flows ++ named) ++ priority) head in
      let rest : flows ++ named ≡ [] = first_nil (flows ++ named) priority (rest_nil (space ++ element) ((flows ++ named) ++ priority) head) in
      let count = sym (defs_count job class s is.space) in
      record {
        space = well_space job class.params class.defs s within.defs (first_nil space element place) is.space;
        affinity =
            subst (λ n. IsTrue (is_element colls n c.affinity.coll c.affinity.indices)) count
            (element_exists job classes spaces colls parts class.defs class.affinity class.affinity_args
            (c.affinity.coll, c.affinity.indices) (rest_nil space element place) is.affinity);
        flows =
            subst (λ n. IsTrue (list_all (is_flow classes spaces colls types n) c.flows)) count
            (parts_sound (flow_plan job class.defs) (flow_faults job class.defs) (is_flow classes spaces colls types (length class.defs)) IsFlowWithinLimits
            (λ f p w n e. well_flow job classes spaces colls parts class.defs f p w n e) class.flows c.flows
            within.flows (first_nil flows named rest) is.flows);
        flow_names = subst (λ l. IsTrue (are_distinct bytes_eq l)) (sym flow_texts)
            (distinct_names (λ (f : FlowTree). f.name) NameTwice class.flows (rest_nil flows named rest));
        priority = subst (λ n. IsTrue (is_closed_option n c.priority)) count (closed_option job class.defs class.priority c.priority is.priority);
        body = subst (λ n. IsWellBody n (length c.flows) c.body) (scope_locals r)
            (subst (λ n. IsWellBody (length r.scope.locals) n c.body) (scope_flows r) fit.well);
        kinds = subst (λ l. IsTrue (respects_kinds l c.body.statements)) (scope_kinds r) fit.kinds;
        words = fit_words r.scope class.body y text;
        loops = fit.loops;
      }
