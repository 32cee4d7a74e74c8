-- A flow has no fault if it is resolved to one that a plan may have and its dependences have one datatype.
use Rattle.std.proofs.Common.{◌≡◌, ℕ, suc, ◌+◌, Bool, true, false, not, ◌&&◌, cond, List, [], ◌∷◌, ◌++◌, inl, inr}
use Rattle.std.proofs.Common.{length, filter, flat_map, Option, Some, None, is_none, is_some, nat_le, IsTrue, refl, sym}
use Rattle.std.proofs.Common.{◌∙◌, ap}
use Rattle.std.specs.List.{list_all}
use Rattle.std.specs.Str.{bytes_eq}
use Rattle.std.specs.Cmp.Lexicographic.{bytes_decides}
use Rattle.std.proofs.lemmas.Bool.{false≢true, not-false}
use Rattle.ptg_base.specs.Lists.{IsIn}
use Rattle.term_core.specs.declared.direction.Direction.{Direction}
use Rattle.term_core.specs.declared.direction.Direction.TheVariants.{In, Out}
use Rattle.term_core.specs.Directions.{is_same}
use Rattle.term_core.specs.Term.{Term}
use Rattle.term_core.specs.declared.flow.FlowKind.{FlowKind}
use Rattle.term_core.specs.declared.space.ClassSpace.{ClassSpace}
use Rattle.coll_data.specs.Data.{Data}
use Rattle.plan_core.specs.declared.class.ClassPlan.{ClassPlan}
use Rattle.plan_core.specs.declared.flow.DepPlan.{DepPlan}
use Rattle.plan_core.specs.declared.flow.FlowPlan.{FlowPlan}
use Rattle.plan_core.specs.declared.shape.Shape.{Shape}
use Rattle.plan_core.specs.declared.target.Target.{Target}
use Rattle.plan_core.specs.Closed.{is_closed_option}
use Rattle.plan_core.specs.Targets.{exists_target, has_datatype}
use Rattle.plan_core.specs.Flows.{is_datatype, is_dependence, is_destination, is_flow, is_second, is_source}
use Rattle.type_rules.specs.TreesAndFaults.{Datatype, DefTree, DepTree, FlowTree, JdfFault, MixedTypes, TargetTree, Word}
use Rattle.type_rules.specs.Expressions.{option_faults, option_term}
use Rattle.type_rules.specs.Faults.{fault_if}
use Rattle.type_rules.specs.Names.{Job}
use Rattle.type_rules.specs.Returns.{both, each, each_option}
use Rattle.type_rules.proofs.CallerLemmas.{IsWellTarget, allowed, dep_from, ends, holds_not, of_direction, option_there, pair_parts, parts_of}
use Rattle.type_rules.specs.Kinds.{is_control}
use Rattle.coll_data.specs.Types.{default_type}
use Rattle.type_rules.specs.Datatypes.{allowed_type, first_written, flow_type, type_of_flow, type_of_written, written_faults}
use Rattle.type_rules.specs.Targets.{target_of}
use Rattle.type_rules.specs.Dependences.{dependence_faults, dependence_of, dependences_faults, dependences_of}
use Rattle.type_rules.specs.Dependences.{directions_faults, directions_of, flow_faults, flow_from, flow_plan}
use Rattle.type_rules.specs.Dependences.{is_of_direction, target_faults, type_faults, type_spot}
use Rattle.type_rules.specs.PartsOfJob.{HaveParts}
use Rattle.check_laws.specs.Datatypes.{HasOneDatatype}
use Rattle.check_laws.proofs.Resolved.{none_joined, option_no_fault}
use Rattle.check_laws.proofs.Targets.{target_fits}
use Rattle.check_laws.proofs.Types.{control_name}
use Rattle.list_lemmas.proofs.Joins.{first_nil, rest_nil}
use Rattle.list_lemmas.proofs.Truth.{and-false}
use Rattle.std.specs.Cmp.{first_so, second_so}
use Rattle.std.specs.Option.{option_map_or}

-- ---- lists

-- no kept element has a fault
none_kept : {A B : Type 0} (f : A → Option B) (g : A → List JdfFault) (keep : A → Bool) (p : B → Bool) (P : A → Type 0)
    → ((a : A) (b : B) → keep a ≡ true → P a → f a ≡ Some b → IsTrue (p b) → g a ≡ [])
    → (xs : List A) (ys : List B) → ((a : A) → IsIn a xs → P a) → each f (filter keep xs) ≡ Some ys → IsTrue (list_all p ys) → flat_map g (filter keep xs) ≡ []
none_kept f g keep p P h [] ys all e passes = refl
none_kept {A} {B} f g keep p P h (x ∷ xs) ys all e passes = go (keep x) refl (λ zs s t. none_kept f g keep p P h xs zs (λ a i. all a (inr i)) s t) e
  where
    go : (b : Bool) → keep x ≡ b → ((zs : List B) → each f (filter keep xs) ≡ Some zs → IsTrue (list_all p zs) → flat_map g (filter keep xs) ≡ [])
        → each f (cond b (x ∷ filter keep xs) (filter keep xs)) ≡ Some ys → flat_map g (cond b (x ∷ filter keep xs) (filter keep xs)) ≡ []
    go true k more s =
        let q = parts_of (λ y ys. y ∷ ys) (f x) (each f (filter keep xs)) ys s in
        let two : (p q.0 && list_all p q.1) ≡ true = ap (list_all p) q.4 ∙ passes in
        none_joined (g x) (flat_map g (filter keep xs)) (h x q.0 k (all x (inl refl)) q.2
        (first_so (p q.0) (list_all p q.1) two)) (more q.1 q.3 (second_so (p q.0) (list_all p q.1) two))
    go false k more s = more ys s passes

-- if no kept element has a fault, neither has this one
none_of : {A : Type 0} (g : A → List JdfFault) (keep : A → Bool) (xs : List A) (x : A) → flat_map g (filter keep xs) ≡ [] → keep x ≡ true → IsIn x xs → g x ≡ []
none_of g keep [] x none k among = absurd among
none_of g keep (y ∷ ys) x none k among = go (keep y) refl none (λ n i. none_of g keep ys x n k i)
  where
    go : (b : Bool) → keep y ≡ b → flat_map g (cond b (y ∷ filter keep ys) (filter keep ys)) ≡ []
        → (flat_map g (filter keep ys) ≡ [] → IsIn x ys → g x ≡ []) → g x ≡ []
    go true e n later = elim among [
      | inl same ↦ ap g same ∙ first_nil (g y) (flat_map g (filter keep ys)) n
      | inr i ↦ later (rest_nil (g y) (flat_map g (filter keep ys)) n) i
    ]
    go false e n later = elim among [
      | inl same ↦ absurd (false≢true (sym e ∙ (ap keep (sym same) ∙ k)))
      | inr i ↦ later n i
    ]

-- ---- datatypes

written_none : (d : Data) (flow : FlowTree) (n : ℕ) (written : Option Word) → flow_type d flow ≡ Some n
    → type_of_written written ≡ type_of_flow flow → written_faults d flow.kind written ≡ []
written_none d flow n None typed same = refl
written_none d flow n (Some w) typed same =
    ap (λ o. fault_if (is_none o) w.spot Datatype) (ap (allowed_type d flow.kind) same ∙ typed)

type_none : (d : Data) (flow : FlowTree) (n : ℕ) (dep : DepTree) → flow_type d flow ≡ Some n
    → type_of_written dep.datatype ≡ type_of_flow flow → type_faults d flow dep ≡ []
type_none d flow n dep typed same =
    none_joined (written_faults d flow.kind dep.datatype)
    (fault_if (not (is_control flow.kind) && not (bytes_eq (type_of_written dep.datatype) (type_of_flow flow))) (type_spot dep.yes dep.datatype) MixedTypes)
    (written_none d flow n dep.datatype typed same)
    (ap (λ b. fault_if (not (is_control flow.kind) && not b) (type_spot dep.yes dep.datatype) MixedTypes)
    ((bytes_decides (type_of_written dep.datatype) (type_of_flow flow)).1 same)
    ∙ ap (λ b. fault_if b (type_spot dep.yes dep.datatype) MixedTypes) (and-false (not (is_control flow.kind))))

first_same : (deps : List DepTree) → ((dep : DepTree) → IsIn dep deps
    → type_of_written dep.datatype ≡ type_of_written (first_written deps)) → (P : Option Word → Type 0) → P None
    → ((dep : DepTree) → IsIn dep deps → P dep.datatype) → P (first_written deps)
first_same [] one P none each = none
first_same (dep ∷ deps) one P none each = each dep (inl refl)

-- ---- dependences

module _ (job : Job) (classes : List ClassPlan) (spaces : List ClassSpace) (colls : List Shape)
    (parts : HaveParts job classes spaces colls) (seen : List DefTree) (flow : FlowTree) (n : ℕ)
    (typed : flow_type job.given flow ≡ Some n) (deps : List DepPlan × List DepPlan) where
  abbrev made : FlowPlan
  made = flow_from flow n deps

  abbrev passes : Direction → Target → Bool
  passes direction t = ends classes spaces colls (length seen) made direction t

  well_of : (direction : Direction) (q : Target) → IsTrue (passes direction q) → IsWellTarget classes spaces colls (length seen) n flow.kind direction q
  well_of In q h =
      let two = first_so (exists_target classes spaces colls (length seen) q && has_datatype classes colls n q) (allowed classes flow.kind In q) h in
      record {
        exists = first_so (exists_target classes spaces colls (length seen) q) (has_datatype classes colls n q) two;
        typed = second_so (exists_target classes spaces colls (length seen) q) (has_datatype classes colls n q) two;
        kind = second_so (exists_target classes spaces colls (length seen) q && has_datatype classes colls n q) (allowed classes flow.kind In q) h;
      }
  well_of Out q h =
      let two = first_so (exists_target classes spaces colls (length seen) q && has_datatype classes colls n q) (allowed classes flow.kind Out q) h in
      record {
        exists = first_so (exists_target classes spaces colls (length seen) q) (has_datatype classes colls n q) two;
        typed = second_so (exists_target classes spaces colls (length seen) q) (has_datatype classes colls n q) two;
        kind = second_so (exists_target classes spaces colls (length seen) q && has_datatype classes colls n q) (allowed classes flow.kind Out q) h;
      }

  target_none : (direction : Direction) (t : TargetTree) (q : Target) → target_of job seen t ≡ Some q
      → IsTrue (passes direction q) → target_faults job seen flow direction t ≡ []
  target_none direction t q e h = target_fits job classes spaces colls parts seen flow n typed direction t q e (well_of direction q h)

  second_none : (direction : Direction) (g : Option Term) (no : Option TargetTree) (o : Option Target)
      → each_option (target_of job seen) no ≡ Some o → IsTrue (is_second (passes direction) g o)
      → option_map_or (target_faults job seen flow direction) no [] ≡ []
  second_none direction g None o e h = refl
  second_none direction g (Some t) o e h =
      let q = option_there (target_of job seen) t o e in
      let both_pass : (is_some g && passes direction q.0) ≡ true = ap (is_second (passes direction) g) q.2 ∙ h in
      target_none direction t q.0 q.1 (second_so (is_some g) (passes direction q.0) both_pass)

  dependence_none : (direction : Direction) (dep : DepTree) (d : DepPlan) → is_of_direction direction dep ≡ true
      → type_of_written dep.datatype ≡ type_of_flow flow → dependence_of job seen dep ≡ Some d
      → IsTrue (is_dependence (length seen) (passes direction) d) → dependence_faults job seen flow dep ≡ []
  dependence_none direction dep d here same e h =
      let q = parts_of dep_from (option_term job seen dep.guard)
      (both (λ x y. (x, y)) (target_of job seen dep.yes) (each_option (target_of job seen) dep.no)) d e in
      let two = pair_parts (target_of job seen dep.yes) (each_option (target_of job seen) dep.no) q.1 q.3 in
      let all : ((is_closed_option (length seen) q.0 && passes direction q.1.0) && is_second (passes direction) q.0
      q.1.1) ≡ true = ap (is_dependence (length seen) (passes direction)) q.4 ∙ h in
      let first = first_so (is_closed_option (length seen) q.0 && passes direction q.1.0) (is_second (passes direction) q.0 q.1.1) all in
      let yes : target_faults job seen flow direction dep.yes ≡ [] = target_none direction dep.yes q.1.0 two.0
      (second_so (is_closed_option (length seen) q.0) (passes direction q.1.0) first) in
      let no : option_map_or (target_faults job seen flow direction) dep.no []
      ≡ [] = second_none direction q.0 dep.no q.1.1 two.1
      (second_so (is_closed_option (length seen) q.0 && passes direction q.1.0)
      (is_second (passes direction) q.0 q.1.1) all) in
      let turned = of_direction direction dep here in
      none_joined (option_faults job seen dep.guard ++ (target_faults job seen flow dep.direction
      dep.yes ++ option_map_or (target_faults job seen flow dep.direction) dep.no []))
      (type_faults job.given flow dep)
      (none_joined (option_faults job seen dep.guard) (target_faults job seen flow dep.direction
      dep.yes ++ option_map_or (target_faults job seen flow dep.direction) dep.no [])
      (option_no_fault job seen dep.guard q.0 q.2)
      (none_joined (target_faults job seen flow dep.direction dep.yes) (option_map_or (target_faults job seen flow dep.direction) dep.no [])
      (ap (λ b. target_faults job seen flow b dep.yes) turned ∙ yes) (ap (λ b. option_map_or (target_faults job seen flow b) dep.no []) turned ∙ no)))
      (type_none job.given flow n dep typed same)

  dependences_none : (direction : Direction) (ds : List DepPlan) → HasOneDatatype flow
      → dependences_of job seen direction flow.deps ≡ Some ds
      → IsTrue (list_all (is_dependence (length seen) (passes direction)) ds)
      → dependences_faults job seen flow direction flow.deps ≡ []
  dependences_none direction ds one e h =
      none_kept (dependence_of job seen) (dependence_faults job seen flow) (is_of_direction direction)
      (is_dependence (length seen) (passes direction)) (λ dep. type_of_written dep.datatype ≡ type_of_flow flow)
      (λ dep d here same given pass. dependence_none direction dep d here same given pass) flow.deps ds one e h

pub flow_fits : (job : Job) (classes : List ClassPlan) (spaces : List ClassSpace) (colls : List Shape)
    → HaveParts job classes spaces colls → (seen : List DefTree) (flow : FlowTree) (p : FlowPlan)
    → HasOneDatatype flow → flow_plan job seen flow ≡ Some p
    → IsTrue (is_flow classes spaces colls (suc (length job.given.types)) (length seen) p)
    → flow_faults job seen flow ≡ []
flow_fits job classes spaces colls parts seen flow p one e h =
    let q = parts_of (flow_from flow) (flow_type job.given flow) (directions_of job seen flow.deps) p e in
    let two = pair_parts (dependences_of job seen In flow.deps) (dependences_of job seen Out flow.deps) q.1 q.3 in
    let made = flow_from flow q.0 q.1 in
    let types = suc (length job.given.types) in
    let locals = length seen in
    let typed = is_datatype types flow.kind q.0 in
    let few = nat_le (length q.1.0 + length q.1.1) 16 in
    let all_in = list_all (is_dependence locals (is_source classes spaces colls locals made)) q.1.0 in
    let all_out = list_all (is_dependence locals (is_destination classes spaces colls locals made)) q.1.1 in
    let all : (((typed && few) && all_in) && all_out) ≡ true = ap (is_flow classes spaces colls types locals) q.4 ∙ h in
    let ins = second_so (typed && few) all_in (first_so ((typed && few) && all_in) all_out all) in
    let outs = second_so ((typed && few) && all_in) all_out all in
    none_joined (written_faults job.given flow.kind (first_written flow.deps)) (directions_faults job seen flow flow.deps)
    (first_same flow.deps one (λ w. written_faults job.given flow.kind w ≡ []) refl (λ dep i. written_none job.given flow q.0 dep.datatype q.2 (one dep i)))
    (none_joined (dependences_faults job seen flow In flow.deps) (dependences_faults job seen flow Out flow.deps)
    (dependences_none job classes spaces colls parts seen flow q.0 q.2 q.1 In q.1.0 one two.0 ins)
    (dependences_none job classes spaces colls parts seen flow q.0 q.2 q.1 Out q.1.1 one two.1 outs))

-- ---- the converse

some_if_not : {A : Type 0} (o : Option A) → is_none o ≡ false → (x : A) × (o ≡ Some x)
some_if_not None e = absurd (false≢true (sym e))
some_if_not (Some x) e = (x, refl)

-- the only datatype that a CTL flow may have is DEFAULT
control_default : (d : Data) (k : FlowKind) (written : Option Word) → is_control k ≡ true
    → written_faults d k written ≡ [] → type_of_written written ≡ default_type
control_default d k None c e = refl
control_default d k (Some w) c e =
    let p = some_if_not (allowed_type d k w.text) (holds_not (is_none (allowed_type d k w.text)) w.spot Datatype e) in
    control_name d k w.text p.0 c p.1

one_of : (d : Data) (flow : FlowTree) (dep : DepTree) → written_faults d flow.kind (first_written flow.deps) ≡ []
    → type_faults d flow dep ≡ [] → type_of_written dep.datatype ≡ type_of_flow flow
one_of d flow dep first e = by (is_control flow.kind) refl where
  written : written_faults d flow.kind dep.datatype ≡ []
  written = first_nil (written_faults d flow.kind dep.datatype)
      (fault_if (not (is_control flow.kind) && not (bytes_eq (type_of_written dep.datatype) (type_of_flow flow)))
      (type_spot dep.yes dep.datatype) MixedTypes) e

  unmixed : (not (is_control flow.kind) && not (bytes_eq (type_of_written dep.datatype) (type_of_flow flow))) ≡ false
  unmixed = holds_not (not (is_control flow.kind) && not (bytes_eq (type_of_written dep.datatype) (type_of_flow flow)))
      (type_spot dep.yes dep.datatype) MixedTypes
      (rest_nil (written_faults d flow.kind dep.datatype) (fault_if
      (not (is_control flow.kind) && not (bytes_eq (type_of_written dep.datatype) (type_of_flow flow)))
      (type_spot dep.yes dep.datatype) MixedTypes) e)

  by : (b : Bool) → is_control flow.kind ≡ b → type_of_written dep.datatype ≡ type_of_flow flow
  by true c = control_default d flow.kind dep.datatype c written ∙ sym (control_default d flow.kind (first_written flow.deps) c first)
  by false c = (bytes_decides (type_of_written dep.datatype) (type_of_flow flow)).0 (not-false (bytes_eq (type_of_written dep.datatype) (type_of_flow flow))
      (ap (λ b. not b && not (bytes_eq (type_of_written dep.datatype) (type_of_flow flow))) (sym c) ∙ unmixed))

pub one_datatype : (job : Job) (seen : List DefTree) (flow : FlowTree) → flow_faults job seen flow ≡ [] → HasOneDatatype flow
one_datatype job seen flow h dep among = one_of job.given flow dep first (types (of_its_direction dep.direction refl)) where
  first : written_faults job.given flow.kind (first_written flow.deps) ≡ []
  first = first_nil (written_faults job.given flow.kind (first_written flow.deps)) (directions_faults job seen flow flow.deps) h

  both_directions : dependences_faults job seen flow In flow.deps ++ dependences_faults job seen flow Out flow.deps ≡ []
  both_directions = rest_nil (written_faults job.given flow.kind (first_written flow.deps)) (directions_faults job seen flow flow.deps) h

  of_its_direction : (d : Direction) → dep.direction ≡ d → dependence_faults job seen flow dep ≡ []
  of_its_direction In e = none_of (dependence_faults job seen flow) (is_of_direction In) flow.deps dep
      (first_nil (dependences_faults job seen flow In flow.deps) (dependences_faults job seen flow Out flow.deps)
      both_directions) (ap (λ d. is_same d In) e) among
  of_its_direction Out e = none_of (dependence_faults job seen flow) (is_of_direction Out) flow.deps dep
      (rest_nil (dependences_faults job seen flow In flow.deps) (dependences_faults job seen flow Out flow.deps)
      both_directions) (ap (λ d. is_same d Out) e) among

  types : dependence_faults job seen flow dep ≡ [] → type_faults job.given flow dep ≡ []
  types e = rest_nil (option_faults job seen dep.guard ++ (target_faults job seen flow dep.direction
      dep.yes ++ option_map_or (target_faults job seen flow dep.direction) dep.no [])) (type_faults job.given flow dep)
      e
