-- A target breaks no rule if it is resolved to one that the flow may have.
use Rattle.std.proofs.Common.{◌≡◌, ℕ, Bool, true, false, not, ◌&&◌, ◌==◌, List, [], ◌++◌, length, Option, Some, None}
use Rattle.std.proofs.Common.{option_and_then, is_none, is_some, slice_get, IsTrue, refl, sym, ◌∙◌, ap, subst, eq-eqb}
use Rattle.std.proofs.lemmas.Bool.{eqb-true, false≢true, not-true}
use Rattle.std.specs.List.{list_all, list_any}
use Rattle.std.specs.Option.{option_map_or}
use Rattle.std.specs.Str.{bytes_eq}
use Rattle.std.specs.Cmp.Lexicographic.{bytes_decides}
use Rattle.term_core.specs.declared.direction.Direction.{Direction}
use Rattle.term_core.specs.declared.direction.Direction.TheVariants.{In, Out}
use Rattle.term_core.specs.Directions.{is_same}
use Rattle.term_core.specs.Term.{Term}
use Rattle.term_core.specs.Value.{is_closed}
use Rattle.term_core.specs.declared.flow.FlowKind.{FlowKind}
use Rattle.term_core.specs.declared.flow.FlowKind.TheVariants.{Read, Write, Rw, Ctl}
use Rattle.term_core.specs.declared.space.ClassSpace.{ClassSpace}
use Rattle.jdf_tree.specs.declared.tree.TargetTree.TheVariants as tree
use Rattle.coll_data.specs.declared.coll.Coll.{Coll}
use Rattle.coll_data.specs.Data.{Data}
use Rattle.plan_core.specs.declared.class.ClassPlan.{ClassPlan}
use Rattle.plan_core.specs.declared.flow.FlowPlan.{FlowPlan}
use Rattle.plan_core.specs.declared.shape.Shape.{Shape}
use Rattle.plan_core.specs.declared.target.Arg.{Arg}
use Rattle.plan_core.specs.declared.target.Target.{Target}
use Rattle.plan_core.specs.declared.target.Target.TheVariants as plan
use Rattle.plan_core.specs.Closed.{is_closed_arg, is_span}
use Rattle.plan_core.specs.Kinds as kinds
use Rattle.plan_core.specs.Targets.{dimensions, has_dimensions, has_params, is_element}
use Rattle.plan_core.specs.Flows.{is_in_target, is_out_target}
use Rattle.type_rules.specs.TreesAndFaults.{ArgTree, Arity, ClassTree, CtlMixed, DefTree, FlowTree, NoSuchFlow}
use Rattle.type_rules.specs.TreesAndFaults.{RangeInDataInput, Spot, TargetTree, TypeDiffers, Word}
use Rattle.type_rules.specs.Faults.{fault_if}
use Rattle.type_rules.specs.Names.{Job, class_named, class_of, coll_named, flow_named}
use Rattle.type_rules.specs.Arguments.{argument_of, arguments_faults, arguments_of, index_of, indices_faults, indices_of, ranges_faults}
use Rattle.type_rules.proofs.CallerLemmas.{IsWellTarget, TaskThere, allowed, coll_there, data_type, each_length, kind_there, pair_parts, parts_of, task_there}
use Rattle.type_rules.specs.Kinds.{are_mixed, is_control}
use Rattle.type_rules.specs.Datatypes.{flow_type, type_number, type_of_flow}
use Rattle.type_rules.specs.Elements.{collection_faults, dimensions_of, element_faults, element_of}
use Rattle.type_rules.specs.Targets.{first_spot, named_faults, target_of, task_faults, task_of}
use Rattle.type_rules.specs.Rules.{has_other_type, in_faults, is_mixed, is_other_flow, kind_faults, mixes_flows, rule_faults, type_differs}
use Rattle.type_rules.specs.Dependences.{target_faults}
use Rattle.type_rules.specs.PartsOfJob.{HaveParts}
use Rattle.check_laws.proofs.Resolved.{arguments_no_fault, indices_no_fault, no_ranges, none_joined}
use Rattle.check_laws.proofs.Types.{one_name}
use Rattle.std.proofs.lemmas.Option.{same_Some}
use Rattle.list_lemmas.proofs.Options.{from_option_map}
use Rattle.list_lemmas.proofs.Truth.{and-false}
use Rattle.std.specs.Cmp.{first_so, second_so}

-- no rule about a target is broken
rules_kept : (job : Job) (flow : FlowTree) (direction : Direction) (t : TargetTree) → is_mixed job flow.kind t ≡ false
    → (not (is_control flow.kind) && type_differs job (type_of_flow flow) t) ≡ false
    → kind_faults direction flow.kind t ≡ [] → rule_faults job flow direction t ≡ []
rules_kept job flow direction t sort type kind = λ i. (fault_if (sort i) (first_spot t) CtlMixed ++ fault_if (type i) (first_spot t) TypeDiffers) ++ kind i

-- ---- kinds

control_not_data : (j : FlowKind) → kinds.is_data (Some j) ≡ true → is_control j ≡ false
control_not_data Read e = refl
control_not_data Write e = refl
control_not_data Rw e = refl
control_not_data Ctl e = absurd (false≢true e)

control_kind : (j : FlowKind) → kinds.is_control (Some j) ≡ true → is_control j ≡ true
control_kind Read e = absurd (false≢true e)
control_kind Write e = absurd (false≢true e)
control_kind Rw e = absurd (false≢true e)
control_kind Ctl e = refl

-- if a flow of a task may be a target, both flows carry order or both carry a tile
in_sort : (classes : List ClassPlan) (k j : FlowKind) (n m : ℕ) (args : List Arg) → kinds.kind_of classes n m ≡ Some j
    → IsTrue (is_in_target classes k (plan.Task n m args)) → are_mixed k j ≡ false
in_sort classes Read j n m args at h = control_not_data j (sym (ap kinds.is_data at)
    ∙ first_so (kinds.is_data (kinds.kind_of classes n m)) (not (list_any is_span args)) h)
in_sort classes Write j n m args at h = absurd (false≢true h)
in_sort classes Rw j n m args at h = control_not_data j (sym (ap kinds.is_data at)
    ∙ first_so (kinds.is_data (kinds.kind_of classes n m)) (not (list_any is_span args)) h)
in_sort classes Ctl j n m args at h = ap not (control_kind j (sym (ap kinds.is_control at) ∙ h))

out_sort : (classes : List ClassPlan) (k j : FlowKind) (n m : ℕ) (args : List Arg) → kinds.kind_of classes n m ≡ Some j
    → IsTrue (is_out_target classes k (plan.Task n m args)) → are_mixed k j ≡ false
out_sort classes Read j n m args at h = control_not_data j (sym (ap kinds.is_data at) ∙ h)
out_sort classes Write j n m args at h = control_not_data j (sym (ap kinds.is_data at) ∙ h)
out_sort classes Rw j n m args at h = control_not_data j (sym (ap kinds.is_data at) ∙ h)
out_sort classes Ctl j n m args at h = ap not (control_kind j (sym (ap kinds.is_control at) ∙ h))

task_sort : (classes : List ClassPlan) (k j : FlowKind) (direction : Direction) (n m : ℕ) (args : List Arg)
    → kinds.kind_of classes n m ≡ Some j → IsTrue (allowed classes k direction (plan.Task n m args))
    → are_mixed k j ≡ false
task_sort classes k j In n m args at h = in_sort classes k j n m args at h
task_sort classes k j Out n m args at h = out_sort classes k j n m args at h

-- an in dependence of a flow that is only written names no task; that of another flow with a tile names no range of
-- tasks
task_way : (classes : List ClassPlan) (k : FlowKind) (name class : Word) (args : List ArgTree) (n m : ℕ) (ys : List Arg)
    → (list_any is_span ys ≡ false → ranges_faults RangeInDataInput args ≡ [])
    → IsTrue (is_in_target classes k (plan.Task n m ys)) → in_faults k (tree.Task name class args) ≡ []
task_way classes Read name class args n m ys ranges h = ranges
    (not-true (list_any is_span ys) (second_so (kinds.is_data (kinds.kind_of classes n m)) (not (list_any is_span ys))
    h))
task_way classes Write name class args n m ys ranges h = absurd (false≢true h)
task_way classes Rw name class args n m ys ranges h = ranges
    (not-true (list_any is_span ys) (second_so (kinds.is_data (kinds.kind_of classes n m)) (not (list_any is_span ys))
    h))
task_way classes Ctl name class args n m ys ranges h = refl

-- an element that may be a target
element_sort : (classes : List ClassPlan) (k : FlowKind) (direction : Direction) (n : ℕ) (indices : List Term)
    → IsTrue (allowed classes k direction (plan.Element n indices)) → is_control k ≡ false
element_sort classes Read direction n indices h = refl
element_sort classes Write direction n indices h = refl
element_sort classes Rw direction n indices h = refl
element_sort classes Ctl In n indices h = absurd (false≢true h)
element_sort classes Ctl Out n indices h = absurd (false≢true h)

element_way : (k : FlowKind) (direction : Direction) (name : Word) (args : List ArgTree) → kind_faults direction k (tree.Element name args) ≡ []
element_way Read In name args = refl
element_way Write In name args = refl
element_way Rw In name args = refl
element_way Ctl In name args = refl
element_way k Out name args = refl

-- a new tile that may be a target, and no tile
new_sort : (classes : List ClassPlan) (k : FlowKind) (direction : Direction)
    → IsTrue (allowed classes k direction plan.New) → (is_control k ≡ false) × (is_same direction In ≡ true)
new_sort classes Read In h = (refl, refl)
new_sort classes Write In h = (refl, refl)
new_sort classes Rw In h = (refl, refl)
new_sort classes Ctl In h = absurd (false≢true h)
new_sort classes Read Out h = absurd (false≢true h)
new_sort classes Write Out h = absurd (false≢true h)
new_sort classes Rw Out h = absurd (false≢true h)
new_sort classes Ctl Out h = absurd (false≢true h)

new_way : (k : FlowKind) (direction : Direction) (spot : Spot) → is_same direction In ≡ true → kind_faults direction k (tree.New spot) ≡ []
new_way Read In spot e = refl
new_way Write In spot e = refl
new_way Rw In spot e = refl
new_way Ctl In spot e = refl
new_way k Out spot e = absurd (false≢true e)

null_sort : (classes : List ClassPlan) (k : FlowKind) (direction : Direction) → IsTrue (allowed classes k direction plan.Null) → is_control k ≡ false
null_sort classes Read direction h = refl
null_sort classes Write direction h = refl
null_sort classes Rw direction h = refl
null_sort classes Ctl In h = absurd (false≢true h)
null_sort classes Ctl Out h = absurd (false≢true h)

null_way : (classes : List ClassPlan) (k : FlowKind) (direction : Direction) (spot : Spot)
    → IsTrue (allowed classes k direction plan.Null) → kind_faults direction k (tree.Null spot) ≡ []
null_way classes Read In spot h = refl
null_way classes Write In spot h = absurd (false≢true h)
null_way classes Rw In spot h = refl
null_way classes Ctl In spot h = absurd (false≢true h)
null_way classes k Out spot h = refl

-- ---- counts

same_params : (o : Option ClassSpace) (a b : ℕ) → option_map_or (λ (s : ClassSpace). length s.params == a) o false
    ≡ true → option_map_or (λ (s : ClassSpace). length s.params == b) o false ≡ true → a ≡ b
same_params None a b e f = absurd (false≢true e)
same_params (Some s) a b e f = sym (eqb-true (length s.params) a e) ∙ eqb-true (length s.params) b f

at_some : {A : Type 0} (f : A → Bool) (o : Option A) (x : A) → o ≡ Some x → option_map_or f o false ≡ true → f x ≡ true
at_some f o x is h = sym (ap (λ z. option_map_or f z false) is) ∙ h

-- a flow whose type has the same number has the same type
same_flow_type : (d : Data) (flow other : FlowTree) (n : ℕ) → flow_type d flow ≡ Some n → flow_type d other ≡ Some n
    → (not (is_control flow.kind) && is_other_flow (type_of_flow flow) other) ≡ false
same_flow_type d flow other n e f = by (is_control flow.kind) (is_control other.kind) refl refl where
  by : (a b : Bool) → is_control flow.kind ≡ a → is_control other.kind ≡ b
      → (not a && (not b && not (bytes_eq (type_of_flow other) (type_of_flow flow)))) ≡ false
  by true b p q = refl
  by false true p q = refl
  by false false p q =
      let one : type_of_flow other ≡ type_of_flow flow = one_name d (type_of_flow other) (type_of_flow flow) n
      (data_type d other.kind (type_of_flow other) n q f) (data_type d flow.kind (type_of_flow flow) n p e) in
      ap not ((bytes_decides (type_of_flow other) (type_of_flow flow)).1 one)

-- an element that exists has no fault
module _ (job : Job) (classes : List ClassPlan) (spaces : List ClassSpace) (colls : List Shape)
    (parts : HaveParts job classes spaces colls) (seen : List DefTree) (name : Word) (args : List ArgTree)
    (x : ℕ × List Term) (of : element_of job seen name args ≡ Some x) where
  number : coll_named job name.text ≡ Some x.0
  number = (pair_parts (coll_named job name.text) (indices_of job seen args) x of).0

  indices : indices_of job seen args ≡ Some x.1
  indices = (pair_parts (coll_named job name.text) (indices_of job seen args) x of).1

  as_many : IsTrue (is_element colls (length seen) x.0 x.1) → dimensions_of job x.0 ≡ length args
  as_many exists =
      let c = coll_there job name.text x.0 number in
      let s = parts.coll x.0 c.0 c.1 in
      let given : has_dimensions colls x.0 (length x.1) ≡ true = first_so (has_dimensions colls x.0 (length x.1))
      (list_all (is_closed (length seen)) x.1) exists in
      let shaped : dimensions s.0.cols ≡ length x.1 = eqb-true (dimensions s.0.cols) (length x.1)
      (at_some (λ (z : Shape). dimensions z.cols == length x.1) (slice_get colls x.0) s.0 s.1 given) in
      ap (λ o. option_map_or (λ (z : Coll). dimensions z.shape.1) o 0) c.1
      ∙ (sym (ap dimensions s.2.cols) ∙ (shaped ∙ each_length (index_of job seen) args x.1 indices))

  pub element_fits : IsTrue (is_element colls (length seen) x.0 x.1) → element_faults job seen name args ≡ []
  element_fits exists =
      none_joined (collection_faults job name (length args) (coll_named job name.text)) (indices_faults job seen args)
      (ap (collection_faults job name (length args)) number ∙ ap (λ b. fault_if (not b) name.spot Arity)
      (eq-eqb (dimensions_of job x.0) (length args) (as_many exists)))
      (indices_no_fault job seen args x.1 indices)

module _ (job : Job) (classes : List ClassPlan) (spaces : List ClassSpace) (colls : List Shape)
    (parts : HaveParts job classes spaces colls) (seen : List DefTree) (flow : FlowTree) (n : ℕ)
    (typed : flow_type job.given flow ≡ Some n) where
  abbrev IsWell : Direction → Target → Type 0
  IsWell direction t = IsWellTarget classes spaces colls (length seen) n flow.kind direction t

  -- ---- targets in tasks

  module _ (name class : Word) (args : List ArgTree) (x : ℕ × ℕ) (ys : List Arg) (of : task_of job name class ≡ Some x)
      (there : TaskThere job name class x) (closed : arguments_of job seen args ≡ Some ys) (direction : Direction)
      (well : IsWell direction (plan.Task x.0 x.1 ys)) where
    count : length there.class_tree.params ≡ length args
    count =
        let named = is_some (kinds.flow_of classes x.0 x.1) in
        let params = has_params spaces x.0 (length ys) in
        let given : params ≡ true = second_so named params (first_so (named && params) (list_all (is_closed_arg (length seen)) ys) well.exists) in
        same_params (slice_get spaces x.0) (length there.class_tree.params) (length ys) (parts.params x.0 there.class_tree there.class_is) given
        ∙ each_length (argument_of job seen) args ys closed

    flow_there : flow_named there.class_tree name.text ≡ Some x.1
    flow_there =
        sym (ap (option_and_then (λ (c : ClassTree). flow_named c name.text)) there.known)
        ∙ (pair_parts (class_named job class.text) (option_and_then (λ (c : ClassTree). flow_named c name.text) (class_of job class.text)) x of).1

    task_named : named_faults job seen (tree.Task name class args) ≡ []
    task_named =
        none_joined (task_faults name class (length args) (class_of job class.text)) (arguments_faults job seen args)
        (ap (task_faults name class (length args)) there.known
        ∙ none_joined (fault_if (not (length there.class_tree.params == length args)) class.spot Arity)
        (fault_if (is_none (flow_named there.class_tree name.text)) name.spot NoSuchFlow)
        (ap (λ b. fault_if (not b) class.spot Arity) (eq-eqb (length there.class_tree.params) (length args) count))
        (ap (λ o. fault_if (is_none o) name.spot NoSuchFlow) flow_there))
        (arguments_no_fault job seen args ys closed)

    type_there : flow_type job.given there.flow_tree ≡ Some n
    type_there =
        let p = parts.flow x.0 x.1 there.class_tree there.flow_tree there.class_is there.flow_is in
        let same : p.0.datatype ≡ n = eqb-true p.0.datatype n
        (at_some (λ (g : FlowPlan). g.datatype == n) (kinds.flow_of classes x.0 x.1) p.0 p.1 well.typed) in
        p.2.datatype ∙ ap Some same

    way : (d : Direction) → IsTrue (allowed classes flow.kind d (plan.Task x.0 x.1 ys)) → kind_faults d flow.kind (tree.Task name class args) ≡ []
    way In h = task_way classes flow.kind name class args x.0 x.1 ys (λ none. no_ranges job seen RangeInDataInput args ys closed none) h
    way Out h = refl

    task_rules : rule_faults job flow direction (tree.Task name class args) ≡ []
    task_rules = rules_kept job flow direction (tree.Task name class args)
        (ap (mixes_flows flow.kind) there.named ∙ task_sort classes flow.kind there.flow_tree.kind direction x.0 x.1 ys
        (kind_there job classes spaces colls parts seen flow n typed name class args x ys there closed) well.kind)
        (ap (λ o. not (is_control flow.kind) && option_map_or (is_other_flow (type_of_flow flow)) o false) there.named
        ∙ same_flow_type job.given flow there.flow_tree n typed type_there)
        (way direction well.kind)

  task_fits : (direction : Direction) (name class : Word) (args : List ArgTree) (t : Target)
      → target_of job seen (tree.Task name class args) ≡ Some t → IsWell direction t
      → target_faults job seen flow direction (tree.Task name class args) ≡ []
  task_fits direction name class args t e well =
      let q = parts_of (λ (x : ℕ × ℕ) (y : List Arg). plan.Task x.0 x.1 y) (task_of job name class) (arguments_of job seen args) t e in
      let there = task_there job name class q.0 q.2 in
      let fits = subst (IsWell direction) (sym q.4) well in
      none_joined (named_faults job seen (tree.Task name class args)) (rule_faults job flow direction (tree.Task name class args))
      (task_named name class args q.0 q.1 q.2 there q.3 direction fits)
      (task_rules name class args q.0 q.1 q.2 there q.3 direction fits)

  -- ---- elements

  module _ (name : Word) (args : List ArgTree) (x : ℕ × List Term) (of : element_of job seen name args ≡ Some x)
      (direction : Direction) (well : IsWell direction (plan.Element x.0 x.1)) where
    element_type : is_control flow.kind ≡ false → type_differs job (type_of_flow flow) (tree.Element name args) ≡ false
    element_type «data» =
        let named = (pair_parts (coll_named job name.text) (indices_of job seen args) x of).0 in
        let c = coll_there job name.text x.0 named in
        let s = parts.coll x.0 c.0 c.1 in
        let shaped : s.0.datatype ≡ n = eqb-true s.0.datatype n (at_some (λ (z : Shape). z.datatype == n) (slice_get colls x.0) s.0 s.1 well.typed) in
        let same : n ≡ c.0.datatype = sym shaped ∙ s.2.datatype in
        ap (λ o. option_map_or (has_other_type job.given (type_of_flow flow)) o false) named
        ∙ ap (λ o. option_map_or (λ (z : Coll). option_map_or (λ m. not (m == z.datatype)) (type_number job.given (type_of_flow flow)) true) o false) c.1
        ∙ ap (λ o. option_map_or (λ m. not (m == c.0.datatype)) o true) (data_type job.given flow.kind (type_of_flow flow) n «data» typed)
        ∙ ap not (eq-eqb n c.0.datatype same)

    element_rules : rule_faults job flow direction (tree.Element name args) ≡ []
    element_rules =
        let sort = element_sort classes flow.kind direction x.0 x.1 well.kind in
        rules_kept job flow direction (tree.Element name args) sort
        (ap (λ b. not (is_control flow.kind) && b) (element_type sort) ∙ and-false (not (is_control flow.kind)))
        (element_way flow.kind direction name args)

  element_target_fits : (direction : Direction) (name : Word) (args : List ArgTree) (t : Target)
      → target_of job seen (tree.Element name args) ≡ Some t → IsWell direction t
      → target_faults job seen flow direction (tree.Element name args) ≡ []
  element_target_fits direction name args t e well =
      let q = from_option_map (λ (x : ℕ × List Term). plan.Element x.0 x.1) (element_of job seen name args) t e in
      let fits = subst (IsWell direction) (sym q.2) well in
      none_joined (named_faults job seen (tree.Element name args)) (rule_faults job flow direction (tree.Element name args))
      (element_fits job classes spaces colls parts seen name args q.0 q.1 fits.exists) (element_rules name args q.0 q.1 direction fits)

  pub target_fits : (direction : Direction) (t : TargetTree) (q : Target) → target_of job seen t ≡ Some q
      → IsWell direction q → target_faults job seen flow direction t ≡ []
  target_fits direction (tree.Task name class args) q e well = task_fits direction name class args q e well
  target_fits direction (tree.Element name args) q e well = element_target_fits direction name args q e well
  target_fits direction (tree.New spot) q e well =
      let fits = subst (IsWell direction) (sym (same_Some plan.New q e)) well in
      let sort = new_sort classes flow.kind direction fits.kind in
      rules_kept job flow direction (tree.New spot) sort.0 (and-false (not (is_control flow.kind))) (new_way flow.kind direction spot sort.1)
  target_fits direction (tree.Null spot) q e well =
      let fits = subst (IsWell direction) (sym (same_Some plan.Null q e)) well in
      rules_kept job flow direction (tree.Null spot) (null_sort classes flow.kind direction fits.kind)
      (and-false (not (is_control flow.kind))) (null_way classes flow.kind direction spot fits.kind)
