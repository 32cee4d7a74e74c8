-- A resolved target that breaks no rule exists, has the flow's datatype, and is one that the flow may have.
use Rattle.std.proofs.Common.{◌≡◌, ℕ, Bool, true, false, not, ◌&&◌, ◌==◌, cond, List, [], ◌++◌, length, Some, option_map, is_some, IsTrue, refl, sym}
use Rattle.std.proofs.Common.{◌∙◌, ap, subst}
use Rattle.std.specs.List.{list_all}
use Rattle.std.specs.Option.{option_map_or}
use Rattle.std.proofs.lemmas.Bool.{false≢true, eqb-true, eq-eqb, and_from, not-false}
use Rattle.term_core.specs.Term.{Term}
use Rattle.term_core.specs.declared.direction.Direction.{Direction}
use Rattle.term_core.specs.declared.direction.Direction.TheVariants.{In, Out}
use Rattle.term_core.specs.declared.flow.FlowKind.{FlowKind}
use Rattle.term_core.specs.declared.space.ClassSpace.{ClassSpace}
use Rattle.jdf_tree.specs.declared.tree.TargetTree.TheVariants as tree
use Rattle.plan_core.specs.declared.class.ClassPlan.{ClassPlan}
use Rattle.plan_core.specs.declared.flow.FlowPlan.{FlowPlan}
use Rattle.plan_core.specs.declared.shape.Shape.{Shape}
use Rattle.plan_core.specs.declared.target.Arg.{Arg}
use Rattle.plan_core.specs.declared.target.Target.{Target}
use Rattle.plan_core.specs.declared.target.Target.TheVariants as plan
use Rattle.plan_core.specs.Closed.{is_closed_arg}
use Rattle.plan_core.specs.Kinds as kinds
use Rattle.plan_core.specs.Targets.{has_params, exists_target, has_datatype}
use Rattle.plan_core.specs.Flows.{is_in_target, is_out_target}
use Rattle.type_rules.specs.TreesAndFaults.{Spot, Word, ArgTree, DefTree, TargetTree, FlowTree, Arity, CtlMixed, TypeDiffers, WriteInput, NewSent}
use Rattle.type_rules.specs.TreesAndFaults.{RangeInDataInput}
use Rattle.type_rules.specs.Faults.{fault_if}
use Rattle.type_rules.specs.Names.{Job, coll_named, class_of}
use Rattle.type_rules.specs.Arguments.{argument_of, arguments_faults, arguments_of, ranges_faults, indices_of}
use Rattle.type_rules.proofs.Closed.{pair_parts}
use Rattle.type_rules.proofs.ClosedArguments.{closed_arguments, no_ranges}
use Rattle.type_rules.proofs.NoFaults.{holds_not, parts_of}
use Rattle.type_rules.proofs.Parts.{each_length}
use Rattle.type_rules.specs.Kinds.{is_control, is_write}
use Rattle.type_rules.specs.Datatypes.{type_of_flow, flow_type}
use Rattle.type_rules.specs.Elements.{element_of}
use Rattle.type_rules.specs.Targets.{first_spot, class_faults, task_faults, task_of, named_faults, target_of}
use Rattle.type_rules.specs.Rules.{mixes_flows, is_mixed, task_ranges, kind_faults, has_other_type, is_other_flow, type_differs, rule_faults}
use Rattle.type_rules.specs.Dependences.{target_faults}
use Rattle.type_rules.specs.PartsOfJob.{HaveParts}
use Rattle.type_rules.proofs.Elements.{coll_there, element_exists}
use Rattle.type_rules.proofs.TaskTargets.{TaskThere, task_there}
use Rattle.type_rules.proofs.KindRules.{same_sort, in_task, out_task, in_element, out_element, in_new, in_null, out_null}
use Rattle.type_rules.proofs.TypeRules.{flows_agree, element_agrees}
use Rattle.std.proofs.lemmas.Option.{same_Some as some_once}
use Rattle.list_lemmas.proofs.Joins.{first_nil, rest_nil}
use Rattle.list_lemmas.proofs.Options.{from_option_map}

-- which targets are allowed in a direction
abbrev pub allowed : List ClassPlan → FlowKind → Direction → Target → Bool
allowed classes k In t = is_in_target classes k t
allowed classes k Out t = is_out_target classes k t

-- A target exists, has a datatype and is allowed.
pub record IsWellTarget (classes : List ClassPlan) (spaces : List ClassSpace) (colls : List Shape)
    (locals datatype : ℕ) (k : FlowKind) (direction : Direction) (t : Target) : Type 0 where
  pub exists : IsTrue (exists_target classes spaces colls locals t)
  pub typed : IsTrue (has_datatype classes colls datatype t)
  pub kind : IsTrue (allowed classes k direction t)

-- the target breaks no rule
record KeepsRules (job : Job) (flow : FlowTree) (direction : Direction) (t : TargetTree) : Type 0 where
  sort : is_mixed job flow.kind t ≡ false
  type : (not (is_control flow.kind) && type_differs job (type_of_flow flow) t) ≡ false
  kind : kind_faults direction flow.kind t ≡ []

keeps_rules : (job : Job) (flow : FlowTree) (direction : Direction) (t : TargetTree) → rule_faults job flow direction t ≡ [] → KeepsRules job flow direction t
keeps_rules job flow direction t h =
    let mixed = fault_if (is_mixed job flow.kind t) (first_spot t) CtlMixed in
    let differs = fault_if (not (is_control flow.kind) && type_differs job (type_of_flow flow) t) (first_spot t) TypeDiffers in
    let kind = kind_faults direction flow.kind t in
    let two = first_nil (mixed ++ differs) kind h in
    record {
      sort = holds_not (is_mixed job flow.kind t) (first_spot t) CtlMixed (first_nil mixed differs two);
      type = holds_not (not (is_control flow.kind) && type_differs job (type_of_flow flow) t) (first_spot t) TypeDiffers (rest_nil mixed differs two);
      kind = rest_nil (mixed ++ differs) kind h;
    }

and_true : (b : Bool) → (b && true) ≡ false → b ≡ false
and_true true e = e
and_true false e = refl

module _ (job : Job) (classes : List ClassPlan) (spaces : List ClassSpace) (colls : List Shape)
    (parts : HaveParts job classes spaces colls) (seen : List DefTree) (flow : FlowTree) (n : ℕ)
    (typed : flow_type job.given flow ≡ Some n) where
  abbrev IsWell : Direction → Target → Type 0
  IsWell direction t = IsWellTarget classes spaces colls (length seen) n flow.kind direction t

  -- ---- targets in tasks

  module _ (name class : Word) (args : List ArgTree) (x : ℕ × ℕ) (ys : List Arg)
      (there : TaskThere job name class x) (closed : arguments_of job seen args ≡ Some ys) where
    task_exists : named_faults job seen (tree.Task name class args) ≡ [] → IsTrue (exists_target classes spaces colls (length seen) (plan.Task x.0 x.1 ys))
    task_exists h =
        let c = there.class_tree in
        let p = parts.flow x.0 x.1 c there.flow_tree there.class_is there.flow_is in
        let known : class_faults name class (length args) c ≡ [] =
        ap (task_faults name class (length args)) (sym there.known)
        ∙ first_nil (task_faults name class (length args) (class_of job class.text))
        (arguments_faults job seen args) h in
        let arity = holds_not (not (length c.params == length args)) class.spot Arity (first_nil _ _ known) in
        let count : length c.params ≡ length ys =
        eqb-true (length c.params) (length args) (not-false (length c.params == length args) arity)
        ∙ sym (each_length (argument_of job seen) args ys closed) in
        let params : IsTrue (has_params spaces x.0 (length ys)) = subst (λ m. IsTrue (has_params spaces x.0 m)) count (parts.params x.0 c there.class_is) in
        let named : IsTrue (is_some (kinds.flow_of classes x.0 x.1)) = ap is_some p.1 in
        and_from (is_some (kinds.flow_of classes x.0 x.1) && has_params spaces x.0 (length ys)) (list_all (is_closed_arg (length seen)) ys)
        (and_from (is_some (kinds.flow_of classes x.0 x.1)) (has_params spaces x.0 (length ys)) named params) (closed_arguments job seen args ys closed)

    task_sort : is_mixed job flow.kind (tree.Task name class args) ≡ false → is_control there.flow_tree.kind ≡ is_control flow.kind
    task_sort h = same_sort flow.kind there.flow_tree.kind (ap (mixes_flows flow.kind) (sym there.named) ∙ h)

    task_datatype : (direction : Direction) → KeepsRules job flow direction (tree.Task name class args)
        → IsTrue (has_datatype classes colls n (plan.Task x.0 x.1 ys))
    task_datatype direction r =
        let f = there.flow_tree in
        let p = parts.flow x.0 x.1 there.class_tree f there.class_is there.flow_is in
        let differs : (not (is_control flow.kind) && is_other_flow (type_of_flow flow) f) ≡ false =
        ap (λ o. not (is_control flow.kind) && option_map_or (is_other_flow (type_of_flow flow)) o false) (sym there.named) ∙ r.type in
        ap (λ o. option_map_or (λ (g : FlowPlan). g.datatype == n) o false) p.1
        ∙ eq-eqb p.0.datatype n (flows_agree job.given flow f n p.0.datatype (task_sort r.sort) differs typed
        p.2.datatype)

    pub kind_there : kinds.kind_of classes x.0 x.1 ≡ Some there.flow_tree.kind
    kind_there =
        let p = parts.flow x.0 x.1 there.class_tree there.flow_tree there.class_is there.flow_is in
        ap (option_map (λ (g : FlowPlan). g.kind)) p.1 ∙ ap (λ k. Some k) p.2.kind

    task_kind : (direction : Direction) → KeepsRules job flow direction (tree.Task name class args)
        → IsTrue (allowed classes flow.kind direction (plan.Task x.0 x.1 ys))
    task_kind In r =
        let write = fault_if (is_write flow.kind && true) name.spot WriteInput in
        let ranges = cond (is_control flow.kind) [] (ranges_faults RangeInDataInput args) in
        in_task classes flow.kind there.flow_tree.kind x.0 x.1 ys kind_there (task_sort r.sort)
        (and_true (is_write flow.kind)
        (holds_not (is_write flow.kind && true) name.spot WriteInput (first_nil write ranges r.kind)))
        (λ tile. no_ranges job seen RangeInDataInput args ys
        (ap (λ b. cond b [] (ranges_faults RangeInDataInput args)) (sym tile) ∙ rest_nil write ranges r.kind)
        closed)
    task_kind Out r = out_task classes flow.kind there.flow_tree.kind x.0 x.1 ys kind_there (task_sort r.sort)

  task_well : (direction : Direction) (name class : Word) (args : List ArgTree) (t : Target)
      → target_faults job seen flow direction (tree.Task name class args) ≡ []
      → target_of job seen (tree.Task name class args) ≡ Some t → IsWell direction t
  task_well direction name class args t h e =
      let q = parts_of (λ (x : ℕ × ℕ) (y : List Arg). plan.Task x.0 x.1 y) (task_of job name class) (arguments_of job seen args) t e in
      let there = task_there job name class q.0 q.2 in
      let named = first_nil (named_faults job seen (tree.Task name class args)) (rule_faults job flow direction (tree.Task name class args)) h in
      let rules = keeps_rules job flow direction (tree.Task name class args)
      (rest_nil (named_faults job seen (tree.Task name class args))
      (rule_faults job flow direction (tree.Task name class args)) h) in
      subst (IsWell direction) q.4
      (record {
        exists = task_exists name class args q.0 q.1 there q.3 named;
        typed = task_datatype name class args q.0 q.1 there q.3 direction rules;
        kind = task_kind name class args q.0 q.1 there q.3 direction rules;
      })

  -- ---- elements

  element_kind : (direction : Direction) (m : ℕ) (indices : List Term) → is_control flow.kind ≡ false
      → IsTrue (allowed classes flow.kind direction (plan.Element m indices))
  element_kind In m indices h = in_element classes flow.kind m indices h
  element_kind Out m indices h = out_element classes flow.kind m indices h

  element_well : (direction : Direction) (name : Word) (args : List ArgTree) (t : Target)
      → target_faults job seen flow direction (tree.Element name args) ≡ []
      → target_of job seen (tree.Element name args) ≡ Some t → IsWell direction t
  element_well direction name args t h e =
      let q = from_option_map (λ (x : ℕ × List Term). plan.Element x.0 x.1) (element_of job seen name args) t e in
      let x = q.0 in
      let named = first_nil (named_faults job seen (tree.Element name args)) (rule_faults job flow direction (tree.Element name args)) h in
      let rules = keeps_rules job flow direction (tree.Element name args)
      (rest_nil (named_faults job seen (tree.Element name args))
      (rule_faults job flow direction (tree.Element name args)) h) in
      let number = (pair_parts (coll_named job name.text) (indices_of job seen args) x q.1).0 in
      let c = coll_there job name.text x.0 number in
      let s = parts.coll x.0 c.0 c.1 in
      let differs : has_other_type job.given (type_of_flow flow) x.0 ≡ false =
      ap (λ o. option_map_or (has_other_type job.given (type_of_flow flow)) o false) (sym number)
      ∙ (ap (λ b. not b && type_differs job (type_of_flow flow) (tree.Element name args)) (sym rules.sort)
      ∙ rules.type) in
      let one : s.0.datatype ≡ n = s.2.datatype ∙ element_agrees job.given flow x.0 c.0 n rules.sort differs c.1 typed in
      subst (IsWell direction) q.2
      (record {
        exists = element_exists job classes spaces colls parts seen name args x named q.1;
        typed = ap (λ o. option_map_or (λ (g : Shape). g.datatype == n) o false) s.1 ∙ eq-eqb s.0.datatype n one;
        kind = element_kind direction x.0 x.1 rules.sort;
      })

  -- ---- new tiles and no tile

  new_kind : (direction : Direction) (spot : Spot) → KeepsRules job flow direction (tree.New spot) → IsTrue (allowed classes flow.kind direction plan.New)
  new_kind In spot r = in_new classes flow.kind r.sort
  new_kind Out spot r = absurd (false≢true (sym (holds_not true spot NewSent r.kind)))

  null_kind : (direction : Direction) (spot : Spot) → KeepsRules job flow direction (tree.Null spot) → IsTrue (allowed classes flow.kind direction plan.Null)
  null_kind In spot r =
      let write = fault_if (is_write flow.kind && true) spot WriteInput in
      let ranges = cond (is_control flow.kind) [] (task_ranges (tree.Null spot)) in
      in_null classes flow.kind r.sort (and_true (is_write flow.kind) (holds_not (is_write flow.kind && true) spot WriteInput (first_nil write ranges r.kind)))
  null_kind Out spot r = out_null classes flow.kind r.sort

  pub target_well : (direction : Direction) (t : TargetTree) (p : Target)
      → target_faults job seen flow direction t ≡ [] → target_of job seen t ≡ Some p
      → IsWellTarget classes spaces colls (length seen) n flow.kind direction p
  target_well direction (tree.Task name class args) p h e = task_well direction name class args p h e
  target_well direction (tree.Element name args) p h e = element_well direction name args p h e
  target_well direction (tree.New spot) p h e =
      subst (IsWell direction) (some_once plan.New p e)
      (record {
        exists = refl;
        typed = refl;
        kind =
            new_kind direction spot (keeps_rules job flow direction (tree.New spot) h);
      })
  target_well direction (tree.Null spot) p h e =
      subst (IsWell direction) (some_once plan.Null p e)
      (record {
        exists = refl;
        typed = refl;
        kind =
            null_kind direction spot (keeps_rules job flow direction (tree.Null spot) h);
      })
