-- What breaks no rule is resolved: elements, targets, dependences and flows.
use Rattle.std.proofs.Common.{◌≡◌, ℕ, suc, Bool, true, false, not, ◌&&◌, ◌==◌, cond, List, [], ◌++◌, length, filter}
use Rattle.std.proofs.Common.{Option, Some, None, option_map, is_none, slice_get, refl, sym, subst}
use Rattle.std.specs.Prelude.{option_and_then}
use Rattle.std.specs.Option.{IsSome, option_map_or}
use Rattle.std.specs.List.{position}
use Rattle.term_core.specs.declared.direction.Direction.{Direction}
use Rattle.term_core.specs.declared.direction.Direction.TheVariants.{In, Out}
use Rattle.term_core.specs.Term.{Term}
use Rattle.term_core.specs.declared.flow.FlowKind.{FlowKind}
use Rattle.jdf_tree.specs.declared.tree.TargetTree.TheVariants as tree
use Rattle.coll_data.specs.Data.{Data}
use Rattle.plan_core.specs.declared.target.Target.TheVariants as plan
use Rattle.type_rules.specs.TreesAndFaults.{Word, DefTree, ArgTree, TargetTree, DepTree, FlowTree, ClassTree, NoSuchFlow, Arity, Datatype}
use Rattle.type_rules.specs.Faults.{fault_if}
use Rattle.type_rules.specs.Returns.{both, each_option}
use Rattle.type_rules.specs.Names.{Job, class_named, class_of, flow_named, coll_named}
use Rattle.type_rules.specs.Arguments.{arguments_faults, arguments_of, indices_faults, indices_of}
use Rattle.type_rules.specs.Expressions.{option_faults, option_term}
use Rattle.list_lemmas.proofs.Joins.{first_nil, rest_nil}
use Rattle.list_lemmas.proofs.Texts.{bytes_eq-self}
use Rattle.list_lemmas.proofs.Options.{IsSome-option_map}
use Rattle.check_laws.proofs.AllThere.{some_both, not_none, both_there, each_there, maybe_there}
use Rattle.check_laws.proofs.NamesResolved.{option_there, arguments_there, indices_there}
use Rattle.type_rules.specs.Kinds.{is_control}
use Rattle.type_rules.specs.Elements.{collection_faults, element_faults, element_of}
use Rattle.coll_data.specs.Types.{default_type}
use Rattle.type_rules.specs.Datatypes.{type_is, allowed_type, type_of_written, written_faults, first_written, flow_type}
use Rattle.type_rules.specs.Targets.{task_faults, task_of, named_faults, target_of}
use Rattle.type_rules.specs.Rules.{rule_faults}
use Rattle.type_rules.specs.Dependences.{target_faults, type_faults, dependence_faults, dependence_of, is_of_direction}
use Rattle.type_rules.specs.Dependences.{dependences_of, dependences_faults, directions_of, directions_faults}
use Rattle.type_rules.specs.Dependences.{flow_faults, flow_from, flow_plan}
use Rattle.type_rules.proofs.CallerLemmas.{dep_from, task_from}

-- ---- elements

collection_there : (job : Job) (w : Word) (count : ℕ) (o : Option ℕ) → collection_faults job w count o ≡ [] → IsSome o
collection_there job w count None h = absurd cc
collection_there job w count (Some n) h = refl

pub element_there : (job : Job) (seen : List DefTree) (w : Word) (args : List ArgTree)
    → element_faults job seen w args ≡ [] → IsSome (element_of job seen w args)
element_there job seen w args h =
    both_there (λ x y. (x, y)) (coll_named job w.text) (indices_of job seen args)
    (collection_faults job w (length args) (coll_named job w.text)) (indices_faults job seen args)
    (collection_there job w (length args) (coll_named job w.text)) (indices_there job seen args) h

-- ---- targets

abbrev pair : ℕ → ℕ → ℕ × ℕ
pair x y = (x, y)

flow_there : (flow name : Word) (count n : ℕ) (o : Option ClassTree) → task_faults flow name count o ≡ []
    → IsSome (both pair (Some n) (option_and_then (λ (c : ClassTree). flow_named c flow.text) o))
flow_there flow name count n None h = absurd cc
flow_there flow name count n (Some class) h =
    let arity = fault_if (not (length class.params == count)) name.spot Arity in
    let named = fault_if (is_none (flow_named class flow.text)) flow.spot NoSuchFlow in
    some_both pair (Some n) (flow_named class flow.text) refl (not_none (flow_named class flow.text) flow.spot NoSuchFlow (rest_nil arity named h))

task_there : (job : Job) (flow name : Word) (count : ℕ) (number : Option ℕ)
    → task_faults flow name count (option_and_then (slice_get job.jdf.classes) number) ≡ []
    → IsSome (both pair number (option_and_then (λ (c : ClassTree). flow_named c flow.text) (option_and_then (slice_get job.jdf.classes) number)))
task_there job flow name count None h = absurd cc
task_there job flow name count (Some n) h = flow_there flow name count n (slice_get job.jdf.classes n) h

target_there : (job : Job) (seen : List DefTree) (t : TargetTree) → named_faults job seen t ≡ [] → IsSome (target_of job seen t)
target_there job seen (tree.Task flow class args) h =
    both_there task_from (task_of job flow class) (arguments_of job seen args)
    (task_faults flow class (length args) (class_of job class.text)) (arguments_faults job seen args)
    (task_there job flow class (length args) (class_named job class.text)) (arguments_there job seen args) h
target_there job seen (tree.Element coll args) h = IsSome-option_map (λ (x : ℕ × List Term). plan.Element x.0 x.1)
    (element_of job seen coll args) (element_there job seen coll args h)
target_there job seen (tree.New spot) h = refl
target_there job seen (tree.Null spot) h = refl

allowed_there : (job : Job) (seen : List DefTree) (flow : FlowTree) (direction : Direction) (t : TargetTree)
    → target_faults job seen flow direction t ≡ [] → IsSome (target_of job seen t)
allowed_there job seen flow direction t h = target_there job seen t (first_nil (named_faults job seen t) (rule_faults job flow direction t) h)

-- ---- dependences

dependence_there : (job : Job) (seen : List DefTree) (flow : FlowTree) (dep : DepTree)
    → dependence_faults job seen flow dep ≡ [] → IsSome (dependence_of job seen dep)
dependence_there job seen flow dep h =
    let faults = target_faults job seen flow dep.direction in
    let guard = option_faults job seen dep.guard in
    let targets = faults dep.yes ++ option_map_or faults dep.no [] in
    both_there dep_from (option_term job seen dep.guard) (both (λ x y. (x, y)) (target_of job seen dep.yes)
    (each_option (target_of job seen) dep.no)) guard targets (option_there job seen dep.guard)
    (both_there (λ x y. (x, y)) (target_of job seen dep.yes) (each_option (target_of job seen) dep.no) (faults dep.yes) (option_map_or faults dep.no [])
    (allowed_there job seen flow dep.direction dep.yes) (maybe_there (target_of job seen)
    (λ t. option_map_or faults t []) (allowed_there job seen flow dep.direction) dep.no))
    (first_nil (guard ++ targets) (type_faults job.given flow dep) h)

dependences_there : (job : Job) (seen : List DefTree) (flow : FlowTree) (direction : Direction) (deps : List DepTree)
    → dependences_faults job seen flow direction deps ≡ [] → IsSome (dependences_of job seen direction deps)
dependences_there job seen flow direction deps h = each_there (dependence_of job seen) (dependence_faults job seen flow)
    (dependence_there job seen flow) (filter (is_of_direction direction) deps) h

directions_there : (job : Job) (seen : List DefTree) (flow : FlowTree) (deps : List DepTree)
    → directions_faults job seen flow deps ≡ [] → IsSome (directions_of job seen deps)
directions_there job seen flow deps h =
    both_there (λ x y. (x, y)) (dependences_of job seen In deps) (dependences_of job seen Out deps)
    (dependences_faults job seen flow In deps) (dependences_faults job seen flow Out deps)
    (dependences_there job seen flow In deps) (dependences_there job seen flow Out deps) h

-- ---- flows

-- each flow may have the type DEFAULT
default_allowed : (d : Data) (kind : FlowKind) → IsSome (allowed_type d kind default_type)
default_allowed d kind =
    subst (λ b. IsSome (cond (is_control kind && not b) None
    (cond b (Some 0) (option_map suc (position (type_is default_type) d.types)))))
    (sym (bytes_eq-self default_type)) (go (is_control kind))
  where
    go : (c : Bool) → IsSome (cond (c && not true) None (cond true (Some 0) (option_map suc (position (type_is default_type) d.types))))
    go true = refl
    go false = refl

type_there : (d : Data) (kind : FlowKind) (written : Option Word) → written_faults d kind written ≡ [] → IsSome (allowed_type d kind (type_of_written written))
type_there d kind None h = default_allowed d kind
type_there d kind (Some w) h = not_none (allowed_type d kind w.text) w.spot Datatype h

pub flow_is_there : (job : Job) (seen : List DefTree) (flow : FlowTree) → flow_faults job seen flow ≡ [] → IsSome (flow_plan job seen flow)
flow_is_there job seen flow h =
    both_there (flow_from flow) (flow_type job.given flow) (directions_of job seen flow.deps)
    (written_faults job.given flow.kind (first_written flow.deps)) (directions_faults job seen flow flow.deps)
    (type_there job.given flow.kind (first_written flow.deps)) (directions_there job seen flow flow.deps) h
