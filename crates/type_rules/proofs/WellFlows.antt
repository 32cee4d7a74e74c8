-- A resolved flow that breaks no rule may be a flow of a plan.
use Rattle.std.proofs.Common.{◌≡◌, ℕ, suc, ◌+◌, Bool, true, false, not, ◌&&◌, cond, List, [], ◌∷◌, ◌++◌, length, filter, flat_map, Option, Some}
use Rattle.std.proofs.Common.{None, is_some, IsSome, nat_le, IsTrue, refl, sym, ◌∙◌, ap, subst, arith}
use Rattle.std.specs.List.{list_all, AllByRecursion}
use Rattle.std.proofs.lemmas.Bool.{false≢true, le-leb, and_from}
use Rattle.std.proofs.lemmas.List.Filters.{length-filter_both}
use Rattle.term_core.specs.declared.direction.Direction.{Direction}
use Rattle.term_core.specs.declared.direction.Direction.TheVariants.{In, Out}
use Rattle.term_core.specs.Directions.{is_same}
use Rattle.term_core.specs.Term.{Term}
use Rattle.term_core.specs.declared.space.ClassSpace.{ClassSpace}
use Rattle.jdf_tree.specs.Expression.{Expression}
use Rattle.jdf_tree.specs.TreeLimits.{HasGuardForSecond, IsFlowWithinLimits}
use Rattle.plan_core.specs.declared.class.ClassPlan.{ClassPlan}
use Rattle.plan_core.specs.declared.flow.DepPlan.{DepPlan}
use Rattle.plan_core.specs.declared.flow.FlowPlan.{FlowPlan}
use Rattle.plan_core.specs.declared.shape.Shape.{Shape}
use Rattle.plan_core.specs.declared.target.Target.{Target}
use Rattle.plan_core.specs.Closed.{is_closed_option}
use Rattle.plan_core.specs.Targets.{exists_target, has_datatype}
use Rattle.plan_core.specs.Flows.{is_second, is_dependence, is_datatype, is_source, is_destination, is_flow}
use Rattle.type_rules.specs.TreesAndFaults.{JdfFault, DefTree, TargetTree, DepTree, FlowTree}
use Rattle.type_rules.specs.Names.{Job}
use Rattle.type_rules.specs.Returns.{both, each, each_option}
use Rattle.type_rules.specs.Expressions.{term_of, option_faults, option_term}
use Rattle.type_rules.proofs.Closed.{closed_option, pair_parts}
use Rattle.type_rules.proofs.NoFaults.{parts_of, option_there}
use Rattle.type_rules.proofs.Parts.{each_length}
use Rattle.type_rules.specs.Datatypes.{written_faults, first_written, type_of_flow, flow_type}
use Rattle.type_rules.specs.Targets.{target_of}
use Rattle.type_rules.specs.Dependences.{target_faults, type_faults, dependence_faults, dependence_of, is_of_direction, dependences_of}
use Rattle.type_rules.specs.Dependences.{dependences_faults, directions_of, flow_faults, flow_from, flow_plan}
use Rattle.type_rules.specs.PartsOfJob.{HaveParts}
use Rattle.type_rules.proofs.TypeRules.{datatype_allowed}
use Rattle.type_rules.proofs.Ways.{dep_from}
use Rattle.type_rules.proofs.WellTargets.{allowed, IsWellTarget, target_well}
use Rattle.std.proofs.lemmas.Option.{same_Some}
use Rattle.std.specs.Option.{option_map_or}
use Rattle.list_lemmas.proofs.Joins.{first_nil, rest_nil}

-- ---- lists

-- what holds for each kept element holds for all parts
parts_kept : {A B : Type 0} (f : A → Option B) (g : A → List JdfFault) (keep : A → Bool) (p : B → Bool)
    (P : A → Type 0) → ((a : A) (b : B) → keep a ≡ true → P a → g a ≡ [] → f a ≡ Some b → IsTrue (p b))
    → (xs : List A) (ys : List B) → AllByRecursion P xs → flat_map g (filter keep xs) ≡ [] → each f (filter keep xs) ≡ Some ys → IsTrue (list_all p ys)
parts_kept f g keep p P h [] ys all none e = subst (λ l. IsTrue (list_all p l)) (same_Some [] ys e) refl
parts_kept {A} {B} f g keep p P h (x ∷ xs) ys all none e = go (keep x) refl (λ zs n s. parts_kept f g keep p P h xs zs all.1 n s) none e
  where
    go : (b : Bool) → keep x ≡ b → ((zs : List B) → flat_map g (filter keep xs) ≡ [] → each f (filter keep xs) ≡ Some zs → IsTrue (list_all p zs))
        → flat_map g (cond b (x ∷ filter keep xs) (filter keep xs)) ≡ []
        → each f (cond b (x ∷ filter keep xs) (filter keep xs)) ≡ Some ys → IsTrue (list_all p ys)
    go true k more n s =
        let q = parts_of (λ y ys. y ∷ ys) (f x) (each f (filter keep xs)) ys s in
        subst (λ l. IsTrue (list_all p l)) q.4
        (and_from (p q.0) (list_all p q.1) (h x q.0 k all.0 (first_nil (g x) (flat_map g (filter keep xs)) n) q.2)
        (more q.1 (rest_nil (g x) (flat_map g (filter keep xs)) n) q.3))
    go false k more n s = more ys n s

-- a dependence that is kept for a direction has that direction
pub of_direction : (direction : Direction) (dep : DepTree) → is_of_direction direction dep ≡ true → dep.direction ≡ direction
of_direction direction dep e = go dep.direction direction e
  where
    go : (a b : Direction) → is_same a b ≡ true → a ≡ b
    go In In e = refl
    go In Out e = absurd (false≢true e)
    go Out In e = absurd (false≢true e)
    go Out Out e = refl

-- a dependence is an out dependence if it is no in dependence
turned : (d : Direction) → is_same d Out ≡ not (is_same d In)
turned In = refl
turned Out = refl

-- whether a target may be that of a dependence in this direction
abbrev pub ends : List ClassPlan → List ClassSpace → List Shape → ℕ → FlowPlan → Direction → Target → Bool
ends classes spaces colls locals f In t = is_source classes spaces colls locals f t
ends classes spaces colls locals f Out t = is_destination classes spaces colls locals f t

module _ (job : Job) (classes : List ClassPlan) (spaces : List ClassSpace) (colls : List Shape)
    (parts : HaveParts job classes spaces colls) (seen : List DefTree) (flow : FlowTree) (p : FlowPlan)
    (typed : flow_type job.given flow ≡ Some p.datatype) (kind : p.kind ≡ flow.kind) where
  target_passes : (direction : Direction) (t : TargetTree) (q : Target)
      → target_faults job seen flow direction t ≡ [] → target_of job seen t ≡ Some q
      → IsTrue (ends classes spaces colls (length seen) p direction q)
  target_passes direction t q h e = passes direction q
      (subst (λ k. IsWellTarget classes spaces colls (length seen) p.datatype k direction q) (sym kind)
      (target_well job classes spaces colls parts seen flow p.datatype typed direction t q h e))
    where
      passes : (d : Direction) (q : Target) → IsWellTarget classes spaces colls (length seen) p.datatype p.kind d q
          → IsTrue (ends classes spaces colls (length seen) p d q)
      passes In q w =
          and_from (exists_target classes spaces colls (length seen) q && has_datatype classes colls p.datatype q) (allowed classes p.kind In q)
          (and_from (exists_target classes spaces colls (length seen) q) (has_datatype classes colls p.datatype q) w.exists w.typed) w.kind
      passes Out q w =
          and_from (exists_target classes spaces colls (length seen) q && has_datatype classes colls p.datatype q) (allowed classes p.kind Out q)
          (and_from (exists_target classes spaces colls (length seen) q) (has_datatype classes colls p.datatype q) w.exists w.typed) w.kind

  -- a second target has a guard, and passes
  second_passes : (direction : Direction) (guard : Option Expression) (g : Option Term) (no : Option TargetTree)
      (o : Option Target) → (IsSome no → IsSome guard) → option_term job seen guard ≡ Some g
      → option_map_or (target_faults job seen flow direction) no [] ≡ []
      → each_option (target_of job seen) no ≡ Some o
      → IsTrue (is_second (ends classes spaces colls (length seen) p direction) g o)
  second_passes direction guard g None o guarded eg h e =
      subst (λ z. IsTrue (is_second (ends classes spaces colls (length seen) p direction) g z)) (same_Some None o e)
      refl
  second_passes direction None g (Some t) o guarded eg h e = absurd (false≢true (guarded refl))
  second_passes direction (Some c) g (Some t) o guarded eg h e =
      let q = option_there (target_of job seen) t o e in
      let w = option_there (term_of job seen) c g eg in
      subst (λ z. IsTrue (is_second (ends classes spaces colls (length seen) p direction) g z)) q.2
      (and_from (is_some g) (ends classes spaces colls (length seen) p direction q.0) (ap is_some (sym w.2)) (target_passes direction t q.0 h q.1))

  dependence_passes : (direction : Direction) (dep : DepTree) (d : DepPlan) → is_of_direction direction dep ≡ true
      → HasGuardForSecond dep → dependence_faults job seen flow dep ≡ [] → dependence_of job seen dep ≡ Some d
      → IsTrue (is_dependence (length seen) (ends classes spaces colls (length seen) p direction) d)
  dependence_passes direction dep d here guarded h e =
      let q = parts_of dep_from (option_term job seen dep.guard)
      (both (λ x y. (x, y)) (target_of job seen dep.yes) (each_option (target_of job seen) dep.no)) d e in
      let two = pair_parts (target_of job seen dep.yes) (each_option (target_of job seen) dep.no) q.1 q.3 in
      let first = target_faults job seen flow dep.direction dep.yes in
      let second = option_map_or (target_faults job seen flow dep.direction) dep.no [] in
      let targets : first ++ second ≡ [] =
      rest_nil (option_faults job seen dep.guard) (first ++ second)
      (first_nil (option_faults job seen dep.guard ++ (first ++ second)) (type_faults job.given flow dep) h) in
      let same = of_direction direction dep here in
      let yes : target_faults job seen flow direction dep.yes ≡ [] =
      ap (λ b. target_faults job seen flow b dep.yes) (sym same) ∙ first_nil first second targets in
      let no : option_map_or (target_faults job seen flow direction) dep.no [] ≡ [] =
      ap (λ b. option_map_or (target_faults job seen flow b) dep.no []) (sym same)
      ∙ rest_nil first second targets in
      let passes = ends classes spaces colls (length seen) p direction in
      subst (λ z. IsTrue (is_dependence (length seen) passes z)) q.4
      (and_from (is_closed_option (length seen) q.0 && passes q.1.0) (is_second passes q.0 q.1.1)
      (and_from (is_closed_option (length seen) q.0) (passes q.1.0) (closed_option job seen dep.guard q.0 q.2)
      (target_passes direction dep.yes q.1.0 yes two.0))
      (second_passes direction dep.guard q.0 dep.no q.1.1 guarded q.2 no two.1))

  dependences_pass : (direction : Direction) (deps : List DepTree) (ds : List DepPlan)
      → AllByRecursion HasGuardForSecond deps → dependences_faults job seen flow direction deps ≡ []
      → dependences_of job seen direction deps ≡ Some ds
      → IsTrue (list_all (is_dependence (length seen) (ends classes spaces colls (length seen) p direction)) ds)
  dependences_pass direction deps ds all h e =
      parts_kept (dependence_of job seen) (dependence_faults job seen flow) (is_of_direction direction)
      (is_dependence (length seen) (ends classes spaces colls (length seen) p direction)) HasGuardForSecond
      (λ dep d here guarded none given. dependence_passes direction dep d here guarded none given) deps ds all h e

-- the dependences of both directions together are all dependences
both_counts : (job : Job) (seen : List DefTree) (deps : List DepTree) (ins outs : List DepPlan)
    → dependences_of job seen In deps ≡ Some ins → dependences_of job seen Out deps ≡ Some outs
    → length ins + length outs ≡ length deps
both_counts job seen deps ins outs e f =
    let a = each_length (dependence_of job seen) (filter (is_of_direction In) deps) ins e in
    let b = each_length (dependence_of job seen) (filter (is_of_direction Out) deps) outs f in
    (λ i. a i + b i) ∙ length-filter_both (is_of_direction In) (is_of_direction Out) (λ dep. turned dep.direction) deps

pub well_flow : (job : Job) (classes : List ClassPlan) (spaces : List ClassSpace) (colls : List Shape)
    → HaveParts job classes spaces colls → (seen : List DefTree) (flow : FlowTree) (p : FlowPlan)
    → IsFlowWithinLimits flow
    → flow_faults job seen flow ≡ [] → flow_plan job seen flow ≡ Some p → IsTrue (is_flow classes spaces colls (suc (length job.given.types)) (length seen) p)
well_flow job classes spaces colls parts seen flow p within h e =
    let q = parts_of (flow_from flow) (flow_type job.given flow) (directions_of job seen flow.deps) p e in
    let two = pair_parts (dependences_of job seen In flow.deps) (dependences_of job seen Out flow.deps) q.1 q.3 in
    let ins = dependences_faults job seen flow In flow.deps in
    let outs = dependences_faults job seen flow Out flow.deps in
    let none : ins ++ outs ≡ [] = rest_nil (written_faults job.given flow.kind (first_written flow.deps)) (ins ++ outs) h in
    let made = flow_from flow q.0 q.1 in
    let count = both_counts job seen flow.deps q.1.0 q.1.1 two.0 two.1 in
    let short = within.count in
    let types = suc (length job.given.types) in
    let locals = length seen in
    let typed = is_datatype types flow.kind q.0 in
    let few = nat_le (length q.1.0 + length q.1.1) 16 in
    let all_in = list_all (is_dependence locals (is_source classes spaces colls locals made)) q.1.0 in
    let all_out = list_all (is_dependence locals (is_destination classes spaces colls locals made)) q.1.1 in
    subst (λ z. IsTrue (is_flow classes spaces colls types locals z)) q.4
    (and_from (typed && few && all_in) all_out
    (and_from (typed && few) all_in
    (and_from typed few (datatype_allowed job.given flow.kind (type_of_flow flow) q.0 q.2)
    (le-leb (length q.1.0 + length q.1.1) 16 (omega (arith, count, short))))
    (dependences_pass job classes spaces colls parts seen flow made q.2 refl In flow.deps q.1.0 within.deps (first_nil ins outs none) two.0))
    (dependences_pass job classes spaces colls parts seen flow made q.2 refl Out flow.deps q.1.1 within.deps (rest_nil ins outs none) two.1))
