-- If a JDF and its data resolve to a plan, the parts of that plan are well made.
use Rattle.std.proofs.Common.{◌≡◌, ℕ, zero, suc, ◌≤◌, false, ◌&&◌, ◌==◌, List, [], ◌∷◌, length, map, Some, option_map, option_and_then, slice_get}
use Rattle.std.proofs.Common.{IsTrue, nat_le, nat_lt, refl, sym, ◌∙◌, ap, subst, arith}
use Rattle.std.specs.List.{list_all, AllByRecursion}
use Rattle.std.specs.Option.{option_map_or}
use Rattle.std.proofs.lemmas.Bool.{lt-ltb, le-leb, eq-eqb, and_from}
use Rattle.std.proofs.lemmas.List.{length-map}
use Rattle.std.proofs.lemmas.Option.{slice_get-map, same_Some, slice_get_within}
use Rattle.std.specs.Str.{bytes_eq}
use Rattle.ptg_base.specs.Lists.{are_distinct}
use Rattle.term_core.specs.declared.space.ClassSpace.{ClassSpace}
use Rattle.jdf_tree.specs.TreeLimits.{IsClassWithinLimits, IsWithinLimits}
use Rattle.coll_data.specs.declared.coll.Coll.{Coll}
use Rattle.coll_data.specs.WellMade.{elements_by_type, IsWellColl}
use Rattle.coll_data.specs.WellMade as well_data
use Rattle.plan_core.specs.declared.class.ClassPlan.{ClassPlan}
use Rattle.plan_core.specs.WellMade.{IsWellClass, tile_count, is_shape, IsWellMade}
use Rattle.plan_data.specs.Fit.{shape_of}
use Rattle.type_rules.specs.TreesAndFaults.{ClassTree, Word, NameTwice}
use Rattle.type_rules.specs.Names.{Job}
use Rattle.type_rules.specs.Repeats.{repeats}
use Rattle.list_lemmas.proofs.Joins.{first_nil, rest_nil}
use Rattle.list_lemmas.proofs.Places.{slice_get_there, each_at}
use Rattle.type_rules.proofs.CallerLemmas.{distinct_names, parts_of}
use Rattle.type_check.proofs.Parts.{part_at}
use Rattle.type_rules.specs.Dependences.{flow_plan}
use Rattle.type_rules.specs.PartsOfJob.{HaveParts}
use Rattle.type_check.proofs.FlowParts.{flow_is}
use Rattle.type_check.specs.Laws.{ResolvedIsWellMade}
use Rattle.type_check.specs.Bodies.{BodyResult, ReadsBody}
use Rattle.type_check.specs.Classes.{class_plan, class_faults}
use Rattle.type_check.specs.Check.{ReadBodies, classes_faults, classes_plan, names_faults, AreResolved}
use Rattle.type_check.proofs.ClassesRead.{Plans, plan_first}
use Rattle.type_check.proofs.WellClasses.{IsClassOf, class_of, params_count, well_class}

-- ---- one of the classes

record IsClassAt (job : Job) (class : ClassTree) (plans : Plans) (n : ℕ) : Type 0 where
  body : BodyResult
  plan : ClassPlan
  space : ClassSpace
  plan_at : slice_get plans.0 n ≡ Some plan
  space_at : slice_get plans.1 n ≡ Some space
  read : ReadsBody job class body
  none : class_faults job class body ≡ []
  is : IsClassOf job class body plan space

-- with one more class before it
one_later : (job : Job) (class : ClassTree) (x : ClassPlan × ClassSpace) (xs : Plans) (n : ℕ)
    → IsClassAt job class xs n → IsClassAt job class (plan_first x xs) (suc n)
one_later job class x xs n a = record {
  body = a.body;
  plan = a.plan;
  space = a.space;
  plan_at =
      a.plan_at;
  space_at = a.space_at;
  read = a.read;
  none = a.none;
  is = a.is;
}

class_at : (job : Job) (cs : List ClassTree) (bs : List BodyResult) (ps : Plans) (n : ℕ) (class : ClassTree)
    → ReadBodies job cs bs → classes_faults job cs bs ≡ [] → classes_plan job cs bs ≡ Some ps
    → slice_get cs n ≡ Some class
    → IsClassAt job class ps n
class_at job [] bs ps n class r h e at = absurd cc
class_at job (c ∷ cs) [] ps n class r h e at = absurd r
class_at job (c ∷ cs) (b ∷ bs) ps zero class r h e at =
    let q = parts_of plan_first (class_plan job c b) (classes_plan job cs bs) ps e in
    let one : IsClassAt job c (plan_first q.0 q.1) zero =
    record {
      body = b;
      plan = q.0.0;
      space = q.0.1;
      plan_at = refl;
      space_at = refl;
      read = r.0;
      none =
          first_nil (class_faults job c b) (classes_faults job cs bs) h;
      is = class_of job c b q.0 q.2;
    } in
    subst (λ d. IsClassAt job d ps zero) (same_Some c class at) (subst (λ z. IsClassAt job c z zero) q.4 one)
class_at job (c ∷ cs) (b ∷ bs) ps (suc n) class r h e at =
    let q = parts_of plan_first (class_plan job c b) (classes_plan job cs bs) ps e in
    subst (λ z. IsClassAt job class z (suc n)) q.4
    (one_later job class q.0 q.1 n (class_at job cs bs q.1 n class r.1
    (rest_nil (class_faults job c b) (classes_faults job cs bs) h) q.3 at))

-- ---- all of them

plans_length : (job : Job) (cs : List ClassTree) (bs : List BodyResult) (ps : Plans) → ReadBodies job cs bs
    → classes_plan job cs bs ≡ Some ps → (length ps.0 ≡ length cs) × (length ps.1 ≡ length cs)
plans_length job [] bs ps r e = let same : ([], []) ≡ ps = same_Some ([], []) ps e in
    (ap (λ (z : Plans). length z.0) (sym same), ap (λ (z : Plans). length z.1) (sym same))
plans_length job (c ∷ cs) [] ps r e = absurd r
plans_length job (c ∷ cs) (b ∷ bs) ps r e =
    let q = parts_of plan_first (class_plan job c b) (classes_plan job cs bs) ps e in
    let more = plans_length job cs bs q.1 r.1 q.3 in
    (ap (λ (z : Plans). length z.0) (sym q.4) ∙ ap (λ n. suc n) more.0, ap (λ (z : Plans). length z.1) (sym q.4) ∙ ap (λ n. suc n) more.1)

plans_names : (job : Job) (cs : List ClassTree) (bs : List BodyResult) (ps : Plans) → ReadBodies job cs bs
    → classes_plan job cs bs ≡ Some ps → map (λ (c : ClassPlan). c.name) ps.0
    ≡ map (λ (c : ClassTree). c.name.text) cs
plans_names job [] bs ps r e = ap (λ (z : Plans). map (λ (c : ClassPlan). c.name) z.0) (sym (same_Some ([], []) ps e))
plans_names job (c ∷ cs) [] ps r e = absurd r
plans_names job (c ∷ cs) (b ∷ bs) ps r e =
    let q = parts_of plan_first (class_plan job c b) (classes_plan job cs bs) ps e in
    let first = (class_of job c b q.0 q.2).name in
    let rest = plans_names job cs bs q.1 r.1 q.3 in
    ap (λ (z : Plans). map (λ (c : ClassPlan). c.name) z.0) (sym q.4) ∙ (λ i. first i ∷ rest i)

-- ---- the data

shapes_well : (elements : List ℕ) (cs : List Coll) → AllByRecursion (IsWellColl elements) cs → IsTrue (list_all (is_shape (length elements)) (map shape_of cs))
shapes_well elements [] h = refl
shapes_well elements (c ∷ cs) h =
    let count = tile_count c.shape.0 c.shape.1 in
    let low : 1 ≤ count = h.0.whole.has_tiles in
    let high : count ≤ 65536 = h.0.tiles_at_most in
    and_from (is_shape (length elements) (shape_of c)) (list_all (is_shape (length elements)) (map shape_of cs))
    (and_from (nat_le 1 count && nat_le count 65536) (nat_lt c.datatype (length elements))
    (and_from (nat_le 1 count) (nat_le count 65536) (le-leb 1 count low) (le-leb count 65536 high))
    (lt-ltb c.datatype (length elements) h.0.datatype))
    (shapes_well elements cs h.1)

-- ---- the parts of a job

module _ (job : Job) (classes : List ClassPlan) (spaces : List ClassSpace) (resolved : AreResolved job classes spaces) where
  no_class_fault : classes_faults job job.jdf.classes resolved.bodies ≡ []
  no_class_fault = first_nil (classes_faults job job.jdf.classes resolved.bodies) (names_faults job) resolved.no_fault

  at : (n : ℕ) (class : ClassTree) → slice_get job.jdf.classes n ≡ Some class → IsClassAt job class (classes, spaces) n
  at n class e = class_at job job.jdf.classes resolved.bodies (classes, spaces) n class resolved.read no_class_fault resolved.plans e

  have_parts : HaveParts job classes spaces (map shape_of job.given.colls)
  have_parts =
      record {
        flow = λ n m c f e g.
            let a = at n c e in
            let p = part_at (flow_plan job c.defs) c.flows a.plan.flows m f a.is.flows g in
            (p.0, ap (option_and_then (λ (c : ClassPlan). slice_get c.flows m)) a.plan_at ∙ p.2, flow_is job c.defs f p.0 p.1);
        params = λ n c e.
            let a = at n c e in
            ap (λ o. option_map_or (λ (s : ClassSpace). length s.params == length c.params) o false) a.space_at
            ∙ eq-eqb (length a.space.params) (length c.params) (params_count job c a.space a.is.space);
        coll = λ n c e. (shape_of c, slice_get-map shape_of job.given.colls n ∙ ap (option_map shape_of) e, record { cols = refl; datatype = refl });
      }

  counts : (length classes ≡ length job.jdf.classes) × (length spaces ≡ length job.jdf.classes)
  counts = plans_length job job.jdf.classes resolved.bodies (classes, spaces) resolved.read resolved.plans

  fits : AllByRecursion IsClassWithinLimits job.jdf.classes → (n : ℕ) (c : ClassPlan) (s : ClassSpace)
      → slice_get classes n ≡ Some c → slice_get spaces n ≡ Some s
      → IsWellClass classes spaces (map shape_of job.given.colls) (suc (length job.given.types)) s c
  fits within n c s e f =
      let below = slice_get_within classes n c e in
      let same = counts.0 in
      let tree = slice_get_there job.jdf.classes n (omega (arith, below, same)) in
      let a = at n tree.0 tree.1 in
      let well = well_class job classes spaces (map shape_of job.given.colls) have_parts tree.0 a.body a.plan
      a.space a.is (each_at IsClassWithinLimits job.jdf.classes n tree.0 within tree.1) a.read a.none in
      let plan : a.plan ≡ c = same_Some a.plan c (sym a.plan_at ∙ e) in
      let space : a.space ≡ s = same_Some a.space s (sym a.space_at ∙ f) in
      subst (λ t. IsWellClass classes spaces (map shape_of job.given.colls) (suc (length job.given.types)) t c) space
      (subst (λ d. IsWellClass classes spaces (map shape_of job.given.colls) (suc (length job.given.types)) a.space d) plan well)

  well_parts : IsWithinLimits job.jdf → well_data.IsWellMade job.given → IsWellMade classes spaces (map shape_of job.given.colls) (elements_by_type job.given)
  well_parts within data_well =
      let same = counts.0 in
      let other = counts.1 in
      let few = within.count in
      let types = length-map job.given.types (λ (type : List ℕ × ℕ). type.1) in
      let short = data_well.types_at_most in
      let globals = repeats (λ (w : Word). w) NameTwice job.jdf.globals in
      let names = repeats (λ (c : ClassTree). c.name) NameTwice job.jdf.classes in
      record {
        classes_at_most = omega (arith, same, few);
        one_space_each = other ∙ sym same;
        class_names =
            subst (λ l. IsTrue (are_distinct bytes_eq l)) (sym (plans_names job job.jdf.classes resolved.bodies (classes, spaces) resolved.read resolved.plans))
            (distinct_names (λ (c : ClassTree). c.name) NameTwice job.jdf.classes
            (rest_nil globals names (rest_nil (classes_faults job job.jdf.classes resolved.bodies)
            (names_faults job) resolved.no_fault)));
        fit = λ n c s e f. subst (λ k. IsWellClass classes spaces (map shape_of job.given.colls) (suc k) s c) (sym types) (fits within.classes n c s e f);
        shapes = shapes_well (elements_by_type job.given) job.given.colls data_well.colls;
        has_default = omega arith;
        types_at_most = omega (arith, types, short);
        tile_lengths = data_well.element_counts;
      }

-- what a JDF within its limits resolves to with well made data is well made
pub well_plan : ResolvedIsWellMade
well_plan job classes spaces within data_well h = well_parts job classes spaces h within data_well
