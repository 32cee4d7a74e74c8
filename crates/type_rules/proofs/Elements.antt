-- A resolved element that breaks no rule exists.
use Rattle.std.proofs.Common.{◌≡◌, ℕ, Bool, true, false, not, ◌==◌, cond, List, [], length, Some, None, slice_get, IsTrue, sym, ◌∙◌, ap}
use Rattle.std.specs.List.{position, list_all}
use Rattle.std.specs.Option.{option_map_or}
use Rattle.std.proofs.lemmas.Bool.{eqb-true, eq-eqb, and_from, not-false}
use Rattle.term_core.specs.Term.{Term}
use Rattle.term_core.specs.Value.{is_closed}
use Rattle.term_core.specs.declared.space.ClassSpace.{ClassSpace}
use Rattle.coll_data.specs.declared.coll.Coll.{Coll}
use Rattle.plan_core.specs.declared.class.ClassPlan.{ClassPlan}
use Rattle.plan_core.specs.declared.shape.Shape.{Shape}
use Rattle.plan_core.specs.Targets.{dimensions, has_dimensions, is_element}
use Rattle.type_rules.specs.TreesAndFaults.{Word, DefTree, ArgTree, Arity}
use Rattle.type_rules.specs.Names.{Job, is_declared, coll_is, coll_named}
use Rattle.type_rules.specs.Arguments.{index_of, indices_faults, indices_of}
use Rattle.type_rules.proofs.Closed.{pair_parts}
use Rattle.type_rules.proofs.ClosedArguments.{closed_indices}
use Rattle.type_rules.proofs.NoFaults.{holds_not}
use Rattle.type_rules.proofs.Parts.{each_length}
use Rattle.type_rules.specs.Elements.{dimensions_of, collection_faults, element_faults, element_of}
use Rattle.type_rules.specs.PartsOfJob.{HaveParts}
use Rattle.list_lemmas.proofs.Places.{position_within, slice_get_there}
use Rattle.list_lemmas.proofs.Joins.{first_nil}

pub coll_there : (job : Job) (name : List ℕ) (n : ℕ) → coll_named job name ≡ Some n → (c : Coll) × (slice_get job.given.colls n ≡ Some c)
coll_there job name n e = go (is_declared job name) e
  where
    go : (b : Bool) → cond b (position (coll_is name) job.given.colls) None ≡ Some n → (c : Coll) × (slice_get job.given.colls n ≡ Some c)
    go true f = slice_get_there job.given.colls n (position_within (coll_is name) job.given.colls n f)
    go false f = absurd cc

pub element_exists : (job : Job) (classes : List ClassPlan) (spaces : List ClassSpace) (colls : List Shape) → HaveParts job classes spaces colls
    → (seen : List DefTree) (w : Word) (args : List ArgTree) (x : ℕ × List Term)
    → element_faults job seen w args ≡ [] → element_of job seen w args ≡ Some x
    → IsTrue (is_element colls (length seen) x.0 x.1)
element_exists job classes spaces colls parts seen w args x h e =
    let p = pair_parts (coll_named job w.text) (indices_of job seen args) x e in
    let c = coll_there job w.text x.0 p.0 in
    let s = parts.coll x.0 c.0 c.1 in
    let arity : collection_faults job w (length args) (Some x.0) ≡ [] =
    ap (collection_faults job w (length args)) (sym p.0)
    ∙ first_nil (collection_faults job w (length args) (coll_named job w.text)) (indices_faults job seen args)
    h in
    let same = holds_not (not (dimensions_of job x.0 == length args)) w.spot Arity arity in
    let known : dimensions_of job x.0 ≡ dimensions c.0.shape.1 = ap (λ o. option_map_or (λ (c : Coll). dimensions c.shape.1) o 0) c.1 in
    let count : dimensions c.0.shape.1 ≡ length args = sym known
    ∙ eqb-true (dimensions_of job x.0) (length args) (not-false (dimensions_of job x.0 == length args) same) in
    let as_many : dimensions s.0.cols ≡ length x.1 = ap dimensions s.2.cols ∙ (count ∙ sym (each_length (index_of job seen) args x.1 p.1)) in
    and_from (has_dimensions colls x.0 (length x.1)) (list_all (is_closed (length seen)) x.1)
    (ap (λ o. option_map_or (λ (s : Shape). dimensions s.cols == length x.1) o false) s.1
    ∙ eq-eqb (dimensions s.0.cols) (length x.1) as_many) (closed_indices job seen args x.1 p.1)
