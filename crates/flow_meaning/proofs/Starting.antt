-- The sizes of what a task starts on: its flows, its locals and its datatypes.
use Rattle.std.proofs.Common.{◌≡◌, ℕ, suc, ◌<◌, ◌≤◌, true, List, [], ◌∷◌, length, refl, ap, sym, ◌∙◌, subst, Option, Some, None, slice_get, IsSomeAnd, arith}
use Rattle.std.proofs.lemmas.Bool.{and_parts, eqb-true, ltb-true}
use Rattle.std.proofs.lemmas.Option.{slice_get-get_or}
use Rattle.std.specs.Option.{option_map_or}
use Rattle.std.specs.Prelude.{IfSome, MatchOption, get_or}
use denote.Ref.{Bor}
use Rattle.ptg_base.specs.Lists.{IsIn}
use Rattle.ptg_base.specs.Task.{Task}
use Rattle.term_core.specs.declared.flow.FlowKind.{FlowKind}
use Rattle.term_core.specs.declared.flow.FlowKind.TheVariants.{Read, Write, Rw, Ctl}
use Rattle.term_core.specs.declared.space.ClassSpace.{ClassSpace}
use Rattle.range_space.specs.Locals.{IsLocalsOf}
use Rattle.range_space.specs.Tasks.{all_locals, params_of, tasks}
use Rattle.range_space.proofs.CallerLemmas.{length-locals, locals_from_full, one_locals}
use Rattle.list_lemmas.proofs.Members.{from_map}
use Rattle.list_lemmas.proofs.Places.{passes_at}
use Rattle.plan_core.specs.declared.flow.FlowPlan.{FlowPlan}
use Rattle.plan_core.specs.declared.plan.Plan.{Plan}
use Rattle.plan_core.specs.Flows.{is_datatype, is_flow}
use Rattle.coll_data.specs.Data.{Data}
use Rattle.dep_iter.specs.Tasks.{IsTask, flows_of, locals_of, locals_with}
use Rattle.dep_iter.proofs.CallerLemmas.{locals_with-only}
use Rattle.flow_meaning.specs.Starting.{Delivery, starting_tiles, tiles_from}
use Rattle.flow_meaning.proofs.SourceEdges.{class_of, flows_are}

-- there is an entry for each flow
pub length-tiles_from : (P : Plan) (G : Data) (d : Delivery) (t : Task) (n : ℕ) (fs : List FlowPlan) → length (tiles_from P G d t n fs) ≡ length fs
length-tiles_from P G d t n [] = refl
length-tiles_from P G d t n (f ∷ fs) = ap suc (length-tiles_from P G d t (suc n) fs)

pub length-starting_tiles : (P : Plan) (G : Data) (d : Delivery) (t : Task) → length (starting_tiles P G d t) ≡ length (flows_of P t)
unfolding starting_tiles
length-starting_tiles P G d t = length-tiles_from P G d t 0 (flows_of P t)

-- a task has a local for each definition of its class
pub length-locals_of : (P : Plan) (t : Task) (job : IsTask P t) → length (locals_of P t) ≡ length (class_of P t job).space.defs
length-locals_of P t job =
    let h = class_of P t job in
    let among : IsIn t.params (tasks h.space) = subst (λ o. IsSomeAnd o (λ (s : ClassSpace). IsIn t.params (tasks s))) h.space_is job in
    let m = from_map (params_of h.space.params) (all_locals h.space) t.params among in
    let are : IsLocalsOf h.space t.params m.0 = record { full = m.1; same_params = sym m.2 } in
    let well = (P.well_made.fit t.class h.class h.space h.class_is h.space_is).space in
    let only = locals_with-only h.space t.params m.0 are (λ others u. one_locals h.space well t.params m.0 others are u) in
    let q = locals_from_full h.space.defs [] m.0 m.1 in
    ap length (ap (λ o. option_map_or (λ (s : ClassSpace). locals_with s t.params) o []) h.space_is ∙ only ∙ q.1) ∙ length-locals h.space.defs [] q.0 q.2

pub known_type : (types : ℕ) (k : FlowKind) (n : ℕ) → 1 ≤ types → is_datatype types k n ≡ true → n < types
known_type types Read n some h = ltb-true n types h
known_type types Write n some h = ltb-true n types h
known_type types Rw n some h = ltb-true n types h
known_type types Ctl n some h = omega (arith, eqb-true n 0 h)

-- a flow of a task passes the tests of the flows of its class
pub flow_well : (P : Plan) (t : Task) (job : IsTask P t) (n : ℕ) (f : FlowPlan) → slice_get (flows_of P t) n ≡ Some f
    → is_flow P.classes P.spaces P.colls (length P.elems) (length (class_of P t job).space.defs) f ≡ true
flow_well P t job n f here =
    let h = class_of P t job in
    let w = P.well_made.fit t.class h.class h.space h.class_is h.space_is in
    passes_at (is_flow P.classes P.spaces P.colls (length P.elems) (length h.space.defs)) h.class.flows n f w.flows
    (subst (λ fs. slice_get fs n ≡ Some f) (flows_are P t h.class h.class_is) here)

-- the type of a flow is one of the plan's
pub known_datatype : (P : Plan) (t : Task) (n : ℕ) (f : FlowPlan) → IsTask P t → slice_get (flows_of P t) n ≡ Some f → f.datatype < length P.elems
known_datatype P t n f job here = known_type (length P.elems) f.kind f.datatype P.well_made.has_default
    (and_parts _ _ (and_parts _ _ (and_parts _ _ (flow_well P t job n f here)).0).0).0

pub found_known : (P : Plan) (t : Task) (n : ℕ) (fs : List FlowPlan) (none_is : Type 0)
    (some_is : Bor FlowPlan → Type 0) (o : Option (Bor FlowPlan)) → IsTask P t → fs ≡ flows_of P t
    → MatchOption o none_is (λ f. (n < length fs) × some_is f) → IfSome o (λ f. f.now ≡ get_or fs n f.now) → IfSome o (λ f. f.now.datatype < length P.elems)
found_known P t n fs none_is some_is None job are within is = tt
found_known P t n fs none_is some_is (Some f) job are within is = known_datatype P t n f.now job
    (subst (λ l. slice_get l n ≡ Some f.now) are (slice_get-get_or fs n f.now within.0 ∙ ap (λ x. Some x) (sym is)))
