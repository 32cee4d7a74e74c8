-- What has values on small locals, part by part.
use Rattle.std.proofs.Common.{◌≡◌, ℕ, suc, ℤ, List, [], ◌∷◌, Bool, true, false, ◌&&◌, refl, ap, sym, ◌∙◌, subst, Option, Some, None, Result, Ok, Err, slice_get}
use Rattle.std.specs.Prelude.{IsTrue, IsOkAnd, is_ok, is_some}
use Rattle.std.specs.Bool.{OnTrue}
use Rattle.std.specs.Cmp.{first_so, second_so}
use Rattle.std.specs.List.{list_all}
use Rattle.std.specs.Option.{option_map}
use Rattle.std.proofs.lemmas.Bool.{and_from, false≢true, OnTrue_from}
use Rattle.list_lemmas.proofs.Truth.{on_true_weaker}
use Rattle.ptg_base.specs.Returns.{and_then}
use Rattle.term_core.specs.Arith.{holds}
use Rattle.term_core.specs.Term.{Term}
use Rattle.term_core.specs.Kinds.{is_data}
use Rattle.term_core.specs.Value.{map_fault, value}
use Rattle.term_core.specs.ValueBounds.{HasBound, IsBoundOf, IsWithin}
use Rattle.term_core.specs.declared.fault.ExprFault.{ExprFault}
use Rattle.term_core.specs.declared.space.Range.{Range}
use Rattle.term_core.specs.declared.value_bound.ValueBound.{ValueBound}
use Rattle.term_core.proofs.CallerLemmas.{is_nonzero}
use Rattle.range_space.specs.Fault.{Bounds, nonzero, number, range_values, step_number}
use Rattle.range_space.specs.Values.{values}
use Rattle.range_space.specs.declared.fault.SpanFault.{SpanFault}
use Rattle.range_space.specs.declared.fault.SpanFault.TheVariants.{Expr}
use Rattle.plan_core.specs.declared.class.ClassPlan.{ClassPlan}
use Rattle.plan_core.specs.declared.flow.DepPlan.{DepPlan}
use Rattle.plan_core.specs.declared.flow.FlowPlan.{FlowPlan}
use Rattle.plan_core.specs.declared.plan.Plan.{Plan}
use Rattle.plan_core.specs.declared.target.Arg.TheVariants.{One}
use Rattle.plan_core.specs.declared.target.Target.{Target}
use Rattle.dep_iter.specs.Active.{active_target, guard_value, target_by}
use Rattle.dep_iter.specs.Tasks.{locals_of}
use Rattle.dep_iter.specs.Well.{are_well, first_ill_flow, has_arg, has_arguments, has_hints, has_priority, has_value, ill_part, is_well_flow, is_well_then}
use Rattle.edge_match.specs.Harmless.{AreHarmlessDeps, IsHarmless, IsHarmlessClass, IsHarmlessDep, OnSmall, has_arguments_if_any}

-- expressions
has_some : (P : ℤ → Type 0) (r : Result ℤ ExprFault) → IsOkAnd r P → IsTrue (is_ok r)
has_some P (Ok z) h = refl
has_some P (Err e) h = absurd h

pub by_bound : (e : Term) (found : Option ValueBound) → IsBoundOf e found → OnTrue (is_some found) (OnSmall (λ env. has_value env e))
by_bound e None h = tt
by_bound e (Some b) h = λ env small. has_some (IsWithin b) (value e env) (h.within env small)

-- both of two tests, and each of a list
pub both_pass : (p q : List ℤ → Bool) (b : Bool) → OnSmall p → OnTrue b (OnSmall q) → OnTrue b (OnSmall (λ env. p env && q env))
both_pass p q b h k = on_true_weaker b (λ (i : OnSmall q). λ env small. and_from (p env) (q env) (h env small) (i env small)) k

-- ranges
number_ok : (r : Result ℤ ExprFault) → IsTrue (is_ok r) → IsTrue (is_ok (map_fault Expr r))
number_ok (Ok z) h = refl
number_ok (Err e) h = absurd (false≢true h)

step_ok : (r : Result ℤ ExprFault) (b : ValueBound) → IsTrue b.nonzero → IsOkAnd r (IsWithin b) → IsTrue (is_ok (and_then (map_fault Expr r) nonzero))
step_ok (Ok z) b n h = rw (is_nonzero z (h.nonzero n)) refl
step_ok (Err e) b n h = absurd h

pub step_by_bound : (e : Term) (b : ValueBound) → HasBound e b → OnTrue b.nonzero (OnSmall (λ env. is_ok (step_number (Some e) env)))
step_by_bound e b h = OnTrue_from b.nonzero _ (λ n. λ env small. step_ok (value e env) b n (h.within env small))

abbrev bounds_of : ℤ → ℤ → ℤ → Bounds
bounds_of lo hi step = record { lo = lo; hi = hi; step = step }

range_ok : (x y z : Result ℤ SpanFault) → IsTrue (is_ok x) → IsTrue (is_ok y) → IsTrue (is_ok z)
    → IsTrue (is_ok (and_then (and_then x (λ lo. and_then y (λ hi. and_then z (λ step. Ok (bounds_of lo hi step)))))
    (λ (b : Bounds). Ok (values b.lo b.hi b.step))))
range_ok (Ok a) (Ok b) (Ok c) p q r = refl
range_ok (Ok a) (Ok b) (Err e) p q r = absurd (false≢true r)
range_ok (Ok a) (Err e) z p q r = absurd (false≢true q)
range_ok (Err e) y z p q r = absurd (false≢true p)

pub range_by_parts : (r : Range) (b : Bool) → OnSmall (λ env. has_value env r.lo) → OnSmall (λ env. has_value env r.hi)
    → OnTrue b (OnSmall (λ env. is_ok (step_number r.step env))) → OnTrue b (OnSmall (λ env. is_ok (range_values r env)))
range_by_parts r b lo hi step =
    on_true_weaker b (λ (s : OnSmall (λ env. is_ok (step_number r.step env))). λ env small.
    range_ok (number r.lo env) (number r.hi env) (step_number r.step env)
    (number_ok (value r.lo env) (lo env small)) (number_ok (value r.hi env) (hi env small)) (s env small)) step

-- arguments
one_ok : (r : Result ℤ ExprFault) → IsTrue (is_ok r) → IsTrue (is_ok (and_then (map_fault Expr r) (λ z. Ok (z ∷ []))))
one_ok (Ok z) h = refl
one_ok (Err e) h = absurd (false≢true h)

pub one_by_value : (e : Term) (b : Bool) → OnTrue b (OnSmall (λ env. has_value env e)) → OnTrue b (OnSmall (λ env. has_arg env (One e)))
one_by_value e b h = on_true_weaker b (λ (k : OnSmall (λ env. has_value env e)). λ env small. one_ok (value e env) (k env small)) h

-- dependences
holds_ok : (g : Result ℤ ExprFault) (f : ℤ → Bool) → IsTrue (is_ok g) → IsTrue (is_ok (and_then g (λ v. Ok (f v))))
holds_ok (Ok z) f h = refl
holds_ok (Err e) f h = absurd (false≢true h)

guard_ok : (g : Option Term) (env : List ℤ) → IsTrue (has_priority env g) → IsTrue (is_ok (guard_value g env))
guard_ok None env h = refl
guard_ok (Some e) env h = holds_ok (value e env) holds h

target_ok : (first_only : Bool) (env : List ℤ) (x : Option Target) → IsTrue (has_arguments_if_any env x) → IsTrue (is_well_then first_only env (Ok x) true)
target_ok first_only env None h = refl
target_ok true env (Some x) h = h
target_ok false env (Some x) h = and_from (has_arguments env x) true h refl

held_ok : (first_only : Bool) (env : List ℤ) (d : DepPlan) (r : Result Bool ExprFault) → IsTrue (is_ok r) → IsTrue (has_arguments env d.yes)
    → IsTrue (has_arguments_if_any env d.no) → IsTrue (is_well_then first_only env (and_then r (λ b. Ok (target_by d b))) true)
held_ok first_only env d (Ok true) h p q = target_ok first_only env (Some d.yes) p
held_ok first_only env d (Ok false) h p q = target_ok first_only env d.no q
held_ok first_only env d (Err e) h p q = absurd (false≢true h)

pub dependence_by_parts : (d : DepPlan) (b : Bool) → OnSmall (λ env. has_priority env d.guard) → OnSmall (λ env. has_arguments env d.yes)
    → OnTrue b (OnSmall (λ env. has_arguments_if_any env d.no)) → OnTrue b (IsHarmlessDep d)
dependence_by_parts d b guard p q =
    on_true_weaker b (λ (n : OnSmall (λ env. has_arguments_if_any env d.no)). λ first_only env small.
    held_ok first_only env d (guard_value d.guard env) (guard_ok d.guard env (guard env small)) (p env small) (n env small)) q

later_ok : (first_only : Bool) (env : List ℤ) (r : Result (Option Target) ExprFault) (later : Bool) → IsTrue later
    → IsTrue (is_well_then first_only env r true) → IsTrue (is_well_then first_only env r later)
later_ok first_only env r later h k = subst (λ b. IsTrue (is_well_then first_only env r b)) (sym h) k

pub next_dependence : (d : DepPlan) (ds : List DepPlan) (b : Bool) → IsHarmlessDep d → OnTrue b (AreHarmlessDeps ds) → OnTrue b (AreHarmlessDeps (d ∷ ds))
next_dependence d ds b h k =
    on_true_weaker b (λ (i : AreHarmlessDeps ds). λ first_only env small.
    later_ok first_only env (active_target d env) (are_well first_only env ds) (i first_only env small) (h first_only env small)) k

pub flow_by_parts : (f : FlowPlan) (b : Bool) → AreHarmlessDeps f.ins → OnTrue b (AreHarmlessDeps f.outs) → OnTrue b (OnSmall (λ env. is_well_flow env f))
flow_by_parts f b ins outs =
    on_true_weaker b (λ (o : AreHarmlessDeps f.outs). λ env small.
    and_from (are_well (is_data f.kind) env f.ins) (are_well false env f.outs) (ins (is_data f.kind) env small) (o false env small)) outs

-- classes
no_ill_flow : (env : List ℤ) (n : ℕ) (fs : List FlowPlan) → IsTrue (list_all (is_well_flow env) fs) → first_ill_flow env n fs ≡ None
no_ill_flow env n [] h = refl
no_ill_flow env n (f ∷ fs) h =
    let well : is_well_flow env f ≡ true = first_so (is_well_flow env f) (list_all (is_well_flow env) fs) h in
    rw well (no_ill_flow env (suc n) fs (second_so (is_well_flow env f) (list_all (is_well_flow env) fs) h))

pub class_by_parts : (c : ClassPlan) (b : Bool) → OnSmall (λ env. has_hints env c)
    → OnTrue b (OnSmall (λ env. list_all (is_well_flow env) c.flows)) → OnTrue b (IsHarmlessClass c)
class_by_parts c b hints flows =
    on_true_weaker b (λ (f : OnSmall (λ env. list_all (is_well_flow env) c.flows)). λ env small.
    let well : has_hints env c ≡ true = hints env small in
    rw well (ap (option_map Some) (no_ill_flow env 0 c.flows (f env small)))) flows

pub class_known : (P : Plan) (n : ℕ) (c : ClassPlan) → slice_get P.classes n ≡ Some c → IsHarmlessClass c → IsHarmless P n
unfolding ill_part
class_known P n c here h t same small =
    let this : slice_get P.classes t.class ≡ Some c = ap (slice_get P.classes) same ∙ here in
    rw this (h (locals_of P t) small)
