-- What the first fault of a plan names.
use Rattle.std.proofs.Common.{◌≡◌, ℕ, suc, ◌+◌, ◌<◌, ℤ, List, [], ◌∷◌, ◌++◌, length, length-append, refl, ap, sym, ◌∙◌}
use Rattle.std.proofs.Common.{subst, Option, Some, slice_get, inl, inr, Result, Ok, Err, arith}
use Rattle.std.proofs.lemmas.Option.{slice_get_within}
use Rattle.std.specs.Option.{option_map_or}
use Rattle.ptg_base.specs.Lists.{IsIn}
use Rattle.term_core.specs.declared.space.Def.{Def}
use Rattle.term_core.specs.declared.space.ClassSpace.{ClassSpace}
use Rattle.range_space.specs.declared.fault.SpanFault.{SpanFault}
use Rattle.range_space.specs.declared.fault.SpaceFault.{SpaceFault}
use Rattle.range_space.specs.declared.fault.SpaceFault.TheVariants.{BadExpr, TooManyTasks}
use Rattle.range_space.specs.Tasks.{def_values}
use Rattle.range_space.specs.Walk as walk
use Rattle.range_space.specs.Walk.{Visit, Prefix, NoValue, StopsAt, visits, walk_all}
use Rattle.list_lemmas.proofs.Members.{from_append, from_flat_map, IsIn-append_right}
use Rattle.list_lemmas.proofs.Options.{from_is_some_and}
use Rattle.plan_core.specs.declared.class.ClassPlan.{ClassPlan}
use Rattle.plan_core.specs.declared.plan.Plan.{Plan}
use Rattle.dep_iter.specs.Tasks.{IsTask, task}
use Rattle.edge_match.specs.declared.fault.MatchFault.{MatchFault}
use Rattle.edge_match.specs.Faults.{space_fault}
use Rattle.edge_match.specs.FirstFault.{IsFirstFault, IsTaskFault}
use Rattle.edge_laws.proofs.Named.{names_task}

-- a visit of this class; if a definition has no value, with fewer than n values before it
abbrev pub IsVisitOf : ℕ → ℕ → Visit → Type 0
IsVisitOf class n (Prefix c) = c ≡ class
IsVisitOf class n (walk.Task c) = c ≡ class
IsVisitOf class n (NoValue c vs) = (c ≡ class) × (length vs < n)

module _ (class n : ℕ) where
  visit_under : (ds : List Def) (outer : List ℤ) → ((b : List ℤ) → length b ≡ suc (length outer) → (v : Visit)
      → IsIn v (walk.walk class ds b) → IsVisitOf class n v) → length outer < n
      → (r : Result (List ℤ) SpanFault) (v : Visit) → IsIn v
      (visits (λ z. Prefix class ∷ walk.walk class ds (outer ++ z ∷ [])) (NoValue class outer) r)
      → IsVisitOf class n v
  visit_under ds outer nested h (Ok vs) v w =
      let p = from_flat_map (λ z. Prefix class ∷ walk.walk class ds (outer ++ z ∷ [])) vs v w in
      elim p.2 [
        | inl e ↦ subst (IsVisitOf class n) (sym e) refl
        | inr k ↦ nested (outer ++ p.0 ∷ []) (let l = length-append outer (p.0 ∷ []) in omega arith) v k
      ]
  visit_under ds outer nested h (Err e) v w = elim w [ inl k ↦ subst (IsVisitOf class n) (sym k) (refl, h) | inr none ↦ absurd none ]

  visit_of : (ds : List Def) (outer : List ℤ) → length outer + length ds ≡ n → (v : Visit) → IsIn v (walk.walk class ds outer) → IsVisitOf class n v
  visit_of [] outer e v w = elim w [ inl k ↦ subst (IsVisitOf class n) (sym k) refl | inr none ↦ absurd none ]
  visit_of (d ∷ ds) outer e v w = visit_under ds outer (λ b l. visit_of ds b (omega arith)) (omega arith) (def_values d outer) v w

-- a visit is of one of the classes
pub record OfClass (class : ℕ) (ss : List ClassSpace) (v : Visit) : Type 0 where
  pub number : ℕ
  pub space : ClassSpace
  pub here : slice_get ss number ≡ Some space
  pub fact : IsVisitOf (class + number) (length space.defs) v

of_class : (class : ℕ) (ss : List ClassSpace) (v : Visit) → IsIn v (walk_all class ss) → OfClass class ss v
of_class class [] v w = absurd w
of_class class (s ∷ ss) v w = elim (from_append v (walk.walk class s.defs []) (walk_all (suc class) ss) w) [
  | inl k ↦ let e : class ≡ class + 0 = omega arith in record {
    number = 0;
    space = s;
    here = refl;
    fact = subst (λ m. IsVisitOf m (length s.defs) v) e
        (visit_of class (length s.defs) s.defs [] (omega arith) v k);
  }
  | inr k ↦
      let p = of_class (suc class) ss v k in
      let e : suc class + p.number ≡ class + suc p.number = omega arith in
      record { number = suc p.number; space = p.space; here = p.here; fact = subst (λ m. IsVisitOf m (length p.space.defs) v) e p.fact }
]

stopped_class : (class n t p : ℕ) (v : Visit) (f : SpaceFault) → IsVisitOf class n v → StopsAt t p v f → (space_fault f).class ≡ class
stopped_class class n t p (Prefix c) f h s = ap (λ (z : SpaceFault). (space_fault z).class) s.1 ∙ h
stopped_class class n t p (walk.Task c) f h s = ap (λ (z : SpaceFault). (space_fault z).class) s.1 ∙ h
stopped_class class n t p (NoValue c vs) f h s = ap (λ (z : SpaceFault). (space_fault z).class) s ∙ h.0

stopped_values : (class n t p : ℕ) (v : Visit) (k : ℕ) (vs : List ℤ) → IsVisitOf class n v → StopsAt t p v (BadExpr k vs) → length vs < n
stopped_values class n t p (Prefix c) k vs h s = let e = s.1 in cc
stopped_values class n t p (walk.Task c) k vs h s = let e = s.1 in cc
stopped_values class n t p (NoValue c ws) k vs h s = let e : ws ≡ vs = cc in subst (λ (l : List ℤ). length l < n) e h.1

visit_at : (ss : List ClassSpace) (f : SpaceFault) (w : walk.IsFirstFault 0 0 (walk_all 0 ss) f) → OfClass 0 ss w.visit
visit_at ss f w = of_class 0 ss w.visit (subst (IsIn w.visit) (sym w.split) (IsIn-append_right w.visit w.before (w.visit ∷ w.rest) (inl refl)))

pub outer_fewer : (ss : List ClassSpace) (k : ℕ) (vs : List ℤ) (s : ClassSpace)
    → walk.IsFirstFault 0 0 (walk_all 0 ss) (BadExpr k vs) → slice_get ss k ≡ Some s → length vs < length s.defs
outer_fewer ss k vs s w h =
    let p = visit_at ss (BadExpr k vs) w in
    let e : k ≡ p.number = let c = stopped_class (0 + p.number) (length p.space.defs) _ _ w.visit (BadExpr k vs) p.fact w.stops in omega arith in
    let same : p.space ≡ s = let a = p.here in let b = subst (λ m. slice_get ss m ≡ Some s) e h in cc in
    subst (λ (z : ClassSpace). length vs < length z.defs) same (stopped_values (0 + p.number) (length p.space.defs) _ _ w.visit k vs p.fact w.stops)

pub class_exists : (P : Plan) (f : MatchFault) → IsFirstFault P f → f.class < length P.classes
class_exists P f (inl a) =
    let p = visit_at P.spaces a.0 a.1 in
    let c = stopped_class (0 + p.number) (length p.space.defs) _ _ a.1.visit a.0 p.fact a.1.stops in
    let e : f.class ≡ (space_fault a.0).class = ap (λ (z : MatchFault). z.class) a.2 in
    let b = slice_get_within P.spaces p.number p.space p.here in
    let n = P.well_made.one_space_each in
    omega arith
class_exists P f (inr w) =
    let s = from_is_some_and (slice_get P.spaces f.class) _ (names_task P f w).0 in
    let b = slice_get_within P.spaces f.class s.0 s.1 in
    let n = P.well_made.one_space_each in
    omega arith

no_flow : (f : SpaceFault) (n : ℕ) → (space_fault f).flow ≡ Some n → ⊥
no_flow (BadExpr c vs) n h = cc
no_flow (TooManyTasks c) n h = cc

pub flow_exists : (P : Plan) (f : MatchFault) (c : ClassPlan) (n : ℕ) → IsFirstFault P f
    → slice_get P.classes f.class ≡ Some c → f.flow ≡ Some n → n < length c.flows
flow_exists P f c n (inl a) h e = absurd (no_flow a.0 n (sym (ap (λ (z : MatchFault). z.flow) a.2) ∙ e))
flow_exists P f c n (inr w) h e =
    subst (λ (o : Option ClassPlan). n < length (option_map_or (λ (z : ClassPlan). z.flows) o [])) h ((names_task P f w).1 n e)

pub task_exists : (P : Plan) (f : MatchFault) → IsTaskFault P f → IsTask P (task f.class f.numbers)
task_exists P f w = (names_task P f w).0
