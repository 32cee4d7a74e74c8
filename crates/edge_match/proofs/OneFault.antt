-- A plan has at most one first fault, and a consistent plan has none.
use Rattle.std.proofs.Common.{◌≡◌, List, [], ◌∷◌, ◌++◌, refl, ap, sym, ◌∙◌, subst, ◌⊎◌, inl, inr, arith}
use Rattle.plan_core.specs.declared.plan.Plan.{Plan}
use Rattle.range_space.specs.declared.fault.SpaceFault.{SpaceFault}
use Rattle.range_space.specs.Walk as walk
use Rattle.range_space.specs.Walk.{walk_all}
use Rattle.range_space.proofs.CallerLemmas.{no_fault, one_fault, prefix_count-walk_all, sound_from_all, task_count-walk_all}
use Rattle.dep_iter.specs.Consistent.{IsConsistent}
use Rattle.dep_iter.proofs.CallerLemmas.{length-tasks_from}
use Rattle.edge_match.specs.declared.fault.MatchFault.{MatchFault}
use Rattle.edge_match.specs.declared.fault.MatchRefusal.{MatchRefusal}
use Rattle.edge_match.specs.declared.fault.MatchRefusal.TheVariants as refusal
use Rattle.edge_match.specs.Counted.{IsRefusalOf}
use Rattle.edge_match.specs.Faults.{space_fault}
use Rattle.edge_match.specs.Marks.{AllPass, Before, Mark, add, add_all, marks, nothing}
use Rattle.edge_match.specs.FirstFault.{FailsWith, IsFirstFailure, IsFirstFault}
use Rattle.edge_match.proofs.Consistency.{all_pass}
use Rattle.edge_match.proofs.Parts.{AllPass-parts}

-- no mark fails if all pass
none_fails : (P : Plan) (b : Before) (ms : List Mark) (f : MatchFault) → AllPass P b ms → IsFirstFailure P b ms f → ⊥
none_fails P b ms f h w = w.fails.0 (AllPass-parts P b w.passed (w.failed ∷ w.rest) (subst (AllPass P b) w.split h)).1.0

-- marks split at two marks, each the first that fails: it is the same one
same_failure : (P : Plan) (b : Before) (xs ys : List Mark) (m n : Mark) (ms ns : List Mark) (f g : MatchFault)
    → xs ++ m ∷ ms ≡ ys ++ n ∷ ns → AllPass P b xs → AllPass P b ys → FailsWith P (add_all b xs) m f
    → FailsWith P (add_all b ys) n g → f ≡ g
same_failure P b [] [] m n ms ns f g e h k s r =
    let same : m ≡ n = cc in
    let q = subst (λ (z : Mark). FailsWith P b z f) same s in
    q.1 ∙ sym r.1
same_failure P b [] (y ∷ ys) m n ms ns f g e h k s r =
    let same : m ≡ y = cc in
    absurd ((subst (λ (z : Mark). FailsWith P b z f) same s).0 k.0)
same_failure P b (x ∷ xs) [] m n ms ns f g e h k s r =
    let same : n ≡ x = cc in
    absurd ((subst (λ (z : Mark). FailsWith P b z g) same r).0 h.0)
same_failure P b (x ∷ xs) (y ∷ ys) m n ms ns f g e h k s r =
    let same : y ≡ x = cc in
    let rest : xs ++ m ∷ ms ≡ ys ++ n ∷ ns = cc in
    same_failure P (add b x.check) xs ys m n ms ns f g rest h.1
    (subst (λ (z : Mark). AllPass P (add b z.check) ys) same k.1) s
    (subst (λ (z : Mark). FailsWith P (add_all (add b z.check) ys) n g) same r)

-- a walk that nothing stops has no fault
unstopped_fault : (P : Plan) (f : SpaceFault) → walk.IsUnstopped 0 0 (walk_all 0 P.spaces) → walk.IsFirstFault 0 0 (walk_all 0 P.spaces) f → ⊥
unstopped_fault P f u w =
    let t = u.tasks_at_most in
    let p = u.prefixes_at_most in
    let a = task_count-walk_all 0 P.spaces in
    let b = prefix_count-walk_all 0 P.spaces in
    no_fault P.spaces f (sound_from_all 0 P.spaces u.all_have_values) (omega arith) (omega arith) w

pub one_first : (P : Plan) (f g : MatchFault) → IsFirstFault P f → IsFirstFault P g → f ≡ g
one_first P f g (inl a) (inl b) = a.2 ∙ ap space_fault (one_fault 0 0 (walk_all 0 P.spaces) a.0 b.0 a.1 b.1) ∙ sym b.2
one_first P f g (inl a) (inr w) = absurd (unstopped_fault P a.0 w.unstopped a.1)
one_first P f g (inr w) (inl b) = absurd (unstopped_fault P b.0 w.unstopped b.1)
one_first P f g (inr v) (inr w) =
    same_failure P nothing v.first.passed w.first.passed v.first.failed w.first.failed v.first.rest w.first.rest f g
    (sym v.first.split ∙ w.first.split) v.first.all_pass w.first.all_pass v.first.fails w.first.fails

pub consistent_none : (P : Plan) (f : MatchFault) → IsConsistent P → IsFirstFault P f → ⊥
consistent_none P f w (inl a) =
    let e = length-tasks_from 0 P.spaces in
    let k = w.tasks_at_most in
    no_fault P.spaces a.0 w.sound (omega arith) w.prefixes_at_most a.1
consistent_none P f w (inr v) = none_fails P nothing (marks P) f (all_pass P w) v.first

-- a refusal of a plan with a first fault is that fault, or out of memory
pub fault_or_memory : (P : Plan) (r : MatchRefusal) (f : MatchFault) → IsRefusalOf P r → IsFirstFault P f → (r ≡ refusal.Fault f) ⊎ (r ≡ refusal.OutOfMemory)
fault_or_memory P (refusal.Fault g) f w h = inl (ap refusal.Fault (one_first P g f w h))
fault_or_memory P refusal.OutOfMemory f w h = inr refl
