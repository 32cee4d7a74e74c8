-- The locals of the tasks of a class whose definitions are its parameters.
use Rattle.std.proofs.Common.{◌≡◌, ℕ, suc, ℤ, pos, List, [], ◌∷◌, ◌++◌, length, slice_index_or, true, refl, ap, sym}
use Rattle.std.proofs.Common.{◌∙◌, append_assoc, length-append, Some, slice_get, arith}
use Rattle.std.proofs.lemmas.Bool.{eqb-true}
use Rattle.std.specs.Cmp.{first_so, second_so}
use Rattle.ptg_base.specs.Lists.{IsIn}
use Rattle.ptg_base.specs.Task.{Task}
use Rattle.term_core.specs.declared.space.ClassSpace.{ClassSpace}
use Rattle.range_space.specs.Locals.{IsLocalsOf}
use Rattle.range_space.specs.Tasks.{all_locals, params_of, tasks}
use Rattle.range_space.proofs.CallerLemmas.{length-locals, locals_from_full}
use Rattle.list_lemmas.proofs.Members.{from_map}
use Rattle.plan_core.specs.declared.plan.Plan.{Plan}
use Rattle.dep_iter.specs.Tasks.{IsTask, counts_from, locals_of, locals_with, params_are_locals}
use Rattle.dep_iter.proofs.Fitting.{locals_with-only}

after : (front : List ℤ) (v : ℤ) (rest : List ℤ) → slice_index_or (front ++ v ∷ rest) (length front) (pos 0) ≡ v
after [] v rest = refl
after (u ∷ front) v rest = after front v rest

-- parameters that count up take all locals after the first ones
counted : (ps : List ℕ) (front rest : List ℤ) → counts_from (length front) ps ≡ true → length ps ≡ length rest
    → params_of ps (front ++ rest) ≡ rest
counted [] front [] h e = refl
counted [] front (v ∷ rest) h e = absurd (omega arith)
counted (p ∷ ps) front [] h e = absurd (omega arith)
counted (p ∷ ps) front (v ∷ rest) h e =
    let here : p ≡ length front = eqb-true p (length front) (first_so _ _ h) in
    let next : length (front ++ v ∷ []) ≡ suc (length front) = omega (arith, length-append front (v ∷ [])) in
    let more = counted ps (front ++ v ∷ []) rest (rw next (second_so _ _ h)) (omega arith) in
    let same : params_of ps (front ++ v ∷ rest) ≡ rest = rw append_assoc at more in
    ap (λ l. l ∷ params_of ps (front ++ v ∷ rest)) (rw here (after front v rest)) ∙ ap (λ l. v ∷ l) same

-- locals of such a class are the parameters
only_params : (s : ClassSpace) (params locals : List ℤ) → params_are_locals s ≡ true → IsLocalsOf s params locals
    → locals ≡ params
only_params s params locals h w =
    let p = locals_from_full s.defs [] locals w.full in
    let l = ap length p.1 in
    let m = length-locals s.defs [] p.0 p.2 in
    let n = eqb-true (length s.params) (length s.defs) (first_so _ _ h) in
    sym (counted s.params [] locals (second_so _ _ h) (omega arith)) ∙ w.same_params

own_locals_with : (s : ClassSpace) (params : List ℤ) → params_are_locals s ≡ true → IsIn params (tasks s)
    → locals_with s params ≡ params
own_locals_with s params h t =
    let m = from_map (params_of s.params) (all_locals s) params t in
    let w : IsLocalsOf s params m.0 = record { full = m.1; same_params = sym m.2 } in
    let e = only_params s params m.0 h w in
    locals_with-only s params m.0 w (λ others u. e ∙ sym (only_params s params others h u)) ∙ e

-- the locals of a task of such a class are its parameters
pub own_locals : (P : Plan) (t : Task) (s : ClassSpace) → slice_get P.spaces t.class ≡ Some s
    → params_are_locals s ≡ true → IsTask P t → locals_of P t ≡ t.params
own_locals P t s e h w =
    let k = rw e at w in
    rw e (own_locals_with s t.params h k)
