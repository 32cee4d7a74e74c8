-- No list of locals and no task of a class occurs twice, and parameters determine locals.
use Rattle.std.proofs.Common.{◌≡◌, ℕ, zero, suc, ℤ, pos, negsuc, ◌+ℤ◌, true, List, [], ◌∷◌, ◌++◌, length, refl, ap, sym}
use Rattle.std.proofs.Common.{◌∙◌, zero-add, Some, None, IsSome, Result, Ok, Err, inl, inr, Option, arith}
use Rattle.std.proofs.lemmas.Int.{ints}
use Rattle.ptg_base.specs.Lists.{IsIn, HasNoRepeats}
use Rattle.ptg_base.specs.Returns.{and_then}
use Rattle.term_core.specs.declared.space.Def.{Def}
use Rattle.term_core.specs.declared.space.Def.TheVariants.{Span, Value}
use Rattle.term_core.specs.declared.space.ClassSpace.{ClassSpace}
use Rattle.term_core.specs.WellSpace.{IsWellSpace, is_among, spans_are_params}
use Rattle.range_space.specs.declared.fault.SpanFault.{SpanFault}
use Rattle.range_space.specs.Values.{is_within, while_within, values}
use Rattle.range_space.specs.Fault.{Bounds, bounds, number}
use Rattle.range_space.specs.Tasks.{full_lists, def_values, params_of, tasks, all_locals}
use Rattle.range_space.specs.Locals.{IsLocalsOf}
use Rattle.range_space.specs.Completion.{param_value, AgreesWith, AreLocals, AllAgree}
use Rattle.range_space.proofs.Stepping.{while_in, while_past}
use Rattle.range_space.proofs.Members.{on_way}
use Rattle.range_space.proofs.MemberLists.{locals_from_full, IsSome-param_value, all_agree, agreement_from_params, arity_of_task}
use Rattle.list_lemmas.proofs.Truth.{by_test}
use Rattle.std.specs.Cmp.{first_so, second_so}
use Rattle.std.specs.Result.{result_unwrap_or}
use Rattle.list_lemmas.proofs.Members.{IsIn-map}
use Rattle.list_lemmas.proofs.Distinct.{HasNoRepeats-flat_map, HasNoRepeats-map_members}

-- after a step, a value is not met again
not_back : (step v : ℤ) → is_within v step (v +ℤ step) ≡ true → ⊥
not_back (pos zero) v h = absurd cc
not_back (pos (suc n)) v h = grind (arith, ints)
not_back (negsuc n) v h = grind (arith, ints)

distinct_while : (hi step : ℤ) (n : ℕ) (v : ℤ) → HasNoRepeats (while_within hi step n v)
unfolding while_within
distinct_while hi step zero v = tt
distinct_while hi step (suc n) v =
    by_test (is_within hi step v)
    (λ h. rw (while_in hi step n v h) (
      λ w. not_back step v (on_way hi step n (v +ℤ step) v w).after_start,
      distinct_while hi step n (v +ℤ step),
    ))
    (λ h. rw (while_past hi step (suc n) v h) tt)

distinct_values : (lo hi step : ℤ) → HasNoRepeats (values lo hi step)
unfolding values
distinct_values lo hi step = distinct_while hi step _ lo

pub distinct_range : (r : Result Bounds SpanFault) → HasNoRepeats (result_unwrap_or (and_then r (λ b. Ok (values b.lo b.hi b.step))) [])
distinct_range (Ok b) = distinct_values b.lo b.hi b.step
distinct_range (Err e) = tt

pub distinct_number : (r : Result ℤ SpanFault) → HasNoRepeats (result_unwrap_or (and_then r (λ z. Ok (z ∷ []))) [])
distinct_number (Ok z) = (λ w. w, tt)
distinct_number (Err e) = tt

distinct_def : (d : Def) (env : List ℤ) → HasNoRepeats (result_unwrap_or (def_values d env) [])
distinct_def (Span r) env = distinct_range (bounds r env)
distinct_def (Value e) env = distinct_number (number e env)

-- lists that extend one list by a value and more agree in that value
same_next : (outer : List ℤ) (v w : ℤ) (k l : List ℤ) → (outer ++ v ∷ []) ++ k ≡ (outer ++ w ∷ []) ++ l → v ≡ w
same_next [] v w k l e = cc
same_next (x ∷ outer) v w k l e = same_next outer v w k l cc

distinct_lists : (ds : List Def) (outer : List ℤ) → HasNoRepeats (full_lists ds outer)
distinct_lists [] outer = (λ w. w, tt)
distinct_lists (d ∷ ds) outer =
    HasNoRepeats-flat_map (λ v. full_lists ds (outer ++ v ∷ [])) (result_unwrap_or (def_values d outer) []) (distinct_def d outer)
    (λ v among. distinct_lists ds (outer ++ v ∷ []))
    (λ v w x h k.
    let p = locals_from_full ds (outer ++ v ∷ []) x h in
    let q = locals_from_full ds (outer ++ w ∷ []) x k in
    same_next outer v w p.0 q.0 (sym p.1 ∙ q.1))

-- at most one value of a definition agrees with a value that is given
same_given : (given : Option ℤ) (v w : ℤ) → IsSome given → AgreesWith given v → AgreesWith given w → v ≡ w
same_given None v w some a b = absurd cc
same_given (Some z) v w some a b = a ∙ sym b

same_number : (r : Result ℤ SpanFault) (v w : ℤ) → IsIn v (result_unwrap_or (and_then r (λ z. Ok (z ∷ []))) [])
    → IsIn w (result_unwrap_or (and_then r (λ z. Ok (z ∷ []))) []) → v ≡ w
same_number (Ok z) v w h k = elim h [ inl e ↦ elim k [ inl f ↦ e ∙ sym f | inr t ↦ absurd t ] | inr t ↦ absurd t ]
same_number (Err e) v w h k = absurd h

module _ (ps : List ℕ) (params : List ℤ) (arity : length ps ≡ length params) where
  same_value : (d : Def) (ds : List Def) (n : ℕ) (outer : List ℤ) (v w : ℤ) → spans_are_params n (d ∷ ds) ps ≡ true
      → IsIn v (result_unwrap_or (def_values d outer) []) → IsIn w (result_unwrap_or (def_values d outer) [])
      → AgreesWith (param_value ps params n) v → AgreesWith (param_value ps params n) w → v ≡ w
  same_value (Span r) ds n outer v w spans h k a b =
      same_given (param_value ps params n) v w (IsSome-param_value ps params n arity (first_so (is_among n ps) (spans_are_params (suc n) ds ps) spans)) a b
  same_value (Value e) ds n outer v w spans h k a b = same_number (number e outer) v w h k

  spans_rest : (d : Def) (ds : List Def) (n : ℕ) → spans_are_params n (d ∷ ds) ps ≡ true → spans_are_params (suc n) ds ps ≡ true
  spans_rest (Span r) ds n spans = second_so (is_among n ps) (spans_are_params (suc n) ds ps) spans
  spans_rest (Value e) ds n spans = spans

  same_locals : (ds : List Def) (n : ℕ) (outer k l : List ℤ) → spans_are_params n ds ps ≡ true → AreLocals ds outer k
      → AreLocals ds outer l → AllAgree ps params n k → AllAgree ps params n l → k ≡ l
  same_locals [] n outer [] [] spans h i a b = refl
  same_locals [] n outer [] (w ∷ l) spans h i a b = absurd i
  same_locals [] n outer (v ∷ k) l spans h i a b = absurd h
  same_locals (d ∷ ds) n outer [] l spans h i a b = absurd h
  same_locals (d ∷ ds) n outer (v ∷ k) [] spans h i a b = absurd i
  same_locals (d ∷ ds) n outer (v ∷ k) (w ∷ l) spans h i a b =
      let e : v ≡ w = same_value d ds n outer v w spans h.0 i.0 a.0 b.0 in
      let others = rw (sym e) at i.1 in
      ap (λ z. z ∷ k) e ∙ ap (λ m. w ∷ m) (same_locals ds (suc n) (outer ++ v ∷ []) k l (spans_rest d ds n spans) h.1 others a.1 b.1)

module _ (s : ClassSpace) (well : IsWellSpace s) (params : List ℤ) where
  -- parameters determine the locals
  pub one_locals : (k l : List ℤ) → IsLocalsOf s params k → IsLocalsOf s params l → k ≡ l
  one_locals k l h i =
      let arity = arity_of_task s params (rw (sym h.same_params) (IsIn-map (params_of s.params) (all_locals s) k h.full)) in
      let p = locals_from_full s.defs [] k h.full in
      let q = locals_from_full s.defs [] l i.full in
      let a = all_agree s.params params 0 p.0 (λ j below. rw (zero-add, sym p.1) (agreement_from_params s.params params k h.same_params j)) in
      let b = all_agree s.params params 0 q.0 (λ j below. rw (zero-add, sym q.1) (agreement_from_params s.params params l i.same_params j)) in
      p.1 ∙ same_locals s.params params arity s.defs 0 [] p.0 q.0 well.spans p.2 q.2 a b ∙ sym q.1

-- no task occurs twice
pub distinct_tasks : (s : ClassSpace) → IsWellSpace s → HasNoRepeats (tasks s)
distinct_tasks s well =
    HasNoRepeats-map_members (params_of s.params) (all_locals s) (distinct_lists s.defs []) (λ k l h i e.
    one_locals s well (params_of s.params k) k l (record { full = h; same_params = refl }) (record { full = i; same_params = sym e }))
