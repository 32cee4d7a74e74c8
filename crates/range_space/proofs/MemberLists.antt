-- Which lists of locals are full, and which of them have given parameters.
use Rattle.std.proofs.Common.{◌≡◌, ℕ, zero, suc, ◌+◌, ◌<◌, ℤ, pos, Bool, true, false, ◌||◌, ◌==◌, List, [], ◌∷◌, ◌++◌}
use Rattle.std.proofs.Common.{length, slice_index_or, refl, ap, sym, ◌∙◌, append_assoc, add-zero, zero-add, Some, None}
use Rattle.std.proofs.Common.{IsSome, nat_lt, IsTrue, inl, inr, subst, eq-eqb, if◌then◌else◌, rules, arith}
use Rattle.std.proofs.lemmas.Bool.Decides.{nat_tests}
use Rattle.std.proofs.lemmas.List.{length-map}
use Rattle.std.specs.Bool.{OnTrue, OnFalse}
use Rattle.std.proofs.lemmas.Bool.{false≢true, not-true}
use Rattle.std.proofs.lemmas.Bool.{eqb-true}
use Rattle.std.proofs.lemmas.List.{append-nil}
use Rattle.std.specs.List.{list_all}
use Rattle.ptg_base.specs.Lists.{IsIn, are_distinct}
use Rattle.term_core.specs.declared.space.Def.{Def}
use Rattle.term_core.specs.declared.space.Def.TheVariants.{Span, Value}
use Rattle.term_core.specs.declared.space.ClassSpace.{ClassSpace}
use Rattle.term_core.specs.WellSpace.{IsWellSpace, is_among, spans_are_params}
use Rattle.range_space.specs.Tasks.{full_lists, def_values, params_of, tasks, all_locals}
use Rattle.range_space.specs.Completion.{param_value, AgreesWith, IsGivenIfRanged, AreLocals, AllAgree, IsCompletion, HasNoCompletion}
use Rattle.list_lemmas.proofs.Truth.{by_test}
use Rattle.list_lemmas.proofs.Members.{IsIn-flat_map, from_flat_map, IsIn-map, from_map}
use Rattle.std.specs.Cmp.{first_so, second_so}
use Rattle.std.specs.Result.{result_unwrap_or}

-- locals that are values of their definitions make a full list, and every full list is so made
pub full_from_locals : (ds : List Def) (outer locals : List ℤ) → AreLocals ds outer locals → IsIn (outer ++ locals) (full_lists ds outer)
full_from_locals [] outer [] w = inl (append-nil outer)
full_from_locals [] outer (v ∷ locals) w = absurd w
full_from_locals (d ∷ ds) outer [] w = absurd w
full_from_locals (d ∷ ds) outer (v ∷ locals) w =
    IsIn-flat_map (λ z. full_lists ds (outer ++ z ∷ [])) (result_unwrap_or (def_values d outer) []) v (outer ++ v ∷ locals) w.0
    (subst (λ l. IsIn l (full_lists ds (outer ++ v ∷ []))) (append_assoc outer (v ∷ []) locals) (full_from_locals ds (outer ++ v ∷ []) locals w.1))

pub locals_from_full : (ds : List Def) (outer l : List ℤ) → IsIn l (full_lists ds outer) → (locals : List ℤ) × (l ≡ outer ++ locals) × AreLocals ds outer locals
locals_from_full [] outer l w = elim w [ inl e ↦ ([], e ∙ sym (append-nil outer), tt) | inr t ↦ absurd t ]
locals_from_full (d ∷ ds) outer l w =
    let p = from_flat_map (λ z. full_lists ds (outer ++ z ∷ [])) (result_unwrap_or (def_values d outer) []) l w in
    let q = locals_from_full ds (outer ++ p.0 ∷ []) l p.2 in
    (p.0 ∷ q.0, q.1 ∙ append_assoc outer (p.0 ∷ []) q.0, (p.1, q.2))

pub length-locals : (ds : List Def) (outer locals : List ℤ) → AreLocals ds outer locals → length locals ≡ length ds
length-locals [] outer [] w = refl
length-locals [] outer (v ∷ locals) w = absurd w
length-locals (d ∷ ds) outer [] w = absurd w
length-locals (d ∷ ds) outer (v ∷ locals) w = ap suc (length-locals ds (outer ++ v ∷ []) locals w.1)

-- no value is given to a definition that is no parameter
pub no_param_value : (ps : List ℕ) (vs : List ℤ) (n : ℕ) → is_among n ps ≡ false → param_value ps vs n ≡ None
no_param_value [] vs n h = refl
no_param_value (p ∷ ps) [] n h = refl
no_param_value (p ∷ ps) (v ∷ vs) n h =
    by_test (p == n)
    (λ k. absurd (false≢true (sym h ∙ ap (λ b. b || is_among n ps) k)))
    (λ k. rw k (no_param_value ps vs n (ap (λ b. b || is_among n ps) (sym k) ∙ h)))

-- a value is given to each parameter
pub IsSome-param_value : (ps : List ℕ) (vs : List ℤ) (n : ℕ) → length ps ≡ length vs → is_among n ps ≡ true → IsSome (param_value ps vs n)
IsSome-param_value [] vs n e h = absurd (false≢true h)
IsSome-param_value (p ∷ ps) [] n e h = absurd (omega arith)
IsSome-param_value (p ∷ ps) (v ∷ vs) n e h =
    by_test (p == n)
    (λ k. rw k (search rules))
    (λ k. rw k (IsSome-param_value ps vs n (omega arith) (ap (λ b. b || is_among n ps) (sym k) ∙ h)))

-- agreement of all locals, index by index
pub agrees_at : (ps : List ℕ) (vs : List ℤ) (k : ℕ) (l : List ℤ) → AllAgree ps vs k l → (i : ℕ) → i < length l
    → AgreesWith (param_value ps vs (k + i)) (slice_index_or l i (pos 0))
agrees_at ps vs k [] w i h = absurd (omega arith)
agrees_at ps vs k (v ∷ l) w zero h = rw add-zero w.0
agrees_at ps vs k (v ∷ l) w (suc i) h = subst (λ n. AgreesWith (param_value ps vs n) (slice_index_or l i (pos 0)))
    (omega arith) (agrees_at ps vs (suc k) l w.1 i (omega arith))

pub all_agree : (ps : List ℕ) (vs : List ℤ) (k : ℕ) (l : List ℤ)
    → ((i : ℕ) → i < length l → AgreesWith (param_value ps vs (k + i)) (slice_index_or l i (pos 0)))
    → AllAgree ps vs k l
all_agree ps vs k [] f = tt
all_agree ps vs k (v ∷ l) f = (
  rw add-zero at (f 0 (omega arith)),
  all_agree ps vs (suc k) l (λ i h. subst (λ n. AgreesWith (param_value ps vs n) (slice_index_or l i (pos 0))) (omega arith) (f (suc i) (omega arith))),
)

-- locals that agree with the given values have these as parameters
pub params_from_agreement : (ps : List ℕ) (vs l : List ℤ) → length ps ≡ length vs
    → are_distinct (λ p q. q == p) ps ≡ true → list_all (λ p. nat_lt p (length l)) ps ≡ true
    → ((i : ℕ) → i < length l → AgreesWith (param_value ps vs i) (slice_index_or l i (pos 0))) → params_of ps l ≡ vs
params_from_agreement [] [] l e d w f = refl
params_from_agreement [] (v ∷ vs) l e d w f = absurd (omega arith)
params_from_agreement (p ∷ ps) [] l e d w f = absurd (omega arith)
params_from_agreement (p ∷ ps) (v ∷ vs) l e d w f =
    let first_below = first_so (nat_lt p (length l)) (list_all (λ q. nat_lt q (length l)) ps) w in
    let below : p < length l = grind (arith, nat_tests) in
    let here : AgreesWith (if p == p then Some v else param_value ps vs p) (slice_index_or l p (pos 0)) = f p below in
    let first : slice_index_or l p (pos 0) ≡ v = rw (eq-eqb p p refl) at here in
    let others = params_from_agreement ps vs l (omega arith) (second_so _ _ d) (second_so _ _ w) (λ i h.
    by_test (p == i)
    (λ k. rw (no_param_value ps vs i (subst (λ j. is_among j ps ≡ false) (eqb-true p i k) (not-true _ (first_so _ _ d)))) tt)
    (λ k. rw k at (f i h))) in
    ap (λ z. z ∷ params_of ps l) first ∙ ap (λ zs. v ∷ zs) others

-- locals that have the given parameters agree with the given values
pub agreement_from_params : (ps : List ℕ) (vs l : List ℤ) → params_of ps l ≡ vs → (i : ℕ) → AgreesWith (param_value ps vs i) (slice_index_or l i (pos 0))
agreement_from_params [] vs l e i = tt
agreement_from_params (p ∷ ps) [] l e i = tt
agreement_from_params (p ∷ ps) (v ∷ vs) l e i =
    by_test (p == i)
    (λ k. rw k (ap (λ j. slice_index_or l j (pos 0)) (sym (eqb-true p i k)) ∙ cc))
    (λ k. rw k (agreement_from_params ps vs l (cc) i))

-- in a well made space a value is given to each range
pub given_if_ranged : (d : Def) (ds : List Def) (ps : List ℕ) (vs : List ℤ) (n : ℕ) → length ps ≡ length vs
    → spans_are_params n (d ∷ ds) ps ≡ true → IsGivenIfRanged d (param_value ps vs n)
given_if_ranged (Span r) ds ps vs n e h = IsSome-param_value ps vs n e (first_so (is_among n ps) (spans_are_params (suc n) ds ps) h)
given_if_ranged (Value t) ds ps vs n e h = tt

-- a completion of `outer` is one of `outer` with the next value, if that value is known
module _ (d : Def) (ds : List Def) (ps : List ℕ) (vs : List ℤ) (n : ℕ) (outer full : List ℤ) (v : ℤ)
    (only : (u : ℤ) → IsIn u (result_unwrap_or (def_values d outer) []) → AgreesWith (param_value ps vs n) u → v ≡ u)
  where
    next_of : (locals : List ℤ) → full ≡ outer ++ locals → AreLocals (d ∷ ds) outer locals → AllAgree ps vs n locals
        → IsCompletion ds ps vs (suc n) (outer ++ v ∷ []) full
    next_of [] e a g = absurd a
    next_of (u ∷ locals) e a g =
        subst (λ z. IsCompletion ds ps vs (suc n) (outer ++ z ∷ []) full) (sym (only u a.0 g.0)) (record {
          locals = locals;
          extends = e ∙ sym (append_assoc outer (u ∷ []) locals);
          are_locals = a.1;
          all_agree = g.1;
        })

    pub next_extends : IsCompletion (d ∷ ds) ps vs n outer full → IsCompletion ds ps vs (suc n) (outer ++ v ∷ []) full
    next_extends w = next_of w.locals w.extends w.are_locals w.all_agree

module _ (s : ClassSpace) (well : IsWellSpace s) (vs : List ℤ) (arity : length s.params ≡ length vs) where
  pub locals_whole : (now : List ℤ) → IsCompletion s.defs s.params vs 0 [] now → IsIn now (all_locals s)
  locals_whole now w = rw w.extends (full_from_locals s.defs [] w.locals w.are_locals)

  pub params_whole : (now : List ℤ) → IsCompletion s.defs s.params vs 0 [] now → params_of s.params now ≡ vs
  params_whole now w =
      let e : length now ≡ length s.defs = ap length w.extends ∙ length-locals s.defs [] w.locals w.are_locals in
      let here = rw (sym w.extends) at w.all_agree in
      params_from_agreement s.params vs now arity well.different (rw e well.within) (λ i h. rw zero-add at (agrees_at s.params vs 0 now here i h))

  pub task_whole : (now : List ℤ) → IsCompletion s.defs s.params vs 0 [] now → IsIn vs (tasks s)
  task_whole now w = rw (sym (params_whole now w)) (IsIn-map (params_of s.params) (all_locals s) now (locals_whole now w))

  pub whole_of_task : IsIn vs (tasks s) → (now : List ℤ) × IsCompletion s.defs s.params vs 0 [] now
  whole_of_task t =
      let m = from_map (params_of s.params) (all_locals s) vs t in
      let q = locals_from_full s.defs [] m.0 m.1 in (
        q.0,
        record {
          locals = q.0;
          extends = refl;
          are_locals = q.2;
          all_agree = all_agree s.params vs 0 q.0 (λ i h. rw (zero-add, sym q.1) (agreement_from_params s.params vs m.0 (sym m.2) i));
        },
      )

  pub none_whole : HasNoCompletion s.defs s.params vs 0 [] → IsIn vs (tasks s) → ⊥
  none_whole none t =
      let w = (whole_of_task t).1 in
      none w.locals w.are_locals w.all_agree

pub arity_of_task : (s : ClassSpace) (vs : List ℤ) → IsIn vs (tasks s) → length s.params ≡ length vs
arity_of_task s vs t =
    let m = from_map (params_of s.params) (all_locals s) vs t in
    sym (ap length m.2 ∙ length-map s.params (λ p. slice_index_or m.0 p (pos 0)))

-- a result that is true if the first holds, from which the fact follows, and false if the second does, which excludes
-- it
pub decided_by : {P Q R : Type 0} (b : Bool) → OnTrue b P → OnFalse b Q → (P → R) → (Q → R → ⊥) → (IsTrue b → R) × (R → IsTrue b)
decided_by true p q f g = (λ t. f p, λ r. refl)
decided_by false p q f g = (λ t. absurd (false≢true t), λ r. absurd (g q r))
