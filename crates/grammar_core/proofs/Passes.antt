-- If the next token is in the first set of a production, reading takes it.
use Rattle.std.proofs.Common.{◌≡◌, ℕ, zero, suc, ◌<◌, ◌≤◌, Bool, true, false, List, [], ◌∷◌, length, Ok, Err, refl, inl, inr, sym, ap, ◌∙◌, arith}
use Rattle.std.specs.Prelude.{Option, Some, None, ◌-◌, nat_lt, ◌&&◌, ◌||◌, not}
use Rattle.std.proofs.lemmas.Bool.{and_parts, and_from, or_cases, not-true, both_ways, cases_Bool, le-ltb}
use Rattle.std.specs.Option.{is_none}
use Rattle.grammar_core.specs.declared.fault.ReadFault.{ReadFault}
use Rattle.grammar_core.specs.Terminals.{Terminal, terminal_of, terminal_count, some_is, are_disjoint}
use Rattle.grammar_core.specs.declared.token.Token.{Token}
use Rattle.grammar_core.specs.declared.code.Code.{Code}
use Rattle.grammar_core.specs.declared.code.Code.TheVariants.{Syntax}
use Rattle.grammar_core.specs.Production.{Production, one_of, checked, seq, map, alt, opt, star, pick, after_token, limited}
use Rattle.grammar_core.specs.Reading.{◌>>=◌, Read, refuse, check, may_be_empty, first, starts, picks, token_at, many_at, run, fault_from_end}
use Rattle.grammar_core.specs.Predictive.{Claims, continuing, is_fine, is_limit, are_limits, is_safe}
use Rattle.grammar_core.proofs.ReadCases.{bind_ok, bind_err, token_ok, token_err, refuse_ok, refuse_err, check_err, judge_ok, judge_err}
use Rattle.grammar_core.proofs.Sets.{starts_disjoint}
use Rattle.grammar_core.proofs.Begins.{stop_left, stop_right, and_if_stop, and_if_cases, start_cases}
use Rattle.grammar_core.proofs.Fuel.{Shrinks, many_shrinks, run_shrinks, many_is}
use Rattle.grammar_core.proofs.Sound.{left_is}
use Rattle.list_lemmas.proofs.Truth.{chosen}
use Rattle.list_lemmas.proofs.Options.{same_Ok, Ok≢Err}

-- a fault of reading is at one of the tokens that are read, or at their end
abbrev pub FaultsWithin : {A : Type 0} → (List Token → Read A) → Type 0
FaultsWithin p = (s : List Token) (n : ReadFault) → p s ≡ Err n → n.left ≤ length s

many_faults : {A : Type 0} (full : ℕ → Option Code) (f : Terminal → Bool) (p : List Token → Read A) → Shrinks p
    → FaultsWithin p → (k i : ℕ) → FaultsWithin (many_at full f p i k)
unfolding many_at
many_faults full f p h l zero i s n e = absurd (Ok≢Err ([], s) n e)
many_faults full f p h l (suc k) i s n e =
    elim (chosen (starts f s) (refuse (full i) s (p s >>= λ a. many_at full f p (suc i) k a.1 >>= λ more. Ok (a.0 ∷ more.0, more.1))) (Ok ([], s)) (Err n) e) [
      | inl u ↦ elim (refuse_err (full i) s (p s >>= λ a. many_at full f p (suc i) k a.1 >>= λ more. Ok (a.0 ∷ more.0, more.1)) n u.1) [
        | inl v ↦ let x = left_is v.2 in omega (arith, x)
        | inr w ↦ elim (bind_err (p s) (λ a. many_at full f p (suc i) k a.1 >>= λ more. Ok (a.0 ∷ more.0, more.1)) n w.1) [
          | inl v ↦ l s n v
          | inr a ↦ elim (bind_err (many_at full f p (suc i) k a.0.1) (λ more. Ok (a.0.0 ∷ more.0, more.1)) n a.2) [
            | inl v ↦ let one = many_faults full f p h l k (suc i) a.0.1 n v in let two = h s a.0 a.1 in omega (arith, one, two)
            | inr v ↦ absurd (Ok≢Err _ n v.2)
          ]
        ]
      ]
      | inr u ↦ absurd (Ok≢Err _ n u.1)
    ]

pub run_faults : {N : Type 0} {Tree : N → Type 0} (p : (n : N) → List Token → Read (Tree n))
    → ((n : N) → Shrinks (p n)) → ((n : N) → FaultsWithin (p n)) → {A : Type 0} (g : Production N Tree A)
    → FaultsWithin (run p g)
run_faults p h l (one_of q) s n e = let t = left_is (token_err q s n e).0 in omega (arith, t)
run_faults p h l (checked q good c) s n e =
    elim (bind_err (token_at q s) (check good c s) n e) [
      | inl u ↦ let t = left_is (token_err q s n u).0 in omega (arith, t)
      | inr a ↦ let t = left_is (check_err good c s a.0 n a.2).1 in omega (arith, t)
    ]
run_faults p h l (limited d c g) s n e =
    elim (judge_err (d.at s) c s (run p g s) n e) [
      | inl u ↦ let t = left_is u.3 in omega (arith, t)
      | inr (inl u) ↦ let t = left_is u.3 in omega (arith, t)
      | inr (inr u) ↦ run_faults p h l g s n u.0
    ]
run_faults p h l (seq g k) s n e =
    elim (bind_err (run p g s) (λ a. run p k a.1 >>= λ b. Ok ((a.0, b.0), b.1)) n e) [
      | inl u ↦ run_faults p h l g s n u
      | inr a ↦ elim (bind_err (run p k a.0.1) (λ b. Ok ((a.0.0, b.0), b.1)) n a.2) [
        | inl u ↦ let one = run_faults p h l k a.0.1 n u in let two = (run_shrinks p h g s a.0 a.1).0 in omega (arith, one, two)
        | inr u ↦ absurd (Ok≢Err _ n u.2)
      ]
    ]
run_faults p h l (map f g) s n e = elim (bind_err (run p g s) (λ a. Ok (f a.0, a.1)) n e) [ inl u ↦ run_faults p h l g s n u | inr u ↦ absurd (Ok≢Err _ n u.2) ]
run_faults p h l (alt g k) s n e = elim (chosen (starts (first g) s) (run p g s) (run p k s) (Err n) e)
    [ inl u ↦ run_faults p h l g s n u.1 | inr u ↦ run_faults p h l k s n u.1 ]
run_faults p h l (pick q g k) s n e = elim
    (chosen (picks (first g) (first k) q s) (run p g s) (run p k s) (Err n) e)
    [ inl u ↦ run_faults p h l g s n u.1 | inr u ↦ run_faults p h l k s n u.1 ]
run_faults p h l (opt g) s n e =
    elim (chosen (starts (first g) s) (run p g s >>= λ a. Ok (Some a.0, a.1)) (Ok (None, s)) (Err n) e) [
      | inl u ↦ elim (bind_err (run p g s) (λ a. Ok (Some a.0, a.1)) n u.1) [ inl v ↦ run_faults p h l g s n v | inr v ↦ absurd (Ok≢Err _ n v.2) ]
      | inr u ↦ absurd (Ok≢Err _ n u.1)
    ]
run_faults p h l (star full g) s n e = many_faults full (first g) (run p g) (λ s' x e'. (run_shrinks p h g s' x e').0) (run_faults p h l g) (length s) 0 s n e
run_faults p h l (after_token q m) s n e =
    elim (bind_err (token_at q s) (λ t. p m t.1 >>= λ b. Ok ((t.0, b.0), b.1)) n e) [
      | inl u ↦ let t = left_is (token_err q s n u).0 in omega (arith, t)
      | inr a ↦ elim (bind_err (p m a.0.1) (λ b. Ok ((a.0.0, b.0), b.1)) n a.2) [
        | inl v ↦ let t = ap (λ (y : List Token). length y) (token_ok q s a.0 a.1).0 in let one = l m a.0.1 n v in omega (arith, t, one)
        | inr v ↦ absurd (Ok≢Err _ n v.2)
      ]
    ]

abbrev pub Passes : Bool → {A : Type 0} → (List Token → Read A) → List Token → Type 0
Passes w {A} r s = ((n : ReadFault) → r s ≡ Err n → (w ≡ true → n.code ≡ Syntax) → n.left < length s)
    × ((x : A × List Token) → r s ≡ Ok x → length x.1 < length s)

picked_left : (a b q : Terminal → Bool) (s : List Token) → picks a b q s ≡ true → starts a s ≡ true
picked_left a b q [] e = absurd cc
picked_left a b q (x ∷ s) e = elim (chosen (b (terminal_of x)) (a (terminal_of x) && starts q s) (a (terminal_of x))
    true e) [ inl u ↦ (and_parts (a (terminal_of x)) (starts q s) u.1).0 | inr u ↦ u.1 ]

picked_right : (a b q : Terminal → Bool) (s : List Token) → picks a b q s ≡ false → starts (λ x. a x || b x) s ≡ true → starts b s ≡ true
picked_right a b q [] e h = absurd cc
picked_right a b q (x ∷ s) e h =
    elim (chosen (b (terminal_of x)) (a (terminal_of x) && starts q s) (a (terminal_of x)) false e) [
      | inl u ↦ u.0
      | inr u ↦ elim (or_cases (a (terminal_of x)) (b (terminal_of x)) h) [ inl v ↦ absurd (both_ways (a (terminal_of x)) u.1 v) | inr v ↦ v ]
    ]

module _ {N : Type 0} {Tree : N → Type 0} (c : Claims N) (p : (n : N) → List Token → Read (Tree n))
    (h : (n : N) → Shrinks (p n)) (l : (n : N) → FaultsWithin (p n)) where
  -- if the next token is not in the first set, and a text may be empty, an empty text is read
  stays : {A : Type 0} (g : Production N Tree A) → is_fine c g ≡ true → (s : List Token)
      → starts (first g) s ≡ false → may_be_empty g ≡ true → (t : A) × (run p g s ≡ Ok (t, s))
  stays (one_of q) fine s e empty = absurd cc
  stays (checked q good d) fine s e empty = absurd cc
  stays (limited d b g) fine s e empty =
      let a = stays g fine s e empty in
      let zero_left : nat_lt (d.at s) (length s - length s) ≡ false = le-ltb (d.at s) (length s - length s) (omega arith) in
      (a.0, rw (a.1, zero_left) refl)
  stays (seq g k) fine s e empty =
      let f = and_parts (is_fine c g) _ fine in
      let f' = and_parts (is_fine c k) _ f.1 in
      let both = and_parts (may_be_empty g) (may_be_empty k) empty in
      let quiet = and_if_stop (may_be_empty g) (first g) (first k) s e in
      let a = stays g f.0 s quiet.0 both.0 in
      let b = stays k f'.0 s (quiet.1 both.0) both.1 in
      ((a.0, b.0), rw (a.1, b.1) refl)
  stays (map f g) fine s e empty = let a = stays g fine s e empty in (f a.0, rw a.1 refl)
  stays (alt g k) fine s e empty =
      let f = and_parts (is_fine c g) _ fine in
      let f' = and_parts (is_fine c k) _ f.1 in
      let full = not-true (may_be_empty g) (and_parts (not (may_be_empty g)) _ f'.1).0 in
      elim (or_cases (may_be_empty g) (may_be_empty k) empty) [
        | inl u ↦ absurd (both_ways (may_be_empty g) full u)
        | inr u ↦ let b = stays k f'.0 s (stop_right (first g) (first k) s e) u in (b.0, rw (stop_left (first g) (first k) s e) b.1)
      ]
  stays (pick q g k) fine s e empty =
      let f = and_parts (is_fine c g) _ fine in
      let f' = and_parts (is_fine c k) _ f.1 in
      let f3 = and_parts (not (may_be_empty g)) _ f'.1 in
      elim (or_cases (may_be_empty g) (may_be_empty k) empty) [
        | inl u ↦ absurd (both_ways (may_be_empty g) (not-true (may_be_empty g) f3.0) u)
        | inr u ↦ absurd (both_ways (may_be_empty k) (not-true (may_be_empty k) (and_parts (not (may_be_empty k)) _ f3.1).0) u)
      ]
  stays (opt g) fine s e empty = (None, rw e refl)
  stays (star full g) fine s e empty =
      let f = and_parts (is_fine c g) _ fine in
      let never = not-true (may_be_empty g) (and_parts (not (may_be_empty g)) _ f.1).0 in
      ([], many_is full (first g) (run p g) (λ s' x e'. (run_shrinks p h g s' x e').1 never) 0 s ∙ rw e refl)
  stays (after_token q n) fine s e empty = absurd cc

  token_passes : (q : Terminal → Bool) (s : List Token) → starts q s ≡ true → (n : ReadFault) → token_at q s ≡ Err n → ⊥
  token_passes q s b n e = both_ways (starts q s) (token_err q s n e).1 b

  full_list : (q : Terminal → Bool) (s : List Token) → starts q s ≡ true → 1 ≤ length s
  full_list q [] e = absurd cc
  full_list q (x ∷ s) e = omega arith

  not_limit : (d : Code) → d ≡ Syntax → is_limit d ≡ true → ⊥
  not_limit d e h = both_ways (is_limit d) (rw e refl) h

  full_bad : (w : Bool) (o : Option Code) (d : Code) → (w || is_none o) ≡ true → are_limits o ≡ true
      → {n : ReadFault} {m : ℕ} → (w ≡ true → n.code ≡ Syntax) → o ≡ Some d → n ≡ fault_from_end m d → ⊥
  full_bad true o d safe limits y e k = not_limit d (ap (λ (x : ReadFault). x.code) (sym k) ∙ y refl) (ap are_limits (sym e) ∙ limits)
  full_bad false None d safe limits y e k = absurd cc
  full_bad false (Some d') d safe limits y e k = absurd cc

  pub passes : (w : Bool) (b0 : Terminal → Bool) {A : Type 0} (g : Production N Tree A) → is_fine c g ≡ true
      → is_safe w b0 g ≡ true → (s : List Token) → (w ≡ false → starts b0 s ≡ true) → starts (first g) s ≡ true
      → Passes w (run p g) s
  passes w b0 (one_of q) fine safe s at b = (
    λ n e y. absurd (token_passes q s b n e),
    λ x e. let t =
        ap (λ (y : List Token). length y) (token_ok q s x e).0 in omega (arith, t),
  )
  passes w b0 (checked q good d) fine safe s at b = (
    λ n e y. elim (bind_err (token_at q s) (check good d s) n e) [
      | inl u ↦ absurd (token_passes q s b n u)
      | inr a ↦ absurd (bad w safe at y (check_err good d s a.0 n a.2).1)
    ],
    λ x e. (run_shrinks p h (checked q good d) s x e).1 refl,
  )
    where
      bad : (w : Bool) → (w || are_disjoint b0 q) ≡ true → (w ≡ false → starts b0 s ≡ true) → {n : ReadFault}
          → (w ≡ true → n.code ≡ Syntax) → n ≡ fault_from_end (length s) d → ⊥
      bad true safe at y e = not_limit d (ap (λ (x : ReadFault). x.code) (sym e) ∙ y refl) (and_parts (some_is q terminal_count) (is_limit d) fine).1
      bad false safe at y e = both_ways (starts b0 s) (starts_disjoint b0 q s safe b) (at refl)
  passes w b0 (limited d d0 g) fine safe s at b =
      let one = passes w b0 g fine safe s at b in
      let some : 1 ≤ length s = full_list (first g) s b in
      let least = d.one s in (
        λ n e y. elim (judge_err (d.at s) d0 s (run p g s) n e) [
          | inl u ↦ let t = left_is u.3 in omega (arith, t)
          | inr (inl u) ↦ let t = left_is u.3 in omega (arith, t)
          | inr (inr u) ↦ one.0 n u.0 y
        ],
        λ x e. one.1 x (judge_ok (d.at s) d0 s (run p g s) x e).0,
      )
  passes w b0 (seq {A = A1} {B = B1} g k) fine safe s at b =
      let f = and_parts (is_fine c g) _ fine in
      let f' = and_parts (is_fine c k) _ f.1 in
      let sf = and_parts (is_safe w b0 g) (is_safe w b0 k) safe in
      let R : A1 × List Token → Read (A1 × B1) = λ a. run p k a.1 >>= λ b. Ok ((a.0, b.0), b.1) in
      elim (cases_Bool (starts (first g) s)) [
        | inl t ↦
            let one = passes w b0 g f.0 sf.0 s at t in (
              λ n e y. elim (bind_err (run p g s) R n e) [
                | inl u ↦ one.0 n u y
                | inr a ↦ elim (bind_err (run p k a.0.1) (λ b. Ok ((a.0.0, b.0), b.1)) n a.2) [
                  | inl u ↦ let x = run_faults p h l k a.0.1 n u in let y = one.1 a.0 a.1 in omega (arith, x, y)
                  | inr u ↦ absurd (Ok≢Err _ n u.2)
                ]
              ],
              λ x e.
                  let a = bind_ok (run p g s) R x e in
                  let b = bind_ok (run p k a.0.1) (λ b. Ok ((a.0.0, b.0), b.1)) x a.2 in
                  let same = same_Ok ((a.0.0, b.0.0), b.0.1) x b.2 in
                  let y = one.1 a.0 a.1 in let z = (run_shrinks p h k a.0.1 b.0 b.1).0 in
                  rw (← same) (omega (arith, y, z)),
            )
        | inr t ↦
            let u : (may_be_empty g ≡ true) × (starts (first k) s ≡ true) =
            elim (and_if_cases (may_be_empty g) (first g) (first k) s b)
            [ inl w ↦ absurd (both_ways (starts (first g) s) t w) | inr w ↦ w ] in
            let a = stays g f.0 s t u.0 in
            let two = passes w b0 k f'.0 sf.1 s at u.1 in
            let goes : run p (seq g k) s ≡ (run p k s >>= λ b. Ok ((a.0, b.0), b.1)) = rw a.1 refl in (
              λ n e y. elim (bind_err (run p k s) (λ b. Ok ((a.0, b.0), b.1)) n (sym goes ∙ e)) [ inl v ↦ two.0 n v y | inr v ↦ absurd (Ok≢Err _ n v.2) ],
              λ x e.
                  let b = bind_ok (run p k s) (λ b. Ok ((a.0, b.0), b.1)) x (sym goes ∙ e) in
                  let same = same_Ok ((a.0, b.0.0), b.0.1) x b.2 in
                  rw (← same) (two.1 b.0 b.1),
            )
      ]
  passes w b0 (map f g) fine safe s at b =
      let one = passes w b0 g fine safe s at b in (
        λ n e y. elim (bind_err (run p g s) (λ a. Ok (f a.0, a.1)) n e) [ inl v ↦ one.0 n v y | inr v ↦ absurd (Ok≢Err _ n v.2) ],
        λ x e.
            let a = bind_ok (run p g s) (λ a. Ok (f a.0, a.1)) x e in
            let same = same_Ok (f a.0.0, a.0.1) x a.2 in
            rw (← same) (one.1 a.0 a.1),
      )
  passes w b0 (alt g k) fine safe s at b =
      let f = and_parts (is_fine c g) _ fine in
      let f' = and_parts (is_fine c k) _ f.1 in
      let sf = and_parts (is_safe w b0 g) (is_safe w b0 k) safe in
      elim (cases_Bool (starts (first g) s)) [
        | inl t ↦ let one = passes w b0 g f.0 sf.0 s at t in (λ n e y. one.0 n (sym (rw t refl) ∙ e) y, λ x e. one.1 x (sym (rw t refl) ∙ e))
        | inr t ↦
            let u : starts (first k) s ≡ true =
            elim (start_cases (first g) (first k) s b)
            [ inl w ↦ absurd (both_ways (starts (first g) s) t w) | inr w ↦ w ] in
            let one = passes w b0 k f'.0 sf.1 s at u in (λ n e y. one.0 n (sym (rw t refl) ∙ e) y, λ x e. one.1 x (sym (rw t refl) ∙ e))
      ]
  passes w b0 (pick q g k) fine safe s at b =
      let f = and_parts (is_fine c g) _ fine in
      let f' = and_parts (is_fine c k) _ f.1 in
      let sf = and_parts (is_safe w b0 g) (is_safe w b0 k) safe in
      let f3 = and_parts (not (may_be_empty g)) _ f'.1 in
      let full = not-true (may_be_empty k) (and_parts (not (may_be_empty k)) _ f3.1).0 in (
        λ n e y. elim (chosen (picks (first g) (first k) q s) (run p g s) (run p k s) (Err n) e) [
          | inl u ↦ (passes w b0 g f.0 sf.0 s at (picked_left (first g) (first k) q s u.0)).0 n u.1 y
          | inr u ↦ (passes w b0 k f'.0 sf.1 s at (picked_right (first g) (first k) q s u.0 b)).0 n u.1 y
        ],
        λ x e. elim (chosen (picks (first g) (first k) q s) (run p g s) (run p k s) (Ok x) e) [
          | inl u ↦ (run_shrinks p h g s x u.1).1 (not-true (may_be_empty g) f3.0)
          | inr u ↦ (run_shrinks p h k s x u.1).1 full
        ],
      )
  passes w b0 (opt g) fine safe s at b =
      let f = and_parts (is_fine c g) _ fine in
      let one = passes w b0 g f.0 safe s at b in
      let goes : run p (opt g) s ≡ (run p g s >>= λ a. Ok (Some a.0, a.1)) = rw b refl in (
        λ n e y. elim (bind_err (run p g s) (λ a. Ok (Some a.0, a.1)) n (sym goes ∙ e)) [ inl v ↦ one.0 n v y | inr v ↦ absurd (Ok≢Err _ n v.2) ],
        λ x e.
            let a = bind_ok (run p g s) (λ a. Ok (Some a.0, a.1)) x (sym goes ∙ e) in
            let same = same_Ok (Some a.0.0, a.0.1) x a.2 in
            rw (← same) (one.1 a.0 a.1),
      )
  passes w b0 (star {A = A1} full g) fine safe s at b =
      let f = and_parts (is_fine c g) _ fine in
      let sf = and_parts (is_safe w b0 g) _ safe in
      let never = not-true (may_be_empty g) (and_parts (not (may_be_empty g)) _ f.1).0 in
      let one = passes w b0 g f.0 sf.0 s at b in
      let rest : A1 × List Token → Read (List A1) = λ a. many_at full (first g) (run p g) 1 (length a.1) a.1 >>= λ more. Ok (a.0 ∷ more.0, more.1) in
      let goes : run p (star full g) s ≡ refuse (full 0) s (run p g s >>= rest) =
      many_is full (first g) (run p g) (λ s' x e'. (run_shrinks p h g s' x e').1 never) 0 s ∙ rw b refl in
      let limits = (and_parts (are_disjoint (continuing c g) (first g)) _ (and_parts (not (may_be_empty g)) _ f.1).1).1 in
      let later : FaultsWithin (λ l. many_at full (first g) (run p g) 1 (length l) l) =
      λ l' n e. many_faults full (first g) (run p g) (λ s' x e'. (run_shrinks p h g s' x e').0)
      (run_faults p h l g) (length l') 1 l' n e in (
        λ n e y. elim (refuse_err (full 0) s (run p g s >>= rest) n (sym goes ∙ e)) [
          | inl u ↦ absurd (full_bad w (full 0) u.0 sf.1 limits y u.1 u.2)
          | inr ge ↦ elim (bind_err (run p g s) rest n ge.1) [
            | inl v ↦ one.0 n v y
            | inr a ↦ elim (bind_err (many_at full (first g) (run p g) 1 (length a.0.1) a.0.1) (λ more. Ok (a.0.0 ∷ more.0, more.1)) n a.2) [
              | inl v ↦ let x = later a.0.1 n v in let y = one.1 a.0 a.1 in omega (arith, x, y)
              | inr v ↦ absurd (Ok≢Err _ n v.2)
            ]
          ]
        ],
        λ x e.
            let a = bind_ok (run p g s) rest x (refuse_ok (full 0) s (run p g s >>= rest) x (sym goes ∙ e)).1 in
            let d = bind_ok (many_at full (first g) (run p g) 1 (length a.0.1) a.0.1) (λ more. Ok (a.0.0 ∷ more.0, more.1)) x a.2 in
            let same = same_Ok (a.0.0 ∷ d.0.0, d.0.1) x d.2 in
            let y = one.1 a.0 a.1 in let z = many_shrinks full (first g) (run p g) (λ s' x e'. (run_shrinks p h g s' x e').0) (length a.0.1) 1 a.0.1 d.0 d.1 in
            rw (← same) (omega (arith, y, z)),
      )
  passes w b0 (after_token q m) fine safe s at b = (
    λ n e y. elim (bind_err (token_at q s) (λ t. p m t.1 >>= λ d. Ok ((t.0, d.0), d.1)) n e) [
      | inl u ↦ absurd (token_passes q s b n u)
      | inr a ↦ elim (bind_err (p m a.0.1) (λ d. Ok ((a.0.0, d.0), d.1)) n a.2) [
        | inl v ↦ let t = ap (λ (y : List Token). length y) (token_ok q s a.0 a.1).0 in let x = l m a.0.1 n v in omega (arith, t, x)
        | inr v ↦ absurd (Ok≢Err _ n v.2)
      ]
    ],
    λ x e. (run_shrinks p h (after_token q m) s x e).1 refl,
  )

-- if only the fault Syntax counts, each production is safe
pub safe_true : {N : Type 0} {Tree : N → Type 0} (b0 : Terminal → Bool) {A : Type 0} (g : Production N Tree A) → is_safe true b0 g ≡ true
safe_true b0 (one_of q) = refl
safe_true b0 (checked q good d) = refl
safe_true b0 (seq g k) = and_from (is_safe true b0 g) (is_safe true b0 k) (safe_true b0 g) (safe_true b0 k)
safe_true b0 (map f g) = safe_true b0 g
safe_true b0 (alt g k) = and_from (is_safe true b0 g) (is_safe true b0 k) (safe_true b0 g) (safe_true b0 k)
safe_true b0 (pick q g k) = and_from (is_safe true b0 g) (is_safe true b0 k) (safe_true b0 g) (safe_true b0 k)
safe_true b0 (opt g) = safe_true b0 g
safe_true b0 (star full g) = and_from (is_safe true b0 g) true (safe_true b0 g) refl
safe_true b0 (after_token q n) = refl
safe_true b0 (limited l d g) = safe_true b0 g
