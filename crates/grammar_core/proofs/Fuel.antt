-- The bounds of the recursions of reading are never met.
use Rattle.std.proofs.Common.{◌≡◌, ℕ, zero, suc, ◌<◌, ◌≤◌, Bool, false, cond, List, [], ◌∷◌, length, Result, Ok, Err, refl, inl, inr, arith, ap}
use Rattle.std.specs.Prelude.{Option, Some, None}
use Rattle.std.proofs.lemmas.Bool.{and_cases, or_parts}
use Rattle.grammar_core.specs.declared.fault.ReadFault.{ReadFault}
use Rattle.grammar_core.specs.declared.token.Token.{Token}
use Rattle.grammar_core.specs.declared.code.Code.{Code}
use Rattle.grammar_core.specs.Terminals.{Terminal}
use Rattle.grammar_core.specs.Terminals.{terminal_of}
use Rattle.grammar_core.specs.Production.{Production, one_of, checked, seq, map, alt, opt, star, pick, after_token, limited}
use Rattle.grammar_core.specs.Reading.{◌>>=◌, Read, refuse, check, judge, may_be_empty, first, starts, picks, token_at, many_at, run}
use Rattle.grammar_core.specs.Reading.{nonterminal_within, nonterminal_at}
use Rattle.grammar_core.proofs.ReadCases.{bind_ok, token_ok, refuse_ok, check_ok, judge_ok}
use Rattle.list_lemmas.proofs.Truth.{chosen}
use Rattle.list_lemmas.proofs.Options.{same_Ok}

-- reading leaves no more tokens than there were
abbrev pub Shrinks : {A : Type 0} → (List Token → Read A) → Type 0
Shrinks {A} p = (s : List Token) (x : A × List Token) → p s ≡ Ok x → length x.1 ≤ length s

pub many_shrinks : {A : Type 0} (full : ℕ → Option Code) (q : Terminal → Bool) (p : List Token → Read A) → Shrinks p
    → (n i : ℕ) → Shrinks (many_at full q p i n)
unfolding many_at
many_shrinks full q p h zero i s x e = let same = same_Ok ([], s) x e in rw (← same) (omega arith)
many_shrinks full q p h (suc n) i s x e =
    elim (chosen (starts q s) (refuse (full i) s (p s >>= λ a. many_at full q p (suc i) n a.1 >>= λ more. Ok (a.0 ∷ more.0, more.1))) (Ok ([], s)) (Ok x) e) [
      | inl t ↦
          let go = refuse_ok (full i) s (p s >>= λ a. many_at full q p (suc i) n a.1 >>= λ more. Ok (a.0 ∷ more.0, more.1)) x t.1 in
          let a = bind_ok (p s) (λ a. many_at full q p (suc i) n a.1 >>= λ more. Ok (a.0 ∷ more.0, more.1)) x go.1 in
          let b = bind_ok (many_at full q p (suc i) n a.0.1) (λ more. Ok (a.0.0 ∷ more.0, more.1)) x a.2 in
          let same = same_Ok (a.0.0 ∷ b.0.0, b.0.1) x b.2 in
          let one = h s a.0 a.1 in
          let two = many_shrinks full q p h n (suc i) a.0.1 b.0 b.1 in
          rw (← same) (omega (arith, one, two))
      | inr f ↦ let same = same_Ok ([], s) x f.1 in rw (← same) (omega arith)
    ]

abbrev pub Shorter : Bool → List Token → List Token → Type 0
Shorter empty s r = (length r ≤ length s) × (empty ≡ false → length r < length s)

pub run_shrinks : {N : Type 0} {Tree : N → Type 0} (p : (n : N) → List Token → Read (Tree n))
    → ((n : N) → Shrinks (p n)) → {A : Type 0} (g : Production N Tree A) (s : List Token) (x : A × List Token)
    → run p g s ≡ Ok x → Shorter (may_be_empty g) s x.1
run_shrinks p h (one_of q) s x e = let t = token_ok q s x e in rw t.0 (omega arith, λ _. omega arith)
run_shrinks p h (checked q good c) s x e =
    let a = bind_ok (token_at q s) (check good c s) x e in
    let t = token_ok q s a.0 a.1 in
    let same = (check_ok good c s a.0 x a.2).1 in
    let k = ap (λ (l : List Token). length l) t.0 in
    let l = ap (λ (y : Token × List Token). length y.1) same in
    (omega (arith, k, l), λ _. omega (arith, k, l))
run_shrinks p h (seq g k) s x e =
    let a = bind_ok (run p g s) (λ a. run p k a.1 >>= λ b. Ok ((a.0, b.0), b.1)) x e in
    let b = bind_ok (run p k a.0.1) (λ b. Ok ((a.0.0, b.0), b.1)) x a.2 in
    let same = same_Ok ((a.0.0, b.0.0), b.0.1) x b.2 in
    let one = run_shrinks p h g s a.0 a.1 in
    let two = run_shrinks p h k a.0.1 b.0 b.1 in
    rw (← same) (
      omega (arith, one.0, two.0),
      λ f. elim (and_cases (may_be_empty g) (may_be_empty k) f)
          [ inl u ↦ omega (arith, one.1 u, two.0) | inr u ↦ omega (arith, one.0, two.1 u) ],
    )
run_shrinks p h (map f g) s x e =
    let a = bind_ok (run p g s) (λ a. Ok (f a.0, a.1)) x e in
    let same = same_Ok (f a.0.0, a.0.1) x a.2 in
    rw (← same) (run_shrinks p h g s a.0 a.1)
run_shrinks p h (alt g k) s x e =
    elim (chosen (starts (first g) s) (run p g s) (run p k s) (Ok x) e) [
      | inl t ↦ let one = run_shrinks p h g s x t.1 in (one.0, λ f. one.1 (or_parts (may_be_empty g) (may_be_empty k) f).0)
      | inr t ↦ let one = run_shrinks p h k s x t.1 in (one.0, λ f. one.1 (or_parts (may_be_empty g) (may_be_empty k) f).1)
    ]
run_shrinks p h (pick q g k) s x e =
    elim (chosen (picks (first g) (first k) q s) (run p g s) (run p k s) (Ok x) e) [
      | inl t ↦ let one = run_shrinks p h g s x t.1 in (one.0, λ f. one.1 (or_parts (may_be_empty g) (may_be_empty k) f).0)
      | inr t ↦ let one = run_shrinks p h k s x t.1 in (one.0, λ f. one.1 (or_parts (may_be_empty g) (may_be_empty k) f).1)
    ]
run_shrinks p h (opt g) s x e =
    elim (chosen (starts (first g) s) (run p g s >>= λ a. Ok (Some a.0, a.1)) (Ok (None, s)) (Ok x) e) [
      | inl t ↦
          let a = bind_ok (run p g s) (λ a. Ok (Some a.0, a.1)) x t.1 in
          let same = same_Ok (Some a.0.0, a.0.1) x a.2 in
          rw (← same) ((run_shrinks p h g s a.0 a.1).0, λ f. absurd cc)
      | inr t ↦ let same = same_Ok (None, s) x t.1 in rw (← same) (omega arith, λ f. absurd cc)
    ]
run_shrinks p h (limited l c g) s x e = run_shrinks p h g s x (judge_ok (l.at s) c s (run p g s) x e).0
run_shrinks p h (star full g) s x e = (many_shrinks full (first g) (run p g) (λ s' x' e'. (run_shrinks p h g s' x' e').0) (length s) 0 s x e, λ f. absurd cc)
run_shrinks p h (after_token q n) s x e =
    let a = bind_ok (token_at q s) (λ t. p n t.1 >>= λ b. Ok ((t.0, b.0), b.1)) x e in
    let t = token_ok q s a.0 a.1 in
    let b = bind_ok (p n a.0.1) (λ b. Ok ((a.0.0, b.0), b.1)) x a.2 in
    let same = same_Ok ((a.0.0, b.0.0), b.0.1) x b.2 in
    let one = h n a.0.1 b.0 b.1 in
    let len = ap (λ (l : List Token). length l) t.0 in
    rw (← same) (omega (arith, one, len), λ _. omega (arith, one, len))

bind_same : {A B : Type 0} (r r' : Result A ReadFault) (f f' : A → Result B ReadFault) → r ≡ r' → ((x : A) → r ≡ Ok x → f x ≡ f' x) → (r >>= f) ≡ (r' >>= f')
bind_same (Ok x) r' f f' e h = rw (← e) (h x refl)
bind_same (Err d) r' f f' e h = rw (← e) refl

many_agrees : {A : Type 0} (m : ℕ) (full : ℕ → Option Code) (q : Terminal → Bool) (p p' : List Token → Read A)
    → ((s : List Token) → length s ≤ m → p s ≡ p' s) → Shrinks p → (n i : ℕ) (s : List Token) → length s ≤ m
    → many_at full q p i n s ≡ many_at full q p' i n s
unfolding many_at
many_agrees m full q p p' same h zero i s le = refl
many_agrees m full q p p' same h (suc n) i s le =
    let one : (p s >>= λ a. many_at full q p (suc i) n a.1 >>= λ more. Ok (a.0 ∷ more.0, more.1))
    ≡ (p' s >>= λ a. many_at full q p' (suc i) n a.1 >>= λ more. Ok (a.0 ∷ more.0, more.1)) =
    bind_same (p s) (p' s) _ _ (same s le)
    (λ a e. ap (λ (r : Read _). r >>= λ more. Ok (a.0 ∷ more.0, more.1))
    (many_agrees m full q p p' same h n (suc i) a.1 (omega (arith, h s a e)))) in
    ap (λ (r : Read _). cond (starts q s) (refuse (full i) s r) (Ok ([], s))) one

run_agrees : {N : Type 0} {Tree : N → Type 0} (m : ℕ) (p p' : (n : N) → List Token → Read (Tree n))
    → ((n : N) (s : List Token) → length s < m → p n s ≡ p' n s) → ((n : N) → Shrinks (p n))
    → {A : Type 0} (g : Production N Tree A) (s : List Token) → length s ≤ m → run p g s ≡ run p' g s
run_agrees m p p' same h (one_of q) s le = refl
run_agrees m p p' same h (checked q good c) s le = refl
run_agrees m p p' same h (limited l c g) s le = ap (λ (r : Read _). judge (l.at s) c s r) (run_agrees m p p' same h g s le)
run_agrees m p p' same h (seq g k) s le =
    bind_same (run p g s) (run p' g s) _ _ (run_agrees m p p' same h g s le) (λ a e.
    ap (λ (r : Read _). r >>= λ b. Ok ((a.0, b.0), b.1)) (run_agrees m p p' same h k a.1 (omega (arith, (run_shrinks p h g s a e).0))))
run_agrees m p p' same h (map f g) s le = ap (λ (r : Read _). r >>= λ a. Ok (f a.0, a.1)) (run_agrees m p p' same h g s le)
run_agrees m p p' same h (alt g k) s le = rw (run_agrees m p p' same h g s le, run_agrees m p p' same h k s le) refl
run_agrees m p p' same h (pick q g k) s le = rw (run_agrees m p p' same h g s le, run_agrees m p p' same h k s le) refl
run_agrees m p p' same h (opt g) s le = ap
    (λ (r : Read _). cond (starts (first g) s) (r >>= λ a. Ok (Some a.0, a.1)) (Ok (None, s)))
    (run_agrees m p p' same h g s le)
run_agrees m p p' same h (star full g) s le =
    many_agrees m full (first g) (run p g) (run p' g) (λ s' le'. run_agrees m p p' same h g s' le')
    (λ s' x e. (run_shrinks p h g s' x e).0) (length s) 0 s le
run_agrees m p p' same h (after_token q n) s le =
    bind_same (token_at q s) (token_at q s) (λ x. p n x.1 >>= λ b. Ok ((x.0, b.0), b.1)) (λ x. p' n x.1 >>= λ b. Ok ((x.0, b.0), b.1)) refl (λ x e.
    let t = token_ok q s x e in ap (λ (r : Read _). r >>= λ b. Ok ((x.0, b.0), b.1)) (same n x.1 (omega (arith, ap (λ (l : List Token). length l) t.0))))

pub within_shrinks : {N : Type 0} {Tree : N → Type 0} (body : (n : N) → Production N Tree (Tree n)) (k : ℕ) (n : N) → Shrinks (nonterminal_within body k n)
unfolding nonterminal_within
within_shrinks body zero n s x e = absurd cc
within_shrinks body (suc k) n s x e = (run_shrinks (nonterminal_within body k) (within_shrinks body k) (body n) s x e).0

pub within_is_stable : {N : Type 0} {Tree : N → Type 0} (body : (n : N) → Production N Tree (Tree n)) (k k' : ℕ)
    (n : N) (s : List Token) → length s < k → length s < k'
    → nonterminal_within body k n s ≡ nonterminal_within body k' n s
unfolding nonterminal_within
within_is_stable body zero k' n s lt lt' = absurd (omega arith)
within_is_stable body (suc k) zero n s lt lt' = absurd (omega arith)
within_is_stable body (suc k) (suc k') n s lt lt' =
    run_agrees (length s) (nonterminal_within body k) (nonterminal_within body k')
    (λ n' s' below. within_is_stable body k k' n' s' (omega arith) (omega arith)) (within_shrinks body k)
    (body n) s (omega arith)

-- Reading a nonterminal is reading its production.
pub nonterminal_is : {N : Type 0} {Tree : N → Type 0} (body : (n : N) → Production N Tree (Tree n)) (n : N)
    (s : List Token) → nonterminal_at body n s ≡ run (nonterminal_at body) (body n) s
unfolding nonterminal_at nonterminal_within
nonterminal_is body n s =
    run_agrees (length s) (nonterminal_within body (length s)) (nonterminal_at body)
    (λ n' s' below. within_is_stable body (length s) (suc (length s')) n' s' below (omega arith))
    (within_shrinks body (length s)) (body n) s (omega arith)

pub nonterminal_shrinks : {N : Type 0} {Tree : N → Type 0} (body : (n : N) → Production N Tree (Tree n)) (n : N) → Shrinks (nonterminal_at body n)
unfolding nonterminal_at
nonterminal_shrinks body n s x e = within_shrinks body (suc (length s)) n s x e

abbrev pub Consumes : {A : Type 0} → (List Token → Read A) → Type 0
Consumes {A} p = (s : List Token) (x : A × List Token) → p s ≡ Ok x → length x.1 < length s

many_stable : {A : Type 0} (full : ℕ → Option Code) (q : Terminal → Bool) (p : List Token → Read A) → Consumes p
    → (n n' i : ℕ) (s : List Token) → length s ≤ n → length s ≤ n'
    → many_at full q p i n s ≡ many_at full q p i n' s
unfolding many_at
many_stable full q p h zero zero i s le le' = refl
many_stable full q p h zero (suc n') i [] le le' = refl
many_stable full q p h zero (suc n') i (x ∷ s) le le' = absurd (omega arith)
many_stable full q p h (suc n) zero i [] le le' = refl
many_stable full q p h (suc n) zero i (x ∷ s) le le' = absurd (omega arith)
many_stable full q p h (suc n) (suc n') i s le le' =
    ap (λ (r : Read _). cond (starts q s) (refuse (full i) s r) (Ok ([], s)))
    (bind_same (p s) (p s) _ _ refl (λ a e. ap (λ (r : Read _). r >>= λ more. Ok (a.0 ∷ more.0, more.1))
    (many_stable full q p h n n' (suc i) a.1 (omega (arith, h s a e)) (omega (arith, h s a e)))))

-- Reading a list, one element unfolded.
pub many_is : {A : Type 0} (full : ℕ → Option Code) (q : Terminal → Bool) (p : List Token → Read A) → Consumes p
    → (i : ℕ) (s : List Token) → many_at full q p i (length s) s
    ≡ cond (starts q s) (refuse (full i) s
    (p s >>= λ a. many_at full q p (suc i) (length a.1) a.1 >>= λ more. Ok (a.0 ∷ more.0, more.1))) (Ok ([], s))
unfolding many_at
many_is full q p h i [] = refl
many_is full q p h i (x ∷ s) =
    ap (λ (r : Read _). cond (q (terminal_of x)) (refuse (full i) (x ∷ s) r) (Ok ([], x ∷ s)))
    (bind_same (p (x ∷ s)) (p (x ∷ s)) _ _ refl
    (λ a e. ap (λ (r : Read _). r >>= λ more. Ok (a.0 ∷ more.0, more.1))
    (many_stable full q p h (length s) (length a.1) (suc i) a.1 (omega (arith, h (x ∷ s) a e)) (omega arith))))
