-- Derivations whose nonterminals are derived at any depth have one common depth.
use Rattle.std.proofs.Common.{ℕ, zero, suc, ◌+◌, ◌≤◌, List, [], ◌∷◌, inl, inr, arith}
use Rattle.std.specs.Prelude.{Option, Some, None}
use Rattle.grammar_core.specs.declared.token.Token.{Token}
use Rattle.grammar_core.specs.declared.code.Code.{Code}
use Rattle.grammar_core.specs.Production.{Production, seq, map, alt, opt, star, limited, Fault, Language, Many, Derives}
use Rattle.grammar_core.specs.Production.{DerivedWithin, Derived, one_of, checked, pick, after_token}

abbrev Into : {A : Type 0} → Language A → Language A → Type 0
Into {A = A} G H = (s : List Token) (t : A) (o : Fault) (r : List Token) → G s t o r → H s t o r

many_map : {A : Type 0} (full : ℕ → Option Code) (G H : Language A) → Into G H
    → (i : ℕ) (ts : List A) (s : List Token) (o : Fault) (r : List Token) → Many full G i s ts o r
    → Many full H i s ts o r
many_map full G H f i [] s o r h = h
many_map full G H f i (t ∷ ts) s o r h = (h.0, h.1, h.2, f s t h.1 h.0 h.3, many_map full G H f (suc i) ts h.0 h.2 r h.4, h.5)

derives_map : {N : Type 0} {Tree : N → Type 0} (R R' : (n : N) → Language (Tree n)) → ((n : N) → Into (R n) (R' n))
    → {A : Type 0} (g : Production N Tree A) (s : List Token) (t : A) (o : Fault) (r : List Token) → Derives R g s t o r
    → Derives R' g s t o r
derives_map R R' f (one_of q) s t o r h = h
derives_map R R' f (checked q good c) s t o r h = h
derives_map R R' f (seq g k) s t o r h = (h.0, h.1, h.2, derives_map R R' f g s t.0 h.1 h.0 h.3, derives_map R R' f k h.0 t.1 h.2 r h.4, h.5)
derives_map R R' f (map v g) s t o r h = (h.0, derives_map R R' f g s h.0 o r h.1, h.2)
derives_map R R' f (alt g k) s t o r h = elim h [ inl u ↦ inl (derives_map R R' f g s t o r u) | inr u ↦ inr (derives_map R R' f k s t o r u) ]
derives_map R R' f (pick q g k) s t o r h = elim h [ inl u ↦ inl (derives_map R R' f g s t o r u) | inr u ↦ inr (derives_map R R' f k s t o r u) ]
derives_map R R' f (opt g) s None o r h = h
derives_map R R' f (opt g) s (Some t) o r h = derives_map R R' f g s t o r h
derives_map R R' f (star full g) s t o r h = many_map full (Derives R g) (Derives R' g) (derives_map R R' f g) 0 t s o r h
derives_map R R' f (after_token q n) s t o r h = (h.0, h.1, h.2, f n h.0 t.1 h.1 r h.3, h.4)
derives_map R R' f (limited l c g) s t o r h = (h.0, derives_map R R' f g s t h.0 r h.1, h.2)

module _ {N : Type 0} {Tree : N → Type 0} (body : (n : N) → Production N Tree (Tree n)) where
  deeper : (k j : ℕ) → k ≤ j → (n : N) (s : List Token) (t : Tree n) (o : Fault) (r : List Token)
      → DerivedWithin body k n s t o r → DerivedWithin body j n s t o r
  deeper zero j le n s t o r h = absurd h
  deeper (suc k) zero le n s t o r h = absurd (omega arith)
  deeper (suc k) (suc j) le n s t o r h = derives_map (DerivedWithin body k) (DerivedWithin body j) (deeper k j (omega arith)) (body n) s t o r h

  abbrev pub AtDepth : {A : Type 0} → Production N Tree A → List Token → A → Fault → List Token → Type 0
  AtDepth g s t o r = (k : ℕ) × Derives (DerivedWithin body k) g s t o r

  abbrev pub ManyDepth : {A : Type 0} → (ℕ → Option Code) → Production N Tree A → ℕ → List Token → List A → Fault → List Token → Type 0
  ManyDepth full g i s ts o r = (k : ℕ) × Many full (Derives (DerivedWithin body k) g) i s ts o r

  lift : {A : Type 0} (g : Production N Tree A) (k j : ℕ) → k ≤ j
      → (s : List Token) (t : A) (o : Fault) (r : List Token) → Derives (DerivedWithin body k) g s t o r
      → Derives (DerivedWithin body j) g s t o r
  lift g k j le s t o r h = derives_map (DerivedWithin body k) (DerivedWithin body j) (deeper k j le) g s t o r h

  lift_many : {A : Type 0} (full : ℕ → Option Code) (g : Production N Tree A) (k j : ℕ) → k ≤ j
      → (i : ℕ) (ts : List A) (s : List Token) (o : Fault) (r : List Token)
      → Many full (Derives (DerivedWithin body k) g) i s ts o r
      → Many full (Derives (DerivedWithin body j) g) i s ts o r
  lift_many full g k j le i ts s o r h = many_map full (Derives (DerivedWithin body k) g) (Derives (DerivedWithin body j) g) (lift g k j le) i ts s o r h

  many_depth : {A : Type 0} (full : ℕ → Option Code) (g : Production N Tree A)
      → ((s : List Token) (t : A) (o : Fault) (r : List Token) → Derives (Derived body) g s t o r → AtDepth g s t o r)
      → (i : ℕ) (ts : List A) (s : List Token) (o : Fault) (r : List Token)
      → Many full (Derives (Derived body) g) i s ts o r → ManyDepth full g i s ts o r
  many_depth full g f i [] s o r h = (0, h)
  many_depth full g f i (t ∷ ts) s o r h =
      let a = f s t h.1 h.0 h.3 in
      let b = many_depth full g f (suc i) ts h.0 h.2 r h.4 in (
        a.0 + b.0,
        (
          h.0,
          h.1,
          h.2,
          lift g a.0 (a.0 + b.0) (omega arith) s t h.1 h.0 a.1,
          lift_many full g b.0 (a.0 + b.0)
              (omega arith) (suc i) ts h.0 h.2 r b.1,
          h.5,
        ),
      )

  pub at_depth : {A : Type 0} (g : Production N Tree A) (s : List Token) (t : A) (o : Fault) (r : List Token)
      → Derives (Derived body) g s t o r → AtDepth g s t o r
  at_depth (one_of q) s t o r h = (0, h)
  at_depth (checked q good c) s t o r h = (0, h)
  at_depth (seq g k) s t o r h =
      let a = at_depth g s t.0 h.1 h.0 h.3 in
      let b = at_depth k h.0 t.1 h.2 r h.4 in
      (a.0 + b.0, (h.0, h.1, h.2, lift g a.0 (a.0 + b.0) (omega arith) s t.0 h.1 h.0 a.1, lift k b.0 (a.0 + b.0) (omega arith) h.0 t.1 h.2 r b.1, h.5))
  at_depth (map v g) s t o r h = let a = at_depth g s h.0 o r h.1 in (a.0, (h.0, a.1, h.2))
  at_depth (alt g k) s t o r h = elim h [ inl u ↦ let a = at_depth g s t o r u in (a.0, inl a.1) | inr u ↦ let a = at_depth k s t o r u in (a.0, inr a.1) ]
  at_depth (pick q g k) s t o r h = elim h [ inl u ↦ let a = at_depth g s t o r u in (a.0, inl a.1) | inr u ↦ let a = at_depth k s t o r u in (a.0, inr a.1) ]
  at_depth (opt g) s None o r h = (0, h)
  at_depth (opt g) s (Some t) o r h = at_depth g s t o r h
  at_depth (star full g) s t o r h = many_depth full g (at_depth g) 0 t s o r h
  at_depth (after_token q n) s t o r h = (h.3.depth, (h.0, h.1, h.2, h.3.derives, h.4))
  at_depth (limited l c g) s t o r h = let a = at_depth g s t h.0 r h.1 in (a.0, (h.0, a.1, h.2))

  -- What the production of a nonterminal derives, the nonterminal derives.
  pub named : (n : N) (s : List Token) (t : Tree n) (o : Fault) (r : List Token) → Derives (Derived body) (body n) s t o r → Derived body n s t o r
  named n s t o r h = let a = at_depth (body n) s t o r h in record { depth = suc a.0; derives = a.1 }
