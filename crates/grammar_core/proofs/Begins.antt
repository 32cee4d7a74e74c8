-- What the texts of a production begin with.
use Rattle.std.proofs.Common.{◌≡◌, ℕ, suc, Bool, true, false, List, [], ◌∷◌, refl, ◌⊎◌, inl, inr, sym, ◌∙◌}
use Rattle.std.specs.Prelude.{Option, Some, None, ◌&&◌, ◌||◌, not}
use Rattle.std.proofs.lemmas.Bool.{and_parts, and_from, or_cases, or_parts, or_left, or_right, not-true, both_ways}
use Rattle.grammar_core.specs.Terminals.{Terminal}
use Rattle.grammar_core.specs.declared.token.Token.{Token}
use Rattle.grammar_core.specs.declared.code.Code.{Code}
use Rattle.grammar_core.specs.Terminals.{terminal_of, terminal_count, some_is}
use Rattle.grammar_core.specs.Production.{Production, one_of, checked, seq, map, alt, opt, star, pick, after_token, limited, Language, Fault, IsOne}
use Rattle.grammar_core.specs.Production.{Many, Derives}
use Rattle.grammar_core.specs.Reading.{union, and_if, may_be_empty, first, starts}
use Rattle.grammar_core.specs.Predictive.{Claims, alone, second, is_fine}
use Rattle.grammar_core.proofs.Sets.{some_from}

pub stop_left : (a b : Terminal → Bool) (s : List Token) → starts (λ k. a k || b k) s ≡ false → starts a s ≡ false
stop_left a b [] h = refl
stop_left a b (x ∷ s) h = (or_parts (a (terminal_of x)) (b (terminal_of x)) h).0

pub stop_right : (a b : Terminal → Bool) (s : List Token) → starts (λ k. a k || b k) s ≡ false → starts b s ≡ false
stop_right a b [] h = refl
stop_right a b (x ∷ s) h = (or_parts (a (terminal_of x)) (b (terminal_of x)) h).1

pub stop_and : (t : Bool) (a : Terminal → Bool) (s : List Token) → starts (λ k. t && a k) s ≡ false → t ≡ true → starts a s ≡ false
stop_and t a [] h e = refl
stop_and true a (x ∷ s) h e = h
stop_and false a (x ∷ s) h e = absurd cc

pub start_left : (a b : Terminal → Bool) (s : List Token) → starts a s ≡ true → starts (λ k. a k || b k) s ≡ true
start_left a b [] h = h
start_left a b (x ∷ s) h = or_left (a (terminal_of x)) (b (terminal_of x)) h

pub start_right : (a b : Terminal → Bool) (s : List Token) → starts b s ≡ true → starts (λ k. a k || b k) s ≡ true
start_right a b [] h = h
start_right a b (x ∷ s) h = or_right (a (terminal_of x)) (b (terminal_of x)) h

pub start_and : (t : Bool) (a : Terminal → Bool) (s : List Token) → t ≡ true → starts a s ≡ true → starts (λ k. t && a k) s ≡ true
start_and t a [] e h = h
start_and t a (x ∷ s) e h = and_from t (a (terminal_of x)) e h

pub and_if_left : (e : Bool) (a b : Terminal → Bool) (s : List Token) → starts a s ≡ true → starts (and_if e a b) s ≡ true
and_if_left true a b s h = start_left a b s h
and_if_left false a b s h = h

pub and_if_right : (e : Bool) (a b : Terminal → Bool) (s : List Token) → e ≡ true → starts b s ≡ true → starts (and_if e a b) s ≡ true
and_if_right true a b s e h = start_right a b s h
and_if_right false a b s e h = absurd cc

pub and_if_stop : (e : Bool) (a b : Terminal → Bool) (s : List Token) → starts (and_if e a b) s ≡ false → (starts a s ≡ false) × (e ≡ true → starts b s ≡ false)
and_if_stop true a b s h = (stop_left a b s h, λ _. stop_right a b s h)
and_if_stop false a b s h = (h, λ e. absurd cc)

pub start_cases : (a b : Terminal → Bool) (s : List Token) → starts (union a b) s ≡ true → (starts a s ≡ true) ⊎ (starts b s ≡ true)
start_cases a b [] e = absurd cc
start_cases a b (x ∷ s) e = or_cases (a (terminal_of x)) (b (terminal_of x)) e

pub and_if_cases : (e : Bool) (a b : Terminal → Bool) (s : List Token) → starts (and_if e a b) s ≡ true
    → (starts a s ≡ true) ⊎ ((e ≡ true) × (starts b s ≡ true))
and_if_cases true a b s h = elim (start_cases a b s h) [ inl u ↦ inl u | inr u ↦ inr (refl, u) ]
and_if_cases false a b s h = inl h

pub one_starts : (q : Terminal → Bool) (s : List Token) (x : Token) (r : List Token) → IsOne q s x r → starts q s ≡ true
one_starts q s x r h = rw h.0 h.1

pub many_begins : {A : Type 0} (full : ℕ → Option Code) (G : Language A) (f : Terminal → Bool)
    → ((s : List Token) (t : A) (o : Fault) (r : List Token) → G s t o r → (starts f s ≡ true) ⊎ (s ≡ r))
    → (i : ℕ) (ts : List A) (s : List Token) (o : Fault) (r : List Token) → Many full G i s ts o r
    → (starts f s ≡ true) ⊎ (s ≡ r)
many_begins full G f h i [] s o r m = inr m.0
many_begins full G f h i (t ∷ ts) s o r m =
    elim (h s t m.1 m.0 m.3) [
      | inl u ↦ inl u
      | inr e ↦ elim (many_begins full G f h (suc i) ts m.0 m.2 r m.4) [ inl u ↦ inl (rw e u) | inr u ↦ inr (e ∙ u) ]
    ]

-- A text begins with a token of the first set, or is empty.
pub begins : {N : Type 0} {Tree : N → Type 0} (R : (n : N) → Language (Tree n)) {A : Type 0}
    (g : Production N Tree A) (s : List Token) (t : A) (o : Fault) (r : List Token) → Derives R g s t o r
    → (starts (first g) s ≡ true) ⊎ ((s ≡ r) × (may_be_empty g ≡ true))
begins R (one_of q) s t o r h = inl (one_starts q s t r h.0)
begins R (checked q good c) s t o r h = inl (one_starts q s t r h.0)
begins R (seq g k) s t o r h =
    elim (begins R g s t.0 h.1 h.0 h.3) [
      | inl e ↦ inl (and_if_left (may_be_empty g) (first g) (first k) s e)
      | inr e ↦ elim (begins R k h.0 t.1 h.2 r h.4) [
        | inl u ↦ inl (and_if_right (may_be_empty g) (first g) (first k) s e.1 (rw e.0 u))
        | inr u ↦ inr (e.0 ∙ u.0, and_from (may_be_empty g) (may_be_empty k) e.1 u.1)
      ]
    ]
begins R (map f g) s t o r h = begins R g s h.0 o r h.1
begins R (alt g k) s t o r h =
    elim h [
      | inl u ↦ elim (begins R g s t o r u) [
        | inl e ↦ inl (start_left (first g) (first k) s e)
        | inr e ↦
            inr (e.0, or_left (may_be_empty g) (may_be_empty k) e.1)
      ]
      | inr u ↦ elim (begins R k s t o r u) [
        | inl e ↦ inl (start_right (first g) (first k) s e)
        | inr e ↦
            inr (e.0, or_right (may_be_empty g) (may_be_empty k) e.1)
      ]
    ]
begins R (pick q g k) s t o r h =
    elim h [
      | inl u ↦ elim (begins R g s t o r u) [
        | inl e ↦ inl (start_left (first g) (first k) s e)
        | inr e ↦
            inr (e.0, or_left (may_be_empty g) (may_be_empty k) e.1)
      ]
      | inr u ↦ elim (begins R k s t o r u) [
        | inl e ↦ inl (start_right (first g) (first k) s e)
        | inr e ↦
            inr (e.0, or_right (may_be_empty g) (may_be_empty k) e.1)
      ]
    ]
begins R (opt g) s None o r h = inr (h.0, refl)
begins R (opt g) s (Some t) o r h = elim (begins R g s t o r h) [ inl e ↦ inl e | inr e ↦ inr (e.0, refl) ]
begins R (star full g) s ts o r h =
    elim (many_begins full (Derives R g) (first g)
    (λ s t o r u. elim (begins R g s t o r u) [ inl e ↦ inl e | inr e ↦ inr e.0 ]) 0 ts s o r h)
    [ inl u ↦ inl u | inr u ↦ inr (u, refl) ]
begins R (after_token q n) s t o r h = inl (one_starts q s t.0 h.0 h.2)
begins R (limited l c g) s t o r h = begins R g s t h.0 r h.1

-- A text of a production that is never empty begins with a token of the first set.
pub surely_begins : {N : Type 0} {Tree : N → Type 0} (R : (n : N) → Language (Tree n)) {A : Type 0}
    (g : Production N Tree A) → may_be_empty g ≡ false → (s : List Token) (t : A) (o : Fault) (r : List Token)
    → Derives R g s t o r → starts (first g) s ≡ true
surely_begins R g e s t o r h = elim (begins R g s t o r h) [ inl u ↦ u | inr u ↦ absurd (both_ways (may_be_empty g) e u.1) ]

abbrev Seconds : {N : Type 0} {Tree : N → Type 0} → Claims N → (Terminal → Bool) → {A : Type 0}
    → Production N Tree A → List Token → List Token → List Token → Type 0
Seconds c a g s0 s r = (starts (second c a g) s ≡ true) ⊎ (((s ≡ r) × (alone a g ≡ true)) ⊎ ((s0 ≡ r) × (may_be_empty g ≡ true)))

tail_same : (x y : Token) (s t : List Token) → x ∷ s ≡ y ∷ t → (x ≡ y) × (s ≡ t)
tail_same x y s t e = (cc, cc)

-- What may be second in a text whose first token is in a set.
pub seconds : {N : Type 0} {Tree : N → Type 0} (c : Claims N) (R : (n : N) → Language (Tree n))
    → ((n : N) (s : List Token) (t : Tree n) (o : Fault) (r : List Token) → R n s t o r
    → starts (c.firsts n) s ≡ true)
    → (a : Terminal → Bool) (x : Token) (s : List Token) → a (terminal_of x) ≡ true
    → {A : Type 0} (g : Production N Tree A) → is_fine c g ≡ true
    → (s0 : List Token) (t : A) (o : Fault) (r : List Token) → s0 ≡ x ∷ s → Derives R g s0 t o r
    → Seconds c a g s0 s r
seconds c R hR a x s ax (one_of q) fine s0 t o r e h =
    let same = tail_same x t s r (sym e ∙ h.0.0) in
    inr (inl (same.1, some_from (λ k. a k && q k) x (and_from (a (terminal_of x)) (q (terminal_of x)) ax (rw same.0 h.0.1))))
seconds c R hR a x s ax (checked q good d) fine s0 t o r e h =
    let same = tail_same x t s r (sym e ∙ h.0.0) in
    inr (inl (same.1, some_from (λ k. a k && q k) x (and_from (a (terminal_of x)) (q (terminal_of x)) ax (rw same.0 h.0.1))))
seconds c R hR a x s ax (limited l d g) fine s0 t o r e h = seconds c R hR a x s ax g fine s0 t h.0 r e h.1
seconds c R hR a x s ax (seq g k) fine s0 t o r e h =
    let f = and_parts (is_fine c g) _ fine in
    let f' = and_parts (is_fine c k) _ f.1 in
    let S1 = second c a g in let S2 = λ (y : Terminal). alone a g && first k y in let S3 = λ (y : Terminal). may_be_empty g && second c a k y in
    elim (seconds c R hR a x s ax g f.0 s0 t.0 h.1 h.0 e h.3) [
      | inl u ↦ inl (start_left S1 (λ y. S2 y || S3 y) s u)
      | inr (inl u) ↦ elim (begins R k h.0 t.1 h.2 r h.4) [
        | inl v ↦ inl (start_right S1 (λ y. S2 y || S3 y) s (start_left S2 S3 s (start_and (alone a g) (first k) s u.1 (rw u.0 v))))
        | inr v ↦ inr (inl (u.0 ∙ v.0, or_left _ _ (and_from (alone a g) (may_be_empty k) u.1 v.1)))
      ]
      | inr (inr u) ↦ elim (seconds c R hR a x s ax k f'.0 h.0 t.1 h.2 r (sym u.0 ∙ e) h.4) [
        | inl v ↦ inl (start_right S1 (λ y. S2 y || S3 y) s (start_right S2 S3 s (start_and (may_be_empty g) (second c a k) s u.1 v)))
        | inr (inl v) ↦ inr (inl (v.0, or_right _ _ (and_from (may_be_empty g) (alone a k) u.1 v.1)))
        | inr (inr v) ↦ inr (inr (u.0 ∙ v.0, and_from (may_be_empty g) (may_be_empty k) u.1 v.1))
      ]
    ]
seconds c R hR a x s ax (map f g) fine s0 t o r e h = seconds c R hR a x s ax g fine s0 h.0 o r e h.1
seconds c R hR a x s ax (alt g k) fine s0 t o r e h =
    let f = and_parts (is_fine c g) _ fine in
    let f' = and_parts (is_fine c k) _ f.1 in
    elim h [
      | inl w ↦ elim (seconds c R hR a x s ax g f.0 s0 t o r e w) [
        | inl u ↦ inl (start_left (second c a g) (second c a k) s u)
        | inr (inl u) ↦ inr (inl (u.0, or_left _ _ u.1))
        | inr (inr u) ↦ inr (inr (u.0, or_left _ _ u.1))
      ]
      | inr w ↦ elim (seconds c R hR a x s ax k f'.0 s0 t o r e w) [
        | inl u ↦ inl (start_right (second c a g) (second c a k) s u)
        | inr (inl u) ↦ inr (inl (u.0, or_right _ _ u.1))
        | inr (inr u) ↦ inr (inr (u.0, or_right _ _ u.1))
      ]
    ]
seconds c R hR a x s ax (pick q g k) fine s0 t o r e h =
    let f = and_parts (is_fine c g) _ fine in
    let f' = and_parts (is_fine c k) _ f.1 in
    elim h [
      | inl w ↦ elim (seconds c R hR a x s ax g f.0 s0 t o r e w) [
        | inl u ↦ inl (start_left (second c a g) (second c a k) s u)
        | inr (inl u) ↦ inr (inl (u.0, or_left _ _ u.1))
        | inr (inr u) ↦ inr (inr (u.0, or_left _ _ u.1))
      ]
      | inr w ↦ elim (seconds c R hR a x s ax k f'.0 s0 t o r e w) [
        | inl u ↦ inl (start_right (second c a g) (second c a k) s u)
        | inr (inl u) ↦ inr (inl (u.0, or_right _ _ u.1))
        | inr (inr u) ↦ inr (inr (u.0, or_right _ _ u.1))
      ]
    ]
seconds c R hR a x s ax (opt g) fine s0 None o r e h = inr (inr (h.0, refl))
seconds c R hR a x s ax (opt g) fine s0 (Some t) o r e h =
    elim (seconds c R hR a x s ax g (and_parts (is_fine c g) _ fine).0 s0 t o r e h)
    [ inl u ↦ inl u | inr (inl u) ↦ inr (inl u) | inr (inr u) ↦ inr (inr (u.0, refl)) ]
seconds c R hR a x s ax (star full g) fine s0 [] o r e h = inr (inr (h.0, refl))
seconds c R hR a x s ax (star full g) fine s0 (t ∷ ts) o r e h =
    let f = and_parts (is_fine c g) _ fine in
    let f' = and_parts (not (may_be_empty g)) _ f.1 in
    let never = not-true (may_be_empty g) f'.0 in
    elim (seconds c R hR a x s ax g f.0 s0 t h.1 h.0 e h.3) [
      | inl u ↦ inl (start_left (second c a g) (λ y. alone a g && first g y) s u)
      | inr (inl u) ↦ elim (many_begins full (Derives R g) (first g) (λ s t o r u. inl (surely_begins R g never s t o r u)) 1 ts h.0 h.2 r h.4) [
        | inl v ↦ inl (start_right (second c a g) (λ y. alone a g && first g y) s (start_and (alone a g) (first g) s u.1 (rw u.0 v)))
        | inr v ↦ inr (inl (u.0 ∙ v, u.1))
      ]
      | inr (inr u) ↦ absurd (both_ways (may_be_empty g) never u.1)
    ]
seconds c R hR a x s ax (after_token q n) fine s0 t o r e h =
    let same = tail_same x t.0 s h.0 (sym e ∙ h.2.0) in
    inl (start_and (some_is (λ y. a y && q y) terminal_count) (c.firsts n) s
    (some_from (λ y. a y && q y) x (and_from (a (terminal_of x)) (q (terminal_of x)) ax (rw same.0 h.2.1)))
    (rw same.1 (hR n h.0 t.1 h.1 r h.3)))
