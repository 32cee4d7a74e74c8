-- Reading returns what a production derives if the next token does not continue it.
use Rattle.std.proofs.Common.{◌≡◌, ℕ, suc, ◌≤◌, arith, Bool, true, false, cond, List, [], ◌∷◌, length, Ok, Err, refl, inl, inr, ap, ◌∙◌}
use Rattle.std.specs.Prelude.{Option, Some, None, ◌-◌, nat_lt, ◌&&◌, ◌||◌, not}
use Rattle.std.proofs.lemmas.Bool.{and_parts, and_from, not-true, both_ways, cases_Bool, cond-true, cond-false, ltb-true}
use Rattle.std.specs.Option.{option_or}
use Rattle.grammar_core.specs.Terminals.{Terminal}
use Rattle.grammar_core.specs.declared.token.Token.{Token}
use Rattle.grammar_core.specs.declared.code.Code.{Code}
use Rattle.grammar_core.specs.Terminals.{terminal_of, are_disjoint, is_within}
use Rattle.grammar_core.specs.Production.{Production, one_of, checked, seq, map, alt, opt, star, pick, after_token, limited, Language, Fault}
use Rattle.grammar_core.specs.Production.{then_fault, at_start, bad_unless, cut_at, taken, IsOne, Many, Derives}
use Rattle.grammar_core.specs.Reading.{◌>>=◌, Read, refuse, check, judge, may_be_empty, first, starts, picks, token_at, many_at, run, fault_from_end}
use Rattle.grammar_core.specs.Predictive.{Claims, continuing, alone, second, both_first, is_fine}
use Rattle.grammar_core.proofs.Sets.{starts_disjoint, starts_into}
use Rattle.grammar_core.proofs.Begins.{stop_left, stop_right, stop_and, begins, surely_begins, many_begins, seconds}
use Rattle.grammar_core.proofs.Fuel.{Shrinks, Consumes, run_shrinks, many_is}

token_is : (q : Terminal → Bool) (s : List Token) (x : Token) (r : List Token) → IsOne q s x r → token_at q s ≡ Ok (x, r)
token_is q s x r h = rw (h.0, h.1) refl

-- which of two productions is next
pick_left : (a b q : Terminal → Bool) (x : Token) (s : List Token) → a (terminal_of x) ≡ true
    → (b (terminal_of x) ≡ true → starts q s ≡ true) → picks a b q (x ∷ s) ≡ true
pick_left a b q x s ax h =
    elim (cases_Bool (b (terminal_of x))) [
      | inl t ↦ cond-true (b (terminal_of x)) _ _ t ∙ and_from (a (terminal_of x)) (starts q s) ax (h t)
      | inr f ↦ cond-false (b (terminal_of x)) _ _ f ∙ ax
    ]

pick_right : (a b q : Terminal → Bool) (x : Token) (s : List Token) → b (terminal_of x) ≡ true
    → (a (terminal_of x) ≡ true → starts q s ≡ false) → picks a b q (x ∷ s) ≡ false
pick_right a b q x s bx h =
    elim (cases_Bool (a (terminal_of x))) [
      | inl t ↦ cond-true (b (terminal_of x)) _ _ bx ∙ (rw (t, h t) refl)
      | inr f ↦ cond-true (b (terminal_of x)) _ _ bx ∙ (rw f refl)
    ]

head_tail : (q : Terminal → Bool) (s : List Token) → starts q s ≡ true → (x : Token) × (m : List Token) × (s ≡ x ∷ m) × (q (terminal_of x) ≡ true)
head_tail q [] h = absurd cc
head_tail q (x ∷ m) h = (x, m, refl, h)

-- ---- what reading returns for a text with this first fault

abbrev pub outcome : {A : Type 0} → List Token → A → Fault → List Token → Read A
outcome s t None r = Ok (t, r)
outcome s t (Some f) r = Err (fault_from_end (length s - f.0) f.1)

abbrev pub InText : Fault → ℕ → Type 0
InText None n = Unit {0}
InText (Some f) n = f.0 ≤ n

-- a text is within the tokens, and its fault, if it has one, is within the text
abbrev pub Fits : List Token → Fault → List Token → Type 0
Fits s o r = (length r ≤ length s) × InText o (taken s r)

fits_then : (s m r : List Token) (x y : Fault) → Fits s x m → Fits m y r → Fits s (then_fault x (taken s m) y) r
fits_then s m r None None a b = (omega (arith, a.0, b.0), tt)
fits_then s m r None (Some f) a b = (omega (arith, a.0, b.0), omega (arith, a.0, b.0, b.1))
fits_then s m r (Some f) y a b = (omega (arith, a.0, b.0), omega (arith, a.0, b.0, a.1))

fits_start : (d : Option Code) (s m : List Token) (x : Fault) → Fits s x m → Fits s (option_or (at_start d) x) m
fits_start None s m x a = a
fits_start (Some c) s m x a = (a.0, omega arith)

fits_cut : (l : ℕ) (c : Code) (s r : List Token) (x : Fault) → Fits s x r → Fits s (cut_at l c (taken s r) x) r
fits_cut l c s r None a = (a.0, go (nat_lt l (taken s r)) refl)
  where
    go : (b : Bool) → nat_lt l (taken s r) ≡ b → InText (cond b (Some (l, c)) None) (taken s r)
    go true e = let k = ltb-true l (taken s r) e in omega (arith, k)
    go false e = tt
fits_cut l c s r (Some f) a = (a.0, go (nat_lt l f.0) refl)
  where
    go : (b : Bool) → nat_lt l f.0 ≡ b → InText (cond b (Some (l, c)) (Some f)) (taken s r)
    go true e = let k = ltb-true l f.0 e in omega (arith, k, a.1)
    go false e = a.1

many_fits : {A : Type 0} (full : ℕ → Option Code) (G : Language A)
    → ((s : List Token) (t : A) (o : Fault) (r : List Token) → G s t o r → Fits s o r)
    → (i : ℕ) (ts : List A) (s : List Token) (o : Fault) (r : List Token) → Many full G i s ts o r → Fits s o r
many_fits full G f i [] s o r h = rw (h.0, h.1) (omega arith, tt)
many_fits full G f i (t ∷ ts) s o r h =
    rw h.5 (fits_then s h.0 r (option_or (at_start (full i)) h.1) h.2
    (fits_start (full i) s h.0 h.1 (f s t h.1 h.0 h.3)) (many_fits full G f (suc i) ts h.0 h.2 r h.4))

pub fits : {N : Type 0} {Tree : N → Type 0} (R : (n : N) → Language (Tree n))
    → ((n : N) (s : List Token) (t : Tree n) (o : Fault) (r : List Token) → R n s t o r → Fits s o r)
    → {A : Type 0} (g : Production N Tree A) (s : List Token) (t : A) (o : Fault) (r : List Token)
    → Derives R g s t o r → Fits s o r
fits R hR (one_of q) s t o r h = rw (h.0.0, h.1) (omega arith, tt)
fits R hR (checked q good c) s t o r h = rw (h.0.0, h.1) (omega arith, go (good t))
  where
    go : (b : Bool) → InText (bad_unless b c) (suc (length r) - length r)
    go true = tt
    go false = omega arith
fits R hR (seq g k) s t o r h = rw h.5 (fits_then s h.0 r h.1 h.2 (fits R hR g s t.0 h.1 h.0 h.3) (fits R hR k h.0 t.1 h.2 r h.4))
fits R hR (map f g) s t o r h = fits R hR g s h.0 o r h.1
fits R hR (alt g k) s t o r h = elim h [ inl u ↦ fits R hR g s t o r u | inr u ↦ fits R hR k s t o r u ]
fits R hR (pick q g k) s t o r h = elim h [ inl u ↦ fits R hR g s t o r u | inr u ↦ fits R hR k s t o r u ]
fits R hR (opt g) s None o r h = rw (h.0, h.1) (omega arith, tt)
fits R hR (opt g) s (Some t) o r h = fits R hR g s t o r h
fits R hR (star full g) s t o r h = many_fits full (Derives R g) (fits R hR g) 0 t s o r h
fits R hR (after_token q n) s t o r h =
    let one : Fits s None h.0 = rw h.2.0 (omega arith, tt) in
    let k : taken s h.0 ≡ 1 = rw h.2.0 (omega arith) in
    let both = fits_then s h.0 r None h.1 one (hR n h.0 t.1 h.1 r h.3) in
    rw (h.4, ← k) both
fits R hR (limited l c g) s t o r h = rw h.2 (fits_cut (l.at s) c s r h.0 (fits R hR g s t h.0 r h.1))

-- reading two productions, one after the other
then_outcome : {A B C : Type 0} (f : A → B → C) (q : List Token → Read B) (s m r : List Token) (a : A) (b : B)
    (x y : Fault) → length m ≤ length s → q m ≡ outcome m b y r
    → (outcome s a x m >>= λ u. q u.1 >>= λ v. Ok (f u.0 v.0, v.1))
    ≡ outcome s (f a b) (then_fault x (taken s m) y) r
then_outcome f q s m r a b (Some d) y le e = refl
then_outcome f q s m r a b None None le e = rw e refl
then_outcome f q s m r a b None (Some d) le e = rw e (ap (λ (n : ℕ). Err (fault_from_end n d.1)) (omega arith))

map_outcome : {A B : Type 0} (f : A → B) (s : List Token) (a : A) (o : Fault) (r : List Token)
    → (outcome s a o r >>= λ u. Ok (f u.0, u.1)) ≡ outcome s (f a) o r
map_outcome f s a None r = refl
map_outcome f s a (Some d) r = refl

refuse_outcome : {A : Type 0} (d : Option Code) (s : List Token) (t : A) (read : Read A) (x : Fault)
    (m : List Token) (y : Fault) (r : List Token) → read ≡ outcome s t (then_fault x (taken s m) y) r
    → refuse d s read ≡ outcome s t (then_fault (option_or (at_start d) x) (taken s m) y) r
refuse_outcome None s t read x m y r e = e
refuse_outcome (Some c) s t read x m y r e = ap (λ (n : ℕ). Err (fault_from_end n c)) (omega arith)

check_outcome : (good : Token → Bool) (c : Code) (s : List Token) (t : Token) (r : List Token) → check good c s (t, r) ≡ outcome s t (bad_unless (good t) c) r
check_outcome good c s t r = go (good t)
  where
    go : (b : Bool) → cond {A = Read Token} b (Ok (t, r)) (Err (fault_from_end (length s) c)) ≡ outcome s t (bad_unless b c) r
    go true = refl
    go false = ap (λ (n : ℕ). Err (fault_from_end n c)) (omega arith)

judge_outcome : {A : Type 0} (l : ℕ) (c : Code) (s : List Token) (t : A) (x : Fault) (r : List Token) → Fits s x r
    → judge l c s (outcome s t x r) ≡ outcome s t (cut_at l c (taken s r) x) r
judge_outcome {A} l c s t None r a = go (nat_lt l (taken s r))
  where
    go : (b : Bool) → cond {A = Read A} b (Err (fault_from_end (length s - l) c)) (Ok (t, r)) ≡ outcome s t (cond b (Some (l, c)) None) r
    go true = refl
    go false = refl
judge_outcome {A} l c s t (Some f) r a =
    let back : length s - (length s - f.0) ≡ f.0 = omega (arith, a.0, a.1) in
    ap (λ (n : ℕ). cond {A = Read A} (nat_lt l n) (Err (fault_from_end (length s - l) c)) (Err (fault_from_end (length s - f.0) f.1))) back ∙ go (nat_lt l f.0)
  where
    go : (b : Bool) → cond {A = Read A} b (Err (fault_from_end (length s - l) c))
        (Err (fault_from_end (length s - f.0) f.1)) ≡ outcome s t (cond b (Some (l, c)) (Some f)) r
    go true = refl
    go false = refl

many_only : {A : Type 0} (full : ℕ → Option Code) (G : Language A) (p : List Token → Read A)
    (f go : Terminal → Bool) → Consumes p
    → ((s : List Token) (t : A) (o : Fault) (r : List Token) → G s t o r → starts f s ≡ true)
    → ((s : List Token) (t : A) (o : Fault) (r : List Token) → G s t o r → Fits s o r)
    → ((s : List Token) (t : A) (o : Fault) (r : List Token) → G s t o r → starts go r ≡ false → p s ≡ outcome s t o r) → are_disjoint go f ≡ true
    → (i : ℕ) (ts : List A) (s : List Token) (o : Fault) (r : List Token) → Many full G i s ts o r
    → starts (λ k. f k || go k) r ≡ false → many_at full f p i (length s) s ≡ outcome s ts o r
many_only full G p f go consumes begin fit only apart i [] s o r h stops =
    many_is full f p consumes i s ∙ rw (h.0, stop_left f go r stops, h.1) refl
many_only full G p f go consumes begin fit only apart i (t ∷ ts) s o r h stops =
    let m = h.0 in
    let rest = many_only full G p f go consumes begin fit only apart (suc i) ts m h.2 r h.4 stops in
    let quiet : starts go m ≡ false = elim
    (many_begins full G f (λ s t o r u. inl (begin s t o r u)) (suc i) ts m h.2 r h.4)
    [ inl u ↦ starts_disjoint go f m apart u | inr u ↦ rw u (stop_right f go r stops) ] in
    let le = (fit s t h.1 m h.3).0 in
    let inside : (p s >>= λ a. many_at full f p (suc i) (length a.1) a.1 >>= λ more. Ok (a.0 ∷ more.0, more.1))
    ≡ outcome s (t ∷ ts) (then_fault h.1 (taken s m) h.2) r =
    ap (λ (u : Read _). u >>= λ a. many_at full f p (suc i) (length a.1) a.1 >>= λ more. Ok (a.0 ∷ more.0, more.1)) (only s t h.1 m h.3 quiet)
    ∙ then_outcome (λ a more. a ∷ more) (λ l. many_at full f p (suc i) (length l) l) s m r t ts h.1 h.2 le rest in
    many_is full f p consumes i s ∙ rw (begin s t h.1 m h.3, h.5) (refuse_outcome (full i) s (t ∷ ts) _ h.1 m h.2 r inside)

one_more : {A : Type 0} (x : Token) (m : List Token) (t : A) (y : Fault) (r : List Token)
    → (outcome m t y r >>= λ b. Ok ((x, b.0), b.1)) ≡ outcome {A = Token × A} (x ∷ m) (x, t) (then_fault None 1 y) r
one_more x m t None r = refl
one_more x m t (Some f) r = ap (λ (n : ℕ). Err (fault_from_end n f.1)) (omega arith)

pub only : {N : Type 0} {Tree : N → Type 0} (c : Claims N) (R : (n : N) → Language (Tree n)) (p : (n : N) → List Token → Read (Tree n))
    → ((n : N) → Shrinks (p n)) → ((n : N) (s : List Token) (t : Tree n) (o : Fault) (r : List Token) → R n s t o r
    → Fits s o r) → ((n : N) (s : List Token) (t : Tree n) (o : Fault) (r : List Token) → R n s t o r
    → starts (c.firsts n) s ≡ true)
    → ((n : N) (s : List Token) (t : Tree n) (o : Fault) (r : List Token) → R n s t o r → starts (c.continues n) r ≡ false → p n s ≡ outcome s t o r)
    → {A : Type 0} (g : Production N Tree A) → is_fine c g ≡ true
    → (s : List Token) (t : A) (o : Fault) (r : List Token) → Derives R g s t o r
    → starts (continuing c g) r ≡ false → run p g s ≡ outcome s t o r
only c R p shrinks fit firsts known (one_of q) fine s t o r h stops = rw (token_is q s t r h.0, h.1) refl
only c R p shrinks fit firsts known (checked q good d) fine s t o r h stops = rw (token_is q s t r h.0, h.1) (check_outcome good d s t r)
only c R p shrinks fit firsts known (limited l d g) fine s t o r h stops =
    rw (only c R p shrinks fit firsts known g fine s t h.0 r h.1 stops, h.2) (judge_outcome (l.at s) d s t h.0 r (fits R fit g s t h.0 r h.1))
only c R p shrinks fit firsts known (seq g k) fine s t o r h stops =
    let f = and_parts (is_fine c g) _ fine in
    let f' = and_parts (is_fine c k) _ f.1 in
    let m = h.0 in
    let over = stop_left (continuing c k) (λ x. may_be_empty k && continuing c g x) r stops in
    let quiet : starts (continuing c g) m ≡ false =
    elim (begins R k m t.1 h.2 r h.4) [
      | inl u ↦ starts_disjoint (continuing c g) (first k) m f'.1 u
      | inr u ↦ rw u.0 (stop_and (may_be_empty k) (continuing c g) r (stop_right (continuing c k) (λ x. may_be_empty k && continuing c g x) r stops) u.1)
    ] in
    let le = (fits R fit g s t.0 h.1 m h.3).0 in
    rw (only c R p shrinks fit firsts known g f.0 s t.0 h.1 m h.3 quiet, h.5)
    (then_outcome (λ a b. (a, b)) (run p k) s m r t.0 t.1 h.1 h.2 le
    (only c R p shrinks fit firsts known k f'.0 m t.1 h.2 r h.4 over))
only c R p shrinks fit firsts known (map f g) fine s t o r h stops =
    rw (only c R p shrinks fit firsts known g fine s h.0 o r h.1 stops, ← h.2) (map_outcome f s h.0 o r)
only c R p shrinks fit firsts known (alt g k) fine s t o r h stops =
    let f = and_parts (is_fine c g) _ fine in
    let f' = and_parts (is_fine c k) _ f.1 in
    let f'' = and_parts (not (may_be_empty g)) _ f'.1 in
    let rest = λ (x : Terminal). continuing c k x || (may_be_empty k && first g x) in
    elim h [
      | inl u ↦ rw (surely_begins R g (not-true (may_be_empty g) f''.0) s t o r u)
          (only c R p shrinks fit firsts known g f.0 s t o r u (stop_left (continuing c g) rest r stops))
      | inr u ↦
          let over = stop_right (continuing c g) rest r stops in
          let other : starts (first g) s ≡ false =
          elim (begins R k s t o r u) [
            | inl v ↦ starts_disjoint (first g) (first k) s f''.1 v
            | inr v ↦ rw v.0 (stop_and (may_be_empty k) (first g) r (stop_right (continuing c k) (λ x. may_be_empty k && first g x) r over) v.1)
          ] in
          rw other (only c R p shrinks fit firsts known k f'.0 s t o r u (stop_left (continuing c k) (λ x. may_be_empty k && first g x) r over))
    ]
only c R p shrinks fit firsts known (pick q g k) fine s t o r h stops =
    let both = both_first g k in
    let f1 = and_parts (is_fine c g) _ fine in
    let f2 = and_parts (is_fine c k) _ f1.1 in
    let f3 = and_parts (not (may_be_empty g)) _ f2.1 in
    let f4 = and_parts (not (may_be_empty k)) _ f3.1 in
    let f5 = and_parts (not (alone both g)) _ f4.1 in
    let f6 = and_parts (not (alone both k)) _ f5.1 in
    let f7 = and_parts (is_within (second c both g) q) _ f6.1 in
    let f8 = and_parts (are_disjoint (second c both k) q) _ f7.1 in
    elim h [
      | inl u ↦
          let b = surely_begins R g (not-true (may_be_empty g) f3.0) s t o r u in
          let ht = head_tail (first g) s b in
          let x = ht.0 in let m = ht.1 in
          let after : first k (terminal_of x) ≡ true → starts q m ≡ true = λ e.
          elim (seconds c R firsts both x m (and_from (first g (terminal_of x)) (first k (terminal_of x)) ht.3 e) g f1.0 s t o r ht.2 u) [
            | inl v ↦ starts_into (second c both g) q m f7.0 v
            | inr (inl v) ↦ absurd (both_ways (alone both g) (not-true (alone both g) f5.0) v.1)
            | inr (inr v) ↦ absurd (both_ways (may_be_empty g) (not-true (may_be_empty g) f3.0) v.1)
          ] in
          let chosen : picks (first g) (first k) q s ≡ true = rw ht.2 (pick_left (first g) (first k) q x m ht.3 after) in
          rw chosen (only c R p shrinks fit firsts known g f1.0 s t o r u (stop_left (continuing c g) (continuing c k) r stops))
      | inr u ↦
          let b = surely_begins R k (not-true (may_be_empty k) f4.0) s t o r u in
          let ht = head_tail (first k) s b in
          let x = ht.0 in let m = ht.1 in
          let after : first g (terminal_of x) ≡ true → starts q m ≡ false = λ e.
          elim (seconds c R firsts both x m (and_from (first g (terminal_of x)) (first k (terminal_of x)) e ht.3) k f2.0 s t o r ht.2 u) [
            | inl v ↦ elim (cases_Bool (starts q m)) [
              | inl w ↦ absurd (both_ways (starts (second c both k) m)
                  (starts_disjoint (second c both k) q m f8.0 w) v)
              | inr w ↦ w
            ]
            | inr (inl v) ↦ absurd (both_ways (alone both k) (not-true (alone both k) f6.0) v.1)
            | inr (inr v) ↦ absurd (both_ways (may_be_empty k) (not-true (may_be_empty k) f4.0) v.1)
          ] in
          let chosen : picks (first g) (first k) q s ≡ false = rw ht.2 (pick_right (first g) (first k) q x m ht.3 after) in
          rw chosen (only c R p shrinks fit firsts known k f2.0 s t o r u (stop_right (continuing c g) (continuing c k) r stops))
    ]
only c R p shrinks fit firsts known (opt g) fine s None o r h stops = rw (h.0, stop_left (first g) (continuing c g) r stops, h.1) refl
only c R p shrinks fit firsts known (opt g) fine s (Some t) o r h stops =
    let f = and_parts (is_fine c g) _ fine in
    rw (
      surely_begins R g (not-true (may_be_empty g) f.1) s t o r h,
      only c R p shrinks fit firsts known g f.0 s t o
          r h (stop_right (first g) (continuing c g) r stops),
    ) (map_outcome Some s t o r)
only c R p shrinks fit firsts known (star full g) fine s t o r h stops =
    let f = and_parts (is_fine c g) _ fine in
    let f' = and_parts (not (may_be_empty g)) _ f.1 in
    let never = not-true (may_be_empty g) f'.0 in
    many_only full (Derives R g) (run p g) (first g) (continuing c g)
    (λ s' x e. (run_shrinks p shrinks g s' x e).1 never) (surely_begins R g never) (fits R fit g)
    (only c R p shrinks fit firsts known g f.0) (and_parts (are_disjoint (continuing c g) (first g)) _ f'.1).0 0
    t s o r h stops
only c R p shrinks fit firsts known (after_token q n) fine s t o r h stops =
    rw (token_is q s t.0 h.0 h.2, h.4, h.2.0)
    (ap (λ (u : Read _). u >>= λ b. Ok ((t.0, b.0), b.1)) (known n h.0 t.1 h.1 r h.3 stops)
    ∙ one_more t.0 h.0 t.1 h.1 r)
