-- The steps of reading that a loop of the code takes, for every grammar.
use Rattle.std.proofs.Common.{◌≡◌, ℕ, suc, ◌<◌, ◌≤◌, Bool, true, false, cond, List, [], ◌∷◌, ◌++◌, length, Result, Ok, Err, refl, sym, ap, ◌∙◌, append_assoc}
use Rattle.std.specs.Prelude.{Option, Some, None}
use Rattle.std.proofs.lemmas.List.{append-nil}
use Rattle.grammar_core.specs.declared.fault.ReadFault.{ReadFault}
use Rattle.grammar_core.specs.declared.token.Token.{Token}
use Rattle.grammar_core.specs.Terminals.{Terminal}
use Rattle.grammar_core.specs.declared.code.Code.{Code}
use Rattle.ptg_base.specs.declared.refusal.Refusal.TheVariants as errors
use Rattle.ptg_base.specs.Returns.{ReturnsRefusal}
use Rattle.grammar_core.specs.Production.{Production, seq, map, opt, star}
use Rattle.grammar_core.specs.Reading.{◌>>=◌, Read, may_be_empty, first, starts, refuse, many_at, nonterminal_at, reading, fault_from_end}
use Rattle.grammar_core.specs.Refusing.{ReadRefusal}
use Rattle.grammar_core.proofs.Fuel.{nonterminal_shrinks, run_shrinks, many_is}

-- ---- sequences

abbrev pub pair_with : {A B : Type 0} → A → B × List Token → Read (A × B)
pair_with a b = Ok ((a, b.0), b.1)

abbrev pub applied : {A B : Type 0} → (A → B) → A × List Token → Read B
applied f x = Ok (f x.0, x.1)

pub regroup : {A B C : Type 0} (r : Read A) (q : List Token → Read B) (f : A × B → C)
    → ((r >>= λ a. q a.1 >>= pair_with a.0) >>= applied f) ≡ (r >>= λ a. q a.1 >>= applied (λ b. f (a.0, b)))
regroup {A} {B} {C} (Ok a) q f = go (q a.1)
  where
    go : (b : Read B) → ((b >>= pair_with a.0) >>= applied f) ≡ (b >>= applied (λ b. f (a.0, b)))
    go (Ok b) = refl
    go (Err e) = refl
regroup (Err e) q f = refl

pub fails_before : {A B : Type 0} (e : ReadRefusal) (r : Result A ReadFault) (f : A → Result B ReadFault) → ReturnsRefusal e r → ReturnsRefusal e (r >>= f)
fails_before errors.OutOfMemory r f h = tt
fails_before (errors.Fault x) r f h = rw h refl

-- an optional part, and a function of both trees
with_option : {A B C : Type 0} (b : Bool) (r : Read A) (t : List Token) (w : B) (f : B × Option A → C)
    → ((cond b (r >>= applied Some) (Ok (None, t))) >>= applied (λ (x : Option A). f (w, x)))
    ≡ cond b (r >>= applied (λ (x : A). f (w, Some x))) (Ok (f (w, None), t))
with_option true (Ok x) t w f = refl
with_option true (Err e) t w f = refl
with_option false r t w f = refl

-- the elements that were read, followed by those that are still to be read
unfoldable pub so_far : {A : Type 0} → List A → Read (List A) → Read (List A)
so_far front read = read >>= applied (λ xs. front ++ xs)

so_far_nothing : {A : Type 0} (r : Read (List A)) → so_far [] r ≡ r
unfolding so_far
so_far_nothing (Ok x) = refl
so_far_nothing (Err e) = refl

-- one more element was read
one_more : {A : Type 0} (front : List A) (x : A) (r : Read (List A)) → so_far front (r >>= applied (λ (more : List A). x ∷ more)) ≡ so_far (front ++ x ∷ []) r
unfolding so_far
one_more {A} front x (Ok y) = ap (λ (l : List A). Ok (l, y.1)) (sym (append_assoc front (x ∷ []) y.0))
one_more front x (Err d) = refl

module _ {N : Type 0} {Tree : N → Type 0} (body : (n : N) → Production N Tree (Tree n)) where
  -- reading leaves no more tokens than there were
  pub reading_shrinks : {A : Type 0} (g : Production N Tree A) (s : List Token) (t : A) (r : List Token) → reading body g s ≡ Ok (t, r) → length r ≤ length s
  reading_shrinks g s t r e = (run_shrinks (nonterminal_at body) (nonterminal_shrinks body) g s (t, r) e).0

  -- and fewer if a text of the production is never empty
  pub reading_consumes : {A : Type 0} (g : Production N Tree A) → may_be_empty g ≡ false
      → (s : List Token) (t : A) (r : List Token) → reading body g s ≡ Ok (t, r) → length r < length s
  reading_consumes g full s t r e = (run_shrinks (nonterminal_at body) (nonterminal_shrinks body) g s (t, r) e).1 full

  -- a production and an optional one after it
  pub followed_reads : {A B C : Type 0} (g : Production N Tree B) (h : Production N Tree A) (f : B × Option A → C) (s : List Token)
      → reading body (map f (seq g (opt h))) s
      ≡ (reading body g s >>= λ a. cond (starts (first h) a.1)
      (reading body h a.1 >>= applied (λ x. f (a.0, Some x))) (Ok (f (a.0, None), a.1)))
  followed_reads {A} {B} {C} g h f s = regroup (reading body g s) (reading body (opt h)) f ∙ go (reading body g s)
    where
      go : (r : Read B) → (r >>= λ a. cond (starts (first h) a.1) (reading body h a.1 >>= applied Some) (Ok (None, a.1)) >>= applied (λ x. f (a.0, x)))
          ≡ (r >>= λ a. cond (starts (first h) a.1) (reading body h a.1 >>= applied (λ x. f (a.0, Some x))) (Ok (f (a.0, None), a.1)))
      go (Ok a) = with_option (starts (first h) a.1) (reading body h a.1) a.1 a.0 f
      go (Err e) = refl

  -- ---- lists, which may have too many elements

  -- the elements from index i on
  unfoldable pub many_from : {A : Type 0} → (ℕ → Option Code) → Production N Tree A → ℕ → List Token → Read (List A)
  many_from full g i s = many_at full (first g) (reading body g) i (length s) s

  -- g is never empty, and f is its first set
  pub record IsListed {A : Type 0} (g : Production N Tree A) (f : Terminal → Bool) : Type 0 where
    pub full : may_be_empty g ≡ false
    pub begins : (s : List Token) → starts (first g) s ≡ starts f s

  pub many_step : {A : Type 0} (full : ℕ → Option Code) (g : Production N Tree A) (f : Terminal → Bool) → IsListed g f → (i : ℕ) (s : List Token)
      → many_from full g i s ≡ cond (starts f s)
      (refuse (full i) s (reading body g s >>= λ a. many_from full g (suc i) a.1 >>= applied
      (λ (more : List A). a.0 ∷ more))) (Ok ([], s))
  unfolding many_from
  many_step full g f l i s =
      rw (← (l.begins s)) (many_is full (first g) (reading body g)
      (λ s' x e. (run_shrinks (nonterminal_at body) (nonterminal_shrinks body) g s' x e).1 l.full) i s)

  pub many_begins : {A : Type 0} (full : ℕ → Option Code) (g : Production N Tree A) (s : List Token)
      → so_far [] (many_from full g 0 s) ≡ reading body (star full g) s
  unfolding many_from
  many_begins full g s = so_far_nothing (many_from full g 0 s)

  -- if the list is not full and an element is next, the list goes on with that element
  pub many_goes_on : {A : Type 0} (full : ℕ → Option Code) (g : Production N Tree A) (f : Terminal → Bool)
      → IsListed g f → (i : ℕ) (old : List A) (s : List Token) (x : A) (next : List Token) (total : Read (List A))
      (new : List A) → new ≡ old ++ x ∷ []
      → full i ≡ None → starts f s ≡ true → reading body g s ≡ Ok (x, next)
      → so_far old (many_from full g i s) ≡ total → so_far new (many_from full g (suc i) next) ≡ total
  many_goes_on {A} full g f l i old s x next total new e room t r before =
      let one : so_far old (many_from full g i s) ≡ so_far new (many_from full g (suc i) next) =
      ap (λ (q : Read (List A)). so_far old q) (many_step full g f l i s) ∙ rw (t, room, r, e) (one_more old x (many_from full g (suc i) next)) in
      sym one ∙ before

  pub many_fails : {A : Type 0} (full : ℕ → Option Code) (g : Production N Tree A) (f : Terminal → Bool)
      → IsListed g f → (e : ReadRefusal) (i : ℕ) (old : List A) (s : List Token) (total : Read (List A))
      → full i ≡ None → starts f s ≡ true → ReturnsRefusal e (reading body g s) → so_far old (many_from full g i s) ≡ total → ReturnsRefusal e total
  unfolding so_far
  many_fails full g f l errors.OutOfMemory i old s total room t h before = tt
  many_fails {A} full g f l (errors.Fault x) i old s total room t h before = sym before
      ∙ (ap (λ (q : Read (List A)). so_far old q) (many_step full g f l i s) ∙ rw (t, room, h) refl)

  pub many_is_full : {A : Type 0} (full : ℕ → Option Code) (g : Production N Tree A) (f : Terminal → Bool)
      → IsListed g f → (c : Code) (i : ℕ) (old : List A) (s : List Token) (total : Read (List A))
      → full i ≡ Some c → starts f s ≡ true → so_far old (many_from full g i s) ≡ total → total ≡ Err (fault_from_end (length s) c)
  unfolding so_far
  many_is_full {A} full g f l c i old s total over t before = sym before
      ∙ (ap (λ (q : Read (List A)). so_far old q) (many_step full g f l i s) ∙ rw (t, over) refl)

  pub many_ends : {A : Type 0} (full : ℕ → Option Code) (g : Production N Tree A) (f : Terminal → Bool)
      → IsListed g f → (i : ℕ) (old : List A) (s : List Token) (total : Read (List A))
      → starts f s ≡ false → so_far old (many_from full g i s) ≡ total → total ≡ Ok (old, s)
  unfolding so_far
  many_ends {A} full g f l i old s total t before =
      sym before ∙ (ap (λ (q : Read (List A)). so_far old q) (many_step full g f l i s) ∙ rw t (ap (λ (xs : List A). Ok (xs, s)) (append-nil old)))
