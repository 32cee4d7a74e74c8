-- If each nonterminal passes the test, reading is exact: it returns the tree that is derived, or the first fault.
use Rattle.std.proofs.Common.{◌≡◌, ◌≢◌, ℕ, zero, suc, ◌+◌, ◌-◌, ◌<◌, ◌≤◌, Bool, true, false, cond, List, [], ◌∷◌, ◌++◌, length, take, drop, Result}
use Rattle.std.proofs.Common.{Ok, Err, refl, inl, inr, sym, ap, ◌∙◌, append_assoc, arith, subst}
use Rattle.std.specs.Prelude.{Option, Some, None, nat_lt, ◌==◌, not}
use Rattle.std.proofs.lemmas.Bool.{and_parts, not-true, both_ways, eqb-true, eqb-false, cases_lt, cases_order}
use Rattle.std.proofs.lemmas.List.{take_at, drop_at, length-append, nil_from_length, take-append-drop, take-take, take-append-le, length-take-le}
use Rattle.std.specs.Option.{option_or}
use Rattle.grammar_core.specs.declared.fault.ReadFault.{ReadFault}
use Rattle.grammar_core.specs.declared.token.Token.{Token}
use Rattle.grammar_core.specs.Terminals.{is_within}
use Rattle.grammar_core.specs.declared.code.Code.{Code}
use Rattle.grammar_core.specs.declared.code.Code.TheVariants.{Syntax}
use Rattle.grammar_core.specs.Production.{Production, one_of, checked, seq, map, alt, opt, star, pick, after_token, limited, Language, Fault}
use Rattle.grammar_core.specs.Production.{then_fault, at_start, bad_unless, cut_at, taken, Many, IsFrom, Derives, DerivedWithin, Derived, IsText}
use Rattle.grammar_core.specs.Production.{Begins, IsSyntaxFault, IsLimitFault, IsFirstFault}
use Rattle.grammar_core.specs.Reading.{may_be_empty, first, starts, nonterminal_within, nonterminal_at, reading, whole, fault_from_end}
use Rattle.grammar_core.specs.Predictive.{Claims, continuing, is_limit, are_limits, is_fine, has_plain, are_names}
pub use Rattle.grammar_core.specs.Predictive.{LimitsOnly}
use Rattle.grammar_core.proofs.Sets.{starts_into, starts_within}
use Rattle.grammar_core.proofs.ReadCases.{bind_ok, bind_err}
use Rattle.grammar_core.proofs.Begins.{surely_begins}
use Rattle.grammar_core.proofs.Fuel.{within_shrinks, within_is_stable, nonterminal_is, nonterminal_shrinks, run_shrinks}
use Rattle.grammar_core.proofs.Passes.{FaultsWithin, run_faults}
use Rattle.grammar_core.proofs.Only.{only, outcome, Fits, fits}
use Rattle.grammar_core.proofs.Sound.{SameHead, Faulted, Sound, Text, from_zero}
use Rattle.grammar_core.proofs.SoundProductions.{plain_text, run_sound}
use Rattle.list_lemmas.proofs.Truth.{chosen}
use Rattle.list_lemmas.proofs.Options.{same_Ok, Ok≢Err, same_Err}
use Rattle.list_lemmas.proofs.Joins.{longer_front}

-- there is one way to split a list into a word and a rest of a given length
same_cut : (w w' r r' : List Token) → w ++ r ≡ w' ++ r' → length r ≡ length r' → (w ≡ w') × (r ≡ r')
same_cut w w' r r' e l =
    let n : length w ≡ length w' = omega (arith, length-append w r, length-append w' r', ap (λ (s : List Token). length s) e) in (
      sym (take_at w r (length w') n) ∙ ap (λ (s : List Token). take (length w') s) e ∙ take_at w' r' (length w') refl,
      sym (drop_at w r (length w') n) ∙ ap (λ (s : List Token). drop (length w') s) e ∙ drop_at w' r' (length w') refl,
    )

module _ {N : Type 0} {Tree : N → Type 0} (body : (n : N) → Production N Tree (Tree n)) {A : Type 0} (g : Production N Tree A) where
  -- a first fault is at a token, or at the end
  pub fault_index : (s : List Token) (i : ℕ) (c : Code) → IsFirstFault body g s i c → i ≤ length s
  fault_index s i Syntax f = f.within
  fault_index s i c f = let w = f.within in omega (arith, w)

-- ---- no first fault of a text is Syntax

abbrev pub NotSyntax : Fault → Type 0
NotSyntax None = Unit {0}
NotSyntax (Some f) = f.1 ≢ Syntax

limit_is : (d : Code) → is_limit d ≡ true → d ≢ Syntax
limit_is d h e = both_ways (is_limit d) (rw e refl) h

not_then : (x y : Fault) (n : ℕ) → NotSyntax x → NotSyntax y → NotSyntax (then_fault x n y)
not_then None None n a b = tt
not_then None (Some f) n a b = b
not_then (Some f) y n a b = a

not_start : (o : Option Code) (x : Fault) → are_limits o ≡ true → NotSyntax x → NotSyntax (option_or (at_start o) x)
not_start None x h a = a
not_start (Some d) x h a = limit_is d h

not_cut : (l : ℕ) (c : Code) (n : ℕ) (x : Fault) → is_limit c ≡ true → NotSyntax x → NotSyntax (cut_at l c n x)
not_cut l c n None h a = go (nat_lt l n)
  where
    go : (b : Bool) → NotSyntax (cond b (Some (l, c)) None)
    go true = limit_is c h
    go false = tt
not_cut l c n (Some f) h a = go (nat_lt l f.0)
  where
    go : (b : Bool) → NotSyntax (cond b (Some (l, c)) (Some f))
    go true = limit_is c h
    go false = a

not_bad : (b : Bool) (c : Code) → is_limit c ≡ true → NotSyntax (bad_unless b c)
not_bad true c h = tt
not_bad false c h = limit_is c h

many_limits : {A : Type 0} (full : ℕ → Option Code) (G : Language A) → ((i : ℕ) → are_limits (full i) ≡ true)
    → ((s : List Token) (t : A) (o : Fault) (r : List Token) → G s t o r → NotSyntax o)
    → (i : ℕ) (ts : List A) (s : List Token) (o : Fault) (r : List Token) → Many full G i s ts o r → NotSyntax o
many_limits full G l f i [] s o r h = rw h.1 tt
many_limits full G l f i (t ∷ ts) s o r h =
    rw h.5 (not_then (option_or (at_start (full i)) h.1) h.2 (taken s h.0)
    (not_start (full i) h.1 (l i) (f s t h.1 h.0 h.3)) (many_limits full G l f (suc i) ts h.0 h.2 r h.4))

limits : {N : Type 0} {Tree : N → Type 0} (R : (n : N) → Language (Tree n))
    → ((n : N) (s : List Token) (t : Tree n) (o : Fault) (r : List Token) → R n s t o r → NotSyntax o)
    → {A : Type 0} (g : Production N Tree A) → LimitsOnly g → (s : List Token) (t : A) (o : Fault) (r : List Token)
    → Derives R g s t o r → NotSyntax o
limits R hR (one_of q) l s t o r h = rw h.1 tt
limits R hR (checked q good d) l s t o r h = rw h.1 (not_bad (good t) d l)
limits R hR (seq g k) l s t o r h = rw h.5 (not_then h.1 h.2 (taken s h.0) (limits R hR g l.0 s t.0 h.1 h.0 h.3) (limits R hR k l.1 h.0 t.1 h.2 r h.4))
limits R hR (map f g) l s t o r h = limits R hR g l s h.0 o r h.1
limits R hR (alt g k) l s t o r h = elim h [ inl u ↦ limits R hR g l.0 s t o r u | inr u ↦ limits R hR k l.1 s t o r u ]
limits R hR (pick q g k) l s t o r h = elim h [ inl u ↦ limits R hR g l.0 s t o r u | inr u ↦ limits R hR k l.1 s t o r u ]
limits R hR (opt g) l s None o r h = rw h.1 tt
limits R hR (opt g) l s (Some t) o r h = limits R hR g l s t o r h
limits R hR (star full g) l s t o r h = many_limits full (Derives R g) l.1 (limits R hR g l.0) 0 t s o r h
limits R hR (after_token q n) l s t o r h = rw h.4 (not_then None h.1 1 tt (hR n h.0 t.1 h.1 r h.3))
limits R hR (limited d c g) l s t o r h = rw h.2 (not_cut (d.at s) c (taken s r) h.0 l.1 (limits R hR g l.0 s t h.0 r h.1))

module _ {N : Type 0} {Tree : N → Type 0} (body : (n : N) → Production N Tree (Tree n)) (c : Claims N) (fine : (n : N) → are_names body c n ≡ true) where
  pub name_fine : (n : N) → is_fine c (body n) ≡ true
  name_fine n = (and_parts (is_fine c (body n)) _ (fine n)).0

  name_plain : (n : N) → has_plain (body n) ≡ true
  name_plain n = (and_parts (has_plain (body n)) _ (and_parts (is_fine c (body n)) _ (fine n)).1).0

  name_full : (n : N) → may_be_empty (body n) ≡ false
  name_full n = not-true (may_be_empty (body n))
      (and_parts (not (may_be_empty (body n))) _
      (and_parts (has_plain (body n)) _ (and_parts (is_fine c (body n)) _ (fine n)).1).1).0

  name_sets : (n : N) → (is_within (first (body n)) (c.firsts n) ≡ true) × (is_within (continuing c (body n)) (c.continues n) ≡ true)
  name_sets n = and_parts (is_within (first (body n)) (c.firsts n)) _
      (and_parts (not (may_be_empty (body n))) _
      (and_parts (has_plain (body n)) _ (and_parts (is_fine c (body n)) _ (fine n)).1).1).1

  within_fits : (k : ℕ) (n : N) (s : List Token) (t : Tree n) (o : Fault) (r : List Token) → DerivedWithin body k n s t o r → Fits s o r
  within_fits zero n s t o r h = absurd h
  within_fits (suc k) n s t o r h = fits (DerivedWithin body k) (within_fits k) (body n) s t o r h

  pub within_begins : (k : ℕ) (n : N) (s : List Token) (t : Tree n) (o : Fault) (r : List Token) → DerivedWithin body k n s t o r → starts (c.firsts n) s ≡ true
  within_begins zero n s t o r h = absurd h
  within_begins (suc k) n s t o r h = starts_into (first (body n)) (c.firsts n) s (name_sets n).0
      (surely_begins (DerivedWithin body k) (body n) (name_full n) s t o r h)

  within_only : (k : ℕ) (n : N) (s : List Token) (t : Tree n) (o : Fault) (r : List Token)
      → DerivedWithin body k n s t o r → starts (c.continues n) r ≡ false
      → nonterminal_at body n s ≡ outcome s t o r
  within_only zero n s t o r h stops = absurd h
  within_only (suc k) n s t o r h stops =
      nonterminal_is body n s ∙ only c (DerivedWithin body k) (nonterminal_at body) (nonterminal_shrinks body)
      (within_fits k) (within_begins k) (within_only k) (body n) (name_fine n) s t o r h
      (starts_within (continuing c (body n)) (c.continues n) r (name_sets n).1 stops)

  -- Reading returns what a production derives if the next token does not continue it.
  pub reads : {A : Type 0} (g : Production N Tree A) → is_fine c g ≡ true
      → (s : List Token) (t : A) (o : Fault) (r : List Token) → Derives (Derived body) g s t o r
      → starts (continuing c g) r ≡ false → reading body g s ≡ outcome s t o r
  reads g ok s t o r h stops =
      only c (Derived body) (nonterminal_at body) (nonterminal_shrinks body)
      (λ n s t o r d. within_fits d.depth n s t o r d.derives)
      (λ n s t o r d. within_begins d.depth n s t o r d.derives)
      (λ n s t o r d. within_only d.depth n s t o r d.derives) g ok s t o r h stops

  within_faults : (k : ℕ) (n : N) → FaultsWithin (nonterminal_within body k n)
  unfolding nonterminal_within
  within_faults zero n s m e = let k : m ≡ fault_from_end (length s) Syntax = cc in let f = ap (λ (y : ReadFault). y.left) k in omega (arith, f)
  within_faults (suc k) n s m e = run_faults (nonterminal_within body k) (within_shrinks body k) (within_faults k) (body n) s m e

  within_text : (k : ℕ) (n : N) → Text (DerivedWithin body (suc k) n)
  within_text k n = plain_text (DerivedWithin body k) (body n) (name_plain n)

  names_sound : (k : ℕ) (n : N) (s : List Token) → Sound (DerivedWithin body (suc k) n) (nonterminal_within body k n) s
  unfolding nonterminal_within
  names_sound zero n s =
      let text = within_text zero n in
      record {
        accepted = λ x e. absurd cc;
        faulted = λ m e.
            let k : m ≡ fault_from_end (length s) Syntax = cc in
            let f = ap (λ (y : ReadFault). y.left) k in let d = ap (λ (y : ReadFault). y.code) k in
            record {
              word = [];
              rest = s;
              parts = refl;
              left = sym f;
              more = text.word;
              tree = text.tree;
              fault =
                  text.fault;
              late = λ z. record { from = from_zero (text.fault z); exact = λ h. absurd (h d) };
              extends = λ h. absurd (h d);
              derives = text.derives;
              same =
                  λ r h. ap (λ (c : Code). Err (fault_from_end (length r) c)) (sym d);
            };
      }
  names_sound (suc k) n s = run_sound c (DerivedWithin body (suc k)) (nonterminal_within body k)
      (within_shrinks body k) (within_faults k) (within_text k) (names_sound k) (body n) (name_fine n) s

  -- what is derived within one bound is read with another
  name_sound : (n : N) (s : List Token) → Sound (Derived body n) (nonterminal_at body n) s
  unfolding nonterminal_at
  name_sound n s =
      let k = suc (length s) in
      record {
        accepted = λ x e.
            let t = (names_sound k n s).accepted x e in
            record {
              word = t.word;
              parts = t.parts;
              derives = λ z. record { depth = suc k; derives = t.derives z };
              same = λ r h.
                  let k' = suc (length s + length (t.word ++ r)) in
                  let u = (names_sound k' n s).accepted x (within_is_stable body k' k n s (omega arith) (omega arith) ∙ e) in
                  let cut = same_cut u.word t.word x.1 x.1 (sym u.parts ∙ t.parts) refl in
                  let at : nonterminal_within body k' n (t.word ++ r) ≡ Ok (x.0, r) =
                  subst (λ (w : List Token). nonterminal_within body k' n (w ++ r) ≡ Ok (x.0, r)) cut.0
                  (u.same r h) in
                  within_is_stable body (suc (length (t.word ++ r))) k' n (t.word ++ r) (omega arith) (omega arith) ∙ at;
            };
        faulted = λ m e.
            let t = (names_sound k n s).faulted m e in
            record {
              word = t.word;
              rest = t.rest;
              parts = t.parts;
              left = t.left;
              more = t.more;
              tree = t.tree;
              fault = t.fault;
              late = t.late;
              extends = t.extends;
              derives = λ z. record { depth = suc k; derives = t.derives z };
              same = λ r h.
                  let k' = suc (length s + length (t.word ++ r)) in
                  let u = (names_sound k' n s).faulted m (within_is_stable body k' k n s (omega arith) (omega arith) ∙ e) in
                  let cut = same_cut u.word t.word u.rest t.rest (sym u.parts ∙ t.parts) (u.left ∙ sym t.left) in
                  let h' : SameHead u.rest r = subst (λ (f : List Token). SameHead f r) (sym cut.1) h in
                  let at : nonterminal_within body k' n (t.word ++ r) ≡ Err (fault_from_end (length r) m.code) =
                  subst (λ (w : List Token). nonterminal_within body k' n (w ++ r)
                  ≡ Err (fault_from_end (length r) m.code)) cut.0 (u.same r h') in
                  within_is_stable body (suc (length (t.word ++ r))) k' n (t.word ++ r) (omega arith) (omega arith) ∙ at;
            };
      }

  pub nonterminal_faults : (n : N) → FaultsWithin (nonterminal_at body n)
  unfolding nonterminal_at
  nonterminal_faults n s m e = within_faults (suc (length s)) n s m e

  name_text : (n : N) → Text (Derived body n)
  name_text n = let t = within_text 0 n in record { word = t.word; tree = t.tree; fault = t.fault; derives = λ z. record { depth = 1; derives = t.derives z } }

  pub sound : {A : Type 0} (g : Production N Tree A) → is_fine c g ≡ true → (s : List Token) → Sound (Derives (Derived body) g) (reading body g) s
  sound g ok s = run_sound c (Derived body) (nonterminal_at body) (nonterminal_shrinks body) nonterminal_faults name_text name_sound g ok s

  within_limits : ((n : N) → LimitsOnly (body n))
      → (k : ℕ) (n : N) (s : List Token) (t : Tree n) (o : Fault) (r : List Token) → DerivedWithin body k n s t o r
      → NotSyntax o
  within_limits l zero n s t o r h = absurd h
  within_limits l (suc k) n s t o r h = limits (DerivedWithin body k) (within_limits l k) (body n) (l n) s t o r h

  -- ---- whole texts

  module _ (names_only : (n : N) → LimitsOnly (body n)) {A : Type 0} (g : Production N Tree A) (ok : is_fine c g ≡ true) (only_limits : LimitsOnly g) where
    text_limits : (s : List Token) (t : A) (o : Fault) → IsText body g s t o → NotSyntax o
    text_limits s t o h = limits (Derived body) (λ n s t o r d. within_limits names_only d.depth n s t o r d.derives) g only_limits s t o [] h

    pub text_found : (s : List Token) (t : A) → whole body g s ≡ Ok t → IsText body g s t None
    text_found s t e =
        let a = bind_ok (reading body g s) (λ x. cond (length x.1 == 0) (Ok x.0) (Err (fault_from_end (length x.1) Syntax))) t e in
        elim (chosen (length a.0.1 == 0) (Ok a.0.0) (Err (fault_from_end (length a.0.1) Syntax)) (Ok t) a.2) [
          | inl u ↦
              let none : a.0.1 ≡ [] = nil_from_length a.0.1 (eqb-true (length a.0.1) 0 u.0) in
              let k = (sound g ok s).accepted a.0 a.1 in
              let is : a.0.0 ≡ t = same_Ok a.0.0 t u.1 in
              let all : s ≡ k.word ++ [] = k.parts ∙ ap (λ (l : List Token). k.word ++ l) none in
              let at : IsText body g s a.0.0 None = subst (λ (l : List Token). IsText body g l a.0.0 None) (sym all) (k.derives []) in
              subst (λ (y : A). IsText body g s y None) is at
          | inr u ↦ absurd cc
        ]

    pub text_only : (s : List Token) (t : A) → IsText body g s t None → whole body g s ≡ Ok t
    text_only s t h = rw (reads g ok s t None [] h refl) refl

    pub fault_within : (s : List Token) (n : ReadFault) → whole body g s ≡ Err n → n.left ≤ length s
    fault_within s n e =
        elim (bind_err (reading body g s) (λ x. cond (length x.1 == 0) (Ok x.0) (Err (fault_from_end (length x.1) Syntax))) n e) [
          | inl u ↦ run_faults (nonterminal_at body) (nonterminal_shrinks body) nonterminal_faults g s n u
          | inr a ↦ elim (chosen (length a.0.1 == 0) (Ok a.0.0) (Err (fault_from_end (length a.0.1) Syntax)) (Err n) a.2) [
            | inl v ↦ absurd (Ok≢Err a.0.0 n v.1)
            | inr v ↦ let left : fault_from_end (length a.0.1) Syntax ≡ n = same_Err _ n v.1 in let f =
                ap (λ (y : ReadFault). y.left) left in let k =
                (run_shrinks (nonterminal_at body) (nonterminal_shrinks body) g s a.0 a.1).0 in omega (arith, f, k)
          ]
        ]

    -- reading a text with a fault of a limit does not return Syntax
    meets : (s : List Token) (t : A) (o : Fault) → IsText body g s t o → (n : ℕ) → reading body g s ≡ Err (fault_from_end n Syntax) → ⊥
    meets s t o h n e = go o (text_limits s t o h) (reads g ok s t o [] h refl)
      where
        go : (o : Fault) → NotSyntax o → reading body g s ≡ outcome s t o [] → ⊥
        go None l r = Ok≢Err (t, []) (fault_from_end n Syntax) (sym r ∙ e)
        go (Some f) l r = l (ap (λ (y : ReadFault). y.code) (same_Err _ _ (sym r ∙ e)))

    ends : (s : List Token) (t : A) (o : Fault) → IsText body g s t o → (x : A × List Token) → reading body g s ≡ Ok x → length x.1 ≡ 0
    ends s t o h x e = go o (reads g ok s t o [] h refl)
      where
        go : (o : Fault) → reading body g s ≡ outcome s t o [] → length x.1 ≡ 0
        go None r = ap (λ (y : A × List Token). length y.1) (same_Ok x (t, []) (sym e ∙ r))
        go (Some f) r = absurd (Ok≢Err x (fault_from_end (length s - f.0) f.1) (sym e ∙ r))

    self : (r : List Token) → SameHead r r
    self [] = tt
    self (x ∷ r) = refl

    -- a fault Syntax is the first one
    syntax_fault : (s word rest more : List Token) (tree : A) (o : Fault) → s ≡ word ++ rest
        → IsFrom (length word) o → IsText body g (word ++ more) tree o
        → ((r : List Token) (t : A) (o : Fault) → SameHead rest r → IsText body g (word ++ r) t o → ⊥)
        → IsSyntaxFault body g s (length s - length rest)
    syntax_fault s word rest more tree o parts from text dead =
        let n : length s ≡ length word + length rest = ap (λ (l : List Token). length l) parts ∙ length-append word rest in
        let index : length s - length rest ≡ length word = omega (arith, n) in
        let front : take (length word) s ≡ word = ap (λ (l : List Token). take (length word) l) parts ∙ take_at word rest (length word) refl in
        record {
          within = omega arith;
          before = rw (index, front) (o, record { more = more; tree = tree; text = text }, from);
          with_it = rw index (go rest parts dead n);
          at_end = λ e t o h. dead rest t o (self rest) (subst (λ (l : List Token). IsText body g l t o) parts h);
        }
      where
        go : (f : List Token) → s ≡ word ++ f
            → ((r : List Token) (t : A) (o : Fault) → SameHead f r → IsText body g (word ++ r) t o → ⊥)
            → length s ≡ length word + length f → length word < length s → (o : Fault)
            → Begins body g (take (length word + 1) s) o → ⊥
        go [] parts dead n lt o b = absurd (omega (arith, n))
        go (x ∷ f) parts dead n lt o b =
            let again : s ≡ (word ++ x ∷ []) ++ f = parts ∙ sym (append_assoc word (x ∷ []) f) in
            let long : length (word ++ x ∷ []) ≡ length word + 1 = length-append word (x ∷ []) ∙ refl in
            let front : take (length word + 1) s ≡ word ++ x ∷ [] =
            ap (λ (l : List Token). take (length word + 1) l) again
            ∙ take_at (word ++ x ∷ []) f (length word + 1) long in
            let text : IsText body g (word ++ (x ∷ b.more)) b.tree o = rw (← (append_assoc word (x ∷ []) b.more), ← front) b.text in
            dead (x ∷ b.more) b.tree o refl text

    limit_fault : (s : List Token) (n : ReadFault) → (k : Faulted (Derives (Derived body) g) (reading body g) s n)
        → n.code ≢ Syntax → IsLimitFault body g s (length s - length k.rest) n.code
    limit_fault s n k d =
        let e = k.extends d in
        let all : length s ≡ length k.word + length k.rest = ap (λ (l : List Token). length l) k.parts ∙ length-append k.word k.rest in
        let index : length s - length k.rest ≡ length k.word = omega (arith, all) in
        let some : length k.rest ≡ suc (length e.rest_tail) = ap (λ (l : List Token). length l) e.rest_is in
        let again : s ≡ (k.word ++ e.head ∷ []) ++ e.rest_tail = k.parts
        ∙ ap (λ (l : List Token). k.word ++ l) e.rest_is
        ∙ sym (append_assoc k.word (e.head ∷ []) e.rest_tail) in
        let long : length (k.word ++ e.head ∷ []) ≡ length k.word + 1 = length-append k.word (e.head ∷ []) ∙ refl in
        let front : take (length k.word + 1) s ≡ k.word ++ e.head ∷ [] =
        ap (λ (l : List Token). take (length k.word + 1) l) again
        ∙ take_at (k.word ++ e.head ∷ []) e.rest_tail (length k.word + 1) long in
        let text : IsText body g (k.word ++ (k.more ++ [])) k.tree (Some (length k.word, n.code)) =
        subst (λ (o : Fault). IsText body g (k.word ++ (k.more ++ [])) k.tree o) ((k.late []).exact d)
        (k.derives []) in
        let along : k.word ++ (k.more ++ []) ≡ (k.word ++ e.head ∷ []) ++ (e.more_tail ++ []) =
        ap (λ (l : List Token). k.word ++ (l ++ [])) e.more_is
        ∙ sym (append_assoc k.word (e.head ∷ []) (e.more_tail ++ [])) in
        record {
          within = omega (arith, all, some);
          there = rw (index, front) (record {
            more = e.more_tail ++ [];
            tree = k.tree;
            text =
                subst (λ (l : List Token). IsText body g l k.tree (Some (length k.word, n.code))) along text;
          });
        }

    pub fault_is : (s : List Token) (n : ReadFault) → whole body g s ≡ Err n → IsFirstFault body g s (length s - n.left) n.code
    fault_is s n e =
        elim (bind_err (reading body g s) (λ x. cond (length x.1 == 0) (Ok x.0) (Err (fault_from_end (length x.1) Syntax))) n e) [
          | inl u ↦ by_code n.code refl u
          | inr a ↦ elim (chosen (length a.0.1 == 0) (Ok a.0.0) (Err (fault_from_end (length a.0.1) Syntax)) (Err n) a.2) [
            | inl v ↦ absurd (Ok≢Err a.0.0 n v.1)
            | inr v ↦
                let k = (sound g ok s).accepted a.0 a.1 in
                let is : fault_from_end (length a.0.1) Syntax ≡ n = same_Err _ n v.1 in
                let full : length a.0.1 ≡ 0 → ⊥ = eqb-false (length a.0.1) 0 v.0 in
                let fault = syntax_fault s k.word a.0.1 [] a.0.0 None k.parts tt (k.derives [])
                (λ r t o h text. full
                (empty a.0.1 r h (ends (k.word ++ r) t o text (a.0.0, r) (k.same r h)))) in
                subst (λ (m : ReadFault). IsFirstFault body g s (length s - m.left) m.code) is fault
          ]
        ]
      where
        empty : (f r : List Token) → SameHead f r → length r ≡ 0 → length f ≡ 0
        empty [] r h e = refl
        empty (x ∷ f) [] h e = absurd h
        empty (x ∷ f) (y ∷ r) h e = absurd (omega (arith, e))

        by_code : (d : Code) → n.code ≡ d → reading body g s ≡ Err n → IsFirstFault body g s (length s - n.left) n.code
        by_code Syntax is u =
            let k = (sound g ok s).faulted n u in
            let fault = syntax_fault s k.word k.rest (k.more ++ []) k.tree (k.fault []) k.parts (k.late []).from
            (k.derives []) (λ r t o h text. meets (k.word ++ r) t o text (length r)
            (k.same r h ∙ ap (λ (d : Code). Err (fault_from_end (length r) d)) is)) in
            rw (is, ← k.left) fault
        by_code d is u =
            let k = (sound g ok s).faulted n u in
            let fault : IsLimitFault body g s (length s - length k.rest) n.code = limit_fault s n k (λ h. absurd (differs (sym is ∙ h))) in
            rw (is, ← k.left) (subst (λ (d : Code). IsLimitFault body g s (length s - length k.rest) d) is fault)
          where
            differs : d ≡ Syntax → ⊥
            differs h = cc

    -- ---- there is one first fault

    longer : (p q : ℕ) (l : List Token) → p ≤ q → (rest : List Token) × (take q l ≡ take p l ++ rest)
    longer p q l le = (drop p (take q l), sym (take-append-drop p (take q l)) ∙ ap (λ (k : List Token). k ++ drop p (take q l)) (take-take p q l le))

    begins_shorter : (s : List Token) (p q : ℕ) (o : Fault) → p ≤ q → Begins body g (take q s) o → Begins body g (take p s) o
    begins_shorter s p q o le b =
        let l = longer p q s le in
        record {
          more = l.0 ++ b.more;
          tree = b.tree;
          text =
              subst (λ (k : List Token). IsText body g k b.tree o)
              (ap (λ (k : List Token). k ++ b.more) l.1 ∙ append_assoc (take p s) l.0 b.more) b.text;
        }

    limit_is_read : (s : List Token) (p : ℕ) (d : Code) → IsLimitFault body g s p d → whole body g s ≡ Err (fault_from_end (length s - p) d)
    limit_is_read s p d h =
        let b = h.there in
        let s2 = take (p + 1) s ++ b.more in
        let size : length (take (p + 1) s) ≡ p + 1 = length-take-le (p + 1) s (omega (arith, h.within)) in
        let size2 = length-append (take (p + 1) s) b.more in
        let k = (sound g ok s2).faulted (fault_from_end (length s2 - p) d) (reads g ok s2 b.tree (Some (p, d)) [] b.text refl) in
        let at : length k.word ≡ p = omega (arith, k.left, size, size2, ap (λ (l : List Token). length l) k.parts, length-append k.word k.rest) in
        let f = longer_front k.word k.rest (take (p + 1) s) b.more (sym k.parts) (omega (arith, at, size)) in
        let one : length f.0 ≡ 1 = omega (arith, at, size, ap (λ (l : List Token). length l) f.1, length-append k.word f.0) in
        let whole_s : s ≡ k.word ++ (f.0 ++ drop (p + 1) s) = sym (take-append-drop (p + 1) s)
        ∙ ap (λ (l : List Token). l ++ drop (p + 1) s) f.1 ∙ append_assoc k.word f.0 (drop (p + 1) s) in
        let alike : SameHead k.rest (f.0 ++ drop (p + 1) s) =
        subst (λ (l : List Token). SameHead l (f.0 ++ drop (p + 1) s)) (sym f.2)
        (heads f.0 b.more (drop (p + 1) s) (omega (arith, one))) in
        let r : reading body g s ≡ Err (fault_from_end (length (f.0 ++ drop (p + 1) s)) d) =
        ap (reading body g) whole_s ∙ k.same (f.0 ++ drop (p + 1) s) alike in
        let left : length (f.0 ++ drop (p + 1) s) ≡ length s - p =
        omega (
          arith,
          ap (λ (l : List Token). length l) whole_s,
          length-append k.word (f.0 ++ drop (p + 1) s),
          at,
        ) in
        rw r (ap (λ (n : ℕ). Err (fault_from_end n d)) left)
      where
        heads : (v a b : List Token) → 0 < length v → SameHead (v ++ a) (v ++ b)
        heads [] a b lt = absurd (omega arith)
        heads (x ∷ v) a b lt = refl

    syntax_is_read : (s : List Token) (p : ℕ) → IsSyntaxFault body g s p → whole body g s ≡ Err (fault_from_end (length s - p) Syntax)
    syntax_is_read s p h = go (whole body g s) refl
      where
        from_syntax : (q : ℕ) → IsSyntaxFault body g s q → p ≡ q
        from_syntax q k = elim (cases_order p q) [
          | inl e ↦ e
          | inr (inl lt) ↦ absurd (h.with_it (let w = k.within in omega (arith, lt, w)) k.before.0
              (begins_shorter s (p + 1) q k.before.0 (omega (arith, lt)) k.before.1))
          | inr (inr lt) ↦ absurd (k.with_it (let w = h.within in omega (arith, lt, w)) h.before.0
              (begins_shorter s (q + 1) p h.before.0 (omega (arith, lt)) h.before.1))
        ]

        -- a fault of a limit before the index would be one of each text that begins with these tokens
        from_limit : (q : ℕ) (d : Code) → IsLimitFault body g s q d → ⊥
        from_limit q d k = elim (cases_lt q p) [
          | inr le ↦ h.with_it (let w = k.within in omega (arith, le, w)) (Some (q, d))
              (begins_shorter s (p + 1) (q + 1) (Some (q, d)) (omega (arith, le)) k.there)
          | inl lt ↦
              let b = h.before.1 in
              let s3 = take p s ++ b.more in
              let size : length (take p s) ≡ p = length-take-le p s h.within in
              let size3 = length-append (take p s) b.more in
              let same : take (q + 1) s3 ≡ take (q + 1) s =
              take-append-le (q + 1) (take p s) b.more (omega (arith, size, lt))
              ∙ take-take (q + 1) p s (omega (arith, lt)) in
              let r = limit_is_read s3 q d
              (record {
                within = omega (arith, size, size3, lt);
                there =
                    subst (λ (l : List Token). Begins body g l (Some (q, d))) (sym same) k.there;
              }) in
              later h.before.0 s3 b.tree b.text h.before.2 (omega (arith, size, size3)) lt r
        ]
          where
            later : (o : Fault) (s3 : List Token) (t : A) → IsText body g s3 t o → IsFrom p o → p ≤ length s3
                → q < p → whole body g s3 ≡ Err (fault_from_end (length s3 - q) d) → ⊥
            later None s3 t text from le lt r = Ok≢Err t (fault_from_end (length s3 - q) d) (sym (text_only s3 t text) ∙ r)
            later (Some f) s3 t text from le lt r =
                let fit = fits (Derived body) (λ n s t o r d. within_fits d.depth n s t o r d.derives) g s3 t (Some f) [] text in
                let r' : whole body g s3 ≡ Err (fault_from_end (length s3 - f.0) f.1) = rw (reads g ok s3 t (Some f) [] text refl) refl in
                let e = ap (λ (y : ReadFault). y.left) (same_Err _ _ (sym r' ∙ r)) in
                omega (arith, e, from, lt, fit.1, le)

        go : (r : Result A ReadFault) → whole body g s ≡ r → whole body g s ≡ Err (fault_from_end (length s - p) Syntax)
        go (Ok t) e =
            let text = text_found s t e in
            elim (cases_lt p (length s)) [
              | inl lt ↦ absurd (h.with_it lt None
                  (record {
                    more = drop (p + 1) s;
                    tree = t;
                    text =
                        subst (λ (l : List Token). IsText body g l t None) (sym (take-append-drop (p + 1) s)) text;
                  }))
              | inr le ↦ absurd (h.at_end (let w = h.within in omega (arith, le, w)) t None text)
            ]
        go (Err n) e = e ∙ by_code n.code refl (fault_is s n e)
          where
            by_code : (d : Code) → n.code ≡ d → IsFirstFault body g s (length s - n.left) n.code
                → ◌≡◌ {A = Result A ReadFault} (Err n) (Err (fault_from_end (length s - p) Syntax))
            by_code Syntax is f =
                let f' : IsSyntaxFault body g s (length s - n.left) = subst (λ (d : Code). IsFirstFault body g s (length s - n.left) d) is f in
                let same = from_syntax (length s - n.left) f' in
                let w = fault_within s n e in
                let n0 : n.left ≡ length s - p = omega (arith, same, w) in
                λ i. Err (fault_from_end (n0 i) (is i))
            by_code d is f = absurd (from_limit (length s - n.left) d (subst (λ (c : Code). IsFirstFault body g s (length s - n.left) c) is f))

    -- The first fault is the one that reading returns.
    pub one_fault : (s : List Token) (p : ℕ) (c : Code) → IsFirstFault body g s p c → whole body g s ≡ Err (fault_from_end (length s - p) c)
    one_fault s p Syntax h = syntax_is_read s p h
    one_fault s p c h = limit_is_read s p c h
