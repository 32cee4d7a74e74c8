-- Reading an expression at the start of some tokens finds its end, or the first fault.
use Rattle.std.proofs.Common.{◌≡◌, ℕ, ◌+◌, ◌-◌, ◌<◌, ◌≤◌, Bool, true, false, cond, List, [], ◌∷◌, ◌++◌, length, take, drop, Result, Ok, Err, refl}
use Rattle.std.proofs.Common.{inl, inr, sym, ap, ◌∙◌, append_assoc, arith, subst}
use Rattle.std.specs.Prelude.{Some, None, ◌==◌}
use Rattle.std.proofs.lemmas.Bool.{cases_Bool, cases_lt, cases_order, eqb-true}
use Rattle.std.proofs.lemmas.List.{take_at, length-append, append-nil, take-append-drop, take-take, length-take-le, length-drop}
use Rattle.grammar_core.specs.declared.fault.ReadFault.{ReadFault}
use Rattle.grammar_core.specs.declared.token.Token.{Token}
use Rattle.grammar_core.specs.declared.code.Code.{Code}
use Rattle.grammar_core.specs.declared.code.Code.TheVariants.{Syntax}
use Rattle.grammar_core.specs.Production.{Fault, IsText, Begins, IsSyntaxFault, IsLimitFault, IsFirstFault}
use Rattle.grammar_core.specs.Predictive.{is_fine}
use Rattle.grammar_core.specs.Reading.{Read, reading, whole, fault_from_end}
use Rattle.grammar_core.proofs.CallerLemmas.{fault_is_of_whole as fault_is, fault_within, no_syntax_fault_after, one_fault, reads, sound, text_only}
use Rattle.jdf_tree.specs.declared.expression.ExprWithSpot.{ExprWithSpot}
use Rattle.jdf_tree.specs.declared.part.Part.{Part}
use Rattle.jdf_tree.specs.ExpressionGrammar.{outer}
use Rattle.jdf_tree.specs.Grammar.{productions, claims}
use Rattle.jdf_tree.proofs.CallerLemmas.{outer_limits, productions_fine, productions_limits}
use Rattle.expr_read.specs.declared.window.Outermost.TheVariants as outermost
use Rattle.expr_read.specs.Front.{IsEnd, IsFirstFaultOf}
use Rattle.expr_read.proofs.InWindow.{form_fine}
use Rattle.list_lemmas.proofs.Options.{same_Ok, same_Err, Ok≢Err}

outer_fine : (part : Part) → is_fine claims (outer part) ≡ true
unfolding outer
outer_fine part = form_fine (outermost.Expression part)

stop_is : {A : Type 0} {a b : ReadFault} → ◌≡◌ {A = Result A ReadFault} (Err a) (Err b) → (a.left ≡ b.left) × (a.code ≡ b.code)
stop_is {A} {a} {b} e = let same = same_Err a b e in (ap (λ (x : ReadFault). x.left) same, ap (λ (x : ReadFault). x.code) same)

no_zero : (n : ℕ) → 0 < n → (n == 0) ≡ false
no_zero n lt = elim (cases_Bool (n == 0)) [ inl t ↦ let e = eqb-true n 0 t in absurd (omega (arith, e, lt)) | inr f ↦ f ]

module _ (part : Part) where
  abbrev read : List Token → Read ExprWithSpot
  read s = reading productions (outer part) s

  abbrev all : List Token → Result ExprWithSpot ReadFault
  all s = whole productions (outer part) s

  abbrev Text : List Token → ExprWithSpot → Fault → Type 0
  Text s t o = IsText productions (outer part) s t o

  begins_shorter : (s : List Token) (p q : ℕ) (o : Fault) → p ≤ q → Begins productions (outer part) (take q s) o → Begins productions (outer part) (take p s) o
  begins_shorter s p q o le b =
      let e : take p s ++ (drop p (take q s) ++ b.more) ≡ take q s ++ b.more =
      sym (append_assoc (take p s) (drop p (take q s)) b.more)
      ∙ ap (λ (k : List Token). (k ++ drop p (take q s)) ++ b.more) (sym (take-take p q s le))
      ∙ ap (λ (k : List Token). k ++ b.more) (take-append-drop p (take q s)) in
      record { more = drop p (take q s) ++ b.more; tree = b.tree; text = subst (λ (k : List Token). IsText productions (outer part) k b.tree o) (sym e) b.text }

  -- there is one end
  one_end : (s : List Token) (p q : ℕ) → IsEnd part s p → IsEnd part s q → p ≡ q
  one_end s p q h k =
      let hw = h.within in let kw = k.within in
      elim (cases_order p q) [
        | inl e ↦ e
        | inr (inl lt) ↦ absurd (h.with_it (omega (arith, lt, kw)) k.before.0 (begins_shorter s (p + 1) q k.before.0 (omega (arith, lt)) k.before.1))
        | inr (inr lt) ↦ absurd (k.with_it (omega (arith, lt, hw)) h.before.0 (begins_shorter s (q + 1) p h.before.0 (omega (arith, lt)) h.before.1))
      ]

  -- if an expression was read, the end is after it, and it is the expression before the end
  pub read_ends : (s : List Token) (t : ExprWithSpot) (r : List Token) → read s ≡ Ok (t, r)
      → IsEnd part s (length s - length r) × Text (take (length s - length r) s) t None
  read_ends s t r e =
      let k = (sound productions claims productions_fine (outer part) (outer_fine part) s).accepted (t, r) e in
      let n : length s - length r ≡ length k.word = omega (arith, ap (λ (l : List Token). length l) k.parts, length-append k.word r) in
      let front : take (length s - length r) s ≡ k.word = ap (λ (m : ℕ). take m s) n
      ∙ (ap (λ (l : List Token). take (length k.word) l) k.parts ∙ take_at k.word r (length k.word) refl) in
      let text : Text (take (length s - length r) s) t None = subst (λ (l : List Token). Text l t None) (append-nil k.word ∙ sym front) (k.derives []) in (
        record {
          within = omega arith;
          before = (
            None,
            record {
              more = [];
              tree = t;
              text =
                  subst (λ (l : List Token). Text l t None) (sym (append-nil (take (length s - length r) s))) text;
            },
          );
          with_it = λ lt. (fault_is productions claims productions_fine productions_limits (outer part)
              (outer_fine part) (outer_limits part) s (fault_from_end (length r) Syntax)
              (some_left r e (omega (arith, lt)))).with_it lt;
        },
        text,
      )
    where
      some_left : (r : List Token) → read s ≡ Ok (t, r) → 0 < length r → all s ≡ Err (fault_from_end (length r) Syntax)
      some_left [] e lt = absurd (omega arith)
      some_left (y ∷ r) e lt = rw (e, no_zero (length (y ∷ r)) lt) refl

  -- a text has no syntax fault
  no_syntax_in : (w : List Token) (q : ℕ) (t : ExprWithSpot) (o : Fault) → IsSyntaxFault productions (outer part) w q → Text w t o → ⊥
  no_syntax_in w q t o f text =
      let within = f.within in
      elim (cases_lt q (length w)) [
        | inl lt ↦ f.with_it lt o (record {
          more = drop (q + 1) w;
          tree = t;
          text =
              subst (λ (l : List Token). Text l t o) (sym (take-append-drop (q + 1) w)) text;
        })
        | inr le ↦ f.at_end (omega (arith, le, within)) t o text
      ]

  -- a fault of a limit before an index is one of the tokens before it, and conversely
  limit_before : (s : List Token) (p q : ℕ) (d : Code) → p ≤ length s → q < p
      → IsLimitFault productions (outer part) s q d → IsLimitFault productions (outer part) (take p s) q d
  limit_before s p q d le lt k =
      let size = length-take-le p s le in
      record {
        within = omega (arith, lt, size);
        there =
            subst (λ (l : List Token). Begins productions (outer part) l (Some (q, d)))
            (sym (take-take (q + 1) p s (omega (arith, lt)))) k.there;
      }

  limit_of_front : (s : List Token) (p q : ℕ) (d : Code) → p ≤ length s
      → IsLimitFault productions (outer part) (take p s) q d → IsLimitFault productions (outer part) s q d
  limit_of_front s p q d le k =
      let size = length-take-le p s le in
      let lt : q < p = let w = k.within in omega (arith, w, size) in
      record {
        within = omega (arith, lt, le);
        there =
            subst (λ (l : List Token). Begins productions (outer part) l (Some (q, d)))
            (take-take (q + 1) p s (omega (arith, lt))) k.there;
      }

  -- the tokens before a syntax fault are no text
  no_text : (s : List Token) (n : ℕ) → read s ≡ Err (fault_from_end n Syntax) → n ≤ length s
      → (t : ExprWithSpot) (o : Fault) → Text (take (length s - n) s) t o → ⊥
  no_text s n e le t None text =
      let p = length s - n in
      let reads_it : read (take p s) ≡ Ok (t, []) = reads productions claims productions_fine (outer part) (outer_fine part) (take p s) t None [] text refl in
      let left : n ≡ length (drop p s) = omega (arith, length-drop p s, le) in
      let again : read (take p s ++ drop p s) ≡ Err (fault_from_end (length (drop p s)) Syntax) =
      ap read (take-append-drop p s) ∙ (e ∙ ap (λ (m : ℕ). Err (fault_from_end m Syntax)) left) in
      no_syntax_fault_after productions claims productions_fine productions_limits (outer part) (outer_fine part)
      (outer_limits part) (take p s) (drop p s) (t, []) reads_it refl again
  no_text s n e le t (Some f) text =
      let p = length s - n in
      let read_it : all (take p s) ≡ Err (fault_from_end (length (take p s) - f.0) f.1) =
      rw (reads productions claims productions_fine (outer part) (outer_fine part) (take p s) t (Some f) [] text
      refl) refl in
      by_code f.1 (fault_is productions claims productions_fine productions_limits (outer part) (outer_fine part)
      (outer_limits part) (take p s) (fault_from_end (length (take p s) - f.0) f.1) read_it)
    where
      here : all s ≡ Err (fault_from_end n Syntax)
      here = rw e refl

      by_code : (d : Code) → IsFirstFault productions (outer part) (take (length s - n) s)
          (length (take (length s - n) s) - (length (take (length s - n) s) - f.0)) d → ⊥
      by_code Syntax k = no_syntax_in (take (length s - n) s) _ t (Some f) k text
      by_code d k =
          let q = length (take (length s - n) s) - (length (take (length s - n) s) - f.0) in
          let limit = limit_of_front s (length s - n) q d (omega arith) k in
          let other = one_fault productions claims productions_fine productions_limits (outer part) (outer_fine part) (outer_limits part) s q d limit in
          let same : d ≡ Syntax = (stop_is (sym other ∙ here)).1 in
          absurd cc

  -- if a fault was met, it is the first one
  pub read_fails : (s : List Token) (n : ℕ) (c : Code) → read s ≡ Err (fault_from_end n c) → IsFirstFaultOf part s (length s - n) c × (n ≤ length s)
  read_fails s n Syntax e =
      let here : all s ≡ Err (fault_from_end n Syntax) = rw e refl in
      let le : n ≤ length s = fault_within productions claims productions_fine productions_limits (outer part)
      (outer_fine part) (outer_limits part) s (fault_from_end n Syntax) here in
      let f = fault_is productions claims productions_fine productions_limits (outer part) (outer_fine part)
      (outer_limits part) s (fault_from_end n Syntax) here in
      let p = length s - n in
      let size : length (take p s) ≡ p = length-take-le p s (omega arith) in (
        (
          record { within = f.within; before = (f.before.0, f.before.1); with_it = f.with_it },
          record {
            within = omega (arith, size);
            before = (
              f.before.0,
              subst (λ (l : List Token). Begins productions (outer part) l f.before.0)
                  (sym (take-take p p s (omega arith))) f.before.1,
              f.before.2,
            );
            with_it = λ lt. absurd (omega (arith, size, lt));
            at_end = λ _ t o text. no_text s n e le t o text;
          },
        ),
        le,
      )
  read_fails s n c e =
      let here : all s ≡ Err (fault_from_end n c) = rw e refl in (
        fault_is productions claims productions_fine productions_limits (outer part) (outer_fine part) (outer_limits part) s (fault_from_end n c) here,
        fault_within productions claims productions_fine productions_limits (outer part) (outer_fine part) (outer_limits part) s (fault_from_end n c) here,
      )

  -- ---- there is one result

  pub same_expression : (s : List Token) (x : ExprWithSpot × List Token) → read s ≡ Ok x
      → (e : ExprWithSpot) (p : ℕ) → IsEnd part s p → Text (take p s) e None
      → (x.0 ≡ e) × (length s - length x.1 ≡ p)
  same_expression s x r e p h text =
      let k = read_ends s x.0 x.1 r in
      let at = one_end s (length s - length x.1) p k.0 h in
      let a = text_only productions claims productions_fine productions_limits (outer part) (outer_fine part) (outer_limits part) (take p s) e text in
      let b = text_only productions claims productions_fine productions_limits (outer part) (outer_fine part)
      (outer_limits part) (take p s) x.0 (subst (λ (m : ℕ). Text (take m s) x.0 None) at k.1) in
      (same_Ok _ _ (sym b ∙ a), at)

  -- a limit's fault is met before the end
  before_end : (s : List Token) (p q : ℕ) (d : Code) → IsEnd part s p → IsLimitFault productions (outer part) s q d
      → IsLimitFault productions (outer part) (take p s) q d
  before_end s p q d h k =
      let w = k.within in
      elim (cases_lt q p) [
        | inl lt ↦ limit_before s p q d h.within lt k
        | inr le ↦
            absurd (h.with_it (omega (arith, le, w)) (Some (q, d))
            (begins_shorter s (p + 1) (q + 1) (Some (q, d)) (omega (arith, le)) k.there))
      ]

  pub no_expression : (s : List Token) (n : ℕ) (c : Code) → read s ≡ Err (fault_from_end n c)
      → (e : ExprWithSpot) (p : ℕ) → IsEnd part s p → Text (take p s) e None → ⊥
  no_expression s n c r e p h text = go c (read_fails s n c r).0
    where
      go : (d : Code) → IsFirstFaultOf part s (length s - n) d → ⊥
      go Syntax k =
          let at = one_end s (length s - n) p k.0 h in
          no_syntax_in (take (length s - n) s) (length s - n) e None k.1 (subst (λ (m : ℕ). Text (take m s) e None) (sym at) text)
      go d k =
          let limit = before_end s p (length s - n) d h k in
          let a = one_fault productions claims productions_fine productions_limits (outer part) (outer_fine part)
          (outer_limits part) (take p s) (length s - n) d limit in
          Ok≢Err _ _ (sym (text_only productions claims productions_fine productions_limits (outer part)
          (outer_fine part) (outer_limits part) (take p s) e text) ∙ a)

  pub no_fault : (s : List Token) (x : ExprWithSpot × List Token) → read s ≡ Ok x → (p : ℕ) (d : Code) → IsFirstFaultOf part s p d → ⊥
  no_fault s x r p Syntax f =
      let k = read_ends s x.0 x.1 r in
      let at = one_end s (length s - length x.1) p k.0 f.0 in
      no_syntax_in (take p s) p x.0 None f.1 (subst (λ (m : ℕ). Text (take m s) x.0 None) at k.1)
  no_fault s x r p d f = ends (length x.1 == 0)
      (sym read_it ∙ one_fault productions claims productions_fine productions_limits (outer part) (outer_fine part)
      (outer_limits part) s p d f)
    where
      read_it : all s ≡ cond (length x.1 == 0) (Ok x.0) (Err (fault_from_end (length x.1) Syntax))
      read_it = rw r refl

      ends : (b : Bool) → cond {A = Result ExprWithSpot ReadFault} b (Ok x.0)
          (Err (fault_from_end (length x.1) Syntax)) ≡ Err (fault_from_end (length s - p) d) → ⊥
      ends true e = Ok≢Err _ _ e
      ends false e = let same : Syntax ≡ d = (stop_is e).1 in cc

  pub same_fault : (s : List Token) (n : ℕ) (c : Code) → read s ≡ Err (fault_from_end n c) → (p : ℕ) (d : Code)
      → IsFirstFaultOf part s p d → (length s - n ≡ p) × (c ≡ d)
  same_fault s n c r p Syntax f = go c (read_fails s n c r).0
    where
      go : (a : Code) → IsFirstFaultOf part s (length s - n) a → (length s - n ≡ p) × (a ≡ Syntax)
      go Syntax k = (one_end s (length s - n) p k.0 f.0, refl)
      go a k =
          let limit = before_end s p (length s - n) a f.0 k in
          let one = one_fault productions claims productions_fine productions_limits (outer part) (outer_fine part)
          (outer_limits part) (take p s) (length s - n) a limit in
          let two = one_fault productions claims productions_fine productions_limits (outer part) (outer_fine part)
          (outer_limits part) (take p s) p Syntax f.1 in
          let same : a ≡ Syntax = (stop_is (sym one ∙ two)).1 in
          absurd cc
  same_fault s n c r p d f =
      let here : all s ≡ Err (fault_from_end n c) = rw r refl in
      let other = one_fault productions claims productions_fine productions_limits (outer part) (outer_fine part) (outer_limits part) s p d f in
      let same = stop_is (sym here ∙ other) in
      let w = f.within in
      (omega (arith, same.0, w), same.1)
