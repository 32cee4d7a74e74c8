-- The byte that ends a comment or a raw block ends its first closing mark. The byte that ends a quoted text is the
-- quote after its items.
use Rattle.std.proofs.Common.{◌≡◌, ℕ, Bool, true, false, eqb, List, [], ◌∷◌, ◌++◌, refl, sym, ◌∙◌, ap, subst, inl, inr}
use Rattle.std.specs.Prelude.{◌&&◌}
use Rattle.std.proofs.lemmas.Bool.{cases_Bool, both_ways, false≢true, and_parts, and_from, eqb-true, eq-eqb, cond-true, cond-false}
use Rattle.jdf_lex.specs.declared.lexical_unit.LexicalUnit.{LexicalUnit}
use Rattle.jdf_lex.specs.declared.lexical_unit.LexicalUnit.TheVariants.{BlockComment, TokenOf}
use Rattle.jdf_lex.specs.declared.kind.TokenKind.TheVariants.{Quoted, Raw}
use Rattle.jdf_lex.specs.Spelling.{ends_unit, affects_next, is_empty, is_closed}
use Rattle.text_laws.specs.Forms.{IsFreeOf, IsQuotedItems}
use Rattle.text_laws.specs.Forms.IsQuotedItems.{none, escaped, plain}

-- ---- closing marks of two bytes

-- the unit is closed by the bytes a and b
pub record IsClosedBy (p : LexicalUnit) (a b : ℕ) : Type 0 where
  ends : (h : Bool) (x : ℕ) → ends_unit p h x ≡ (h && eqb x b)
  affects : (h : Bool) (x : ℕ) → affects_next p h x ≡ eqb x a
  apart : eqb b a ≡ false

pub comment_closed_by : IsClosedBy BlockComment 42 47
comment_closed_by = record { ends = λ h x. refl; affects = λ h x. refl; apart = refl }

pub raw_closed_by : IsClosedBy (TokenOf Raw) 37 125
raw_closed_by = record { ends = λ h x. refl; affects = λ h x. refl; apart = refl }

-- the list is a word without the mark, and then the mark
pub record IsFreeThenMark (a b : ℕ) (xs : List ℕ) : Type 0 where
  pub word : List ℕ
  pub whole : xs ≡ word ++ a ∷ b ∷ []
  pub free : IsFreeOf (a ∷ b ∷ []) word

free_nil : (a b : ℕ) → IsFreeOf (a ∷ b ∷ []) []
free_nil a b [] after e = cc
free_nil a b (d ∷ before) after e = cc

free_tail : (a b x : ℕ) (w : List ℕ) → IsFreeOf (a ∷ b ∷ []) (x ∷ w) → IsFreeOf (a ∷ b ∷ []) w
free_tail a b x w free before after e = free (x ∷ before) after (ap (λ z. x ∷ z) e)

free_cons : (a b x y : ℕ) (ys w : List ℕ) → (eqb x a && eqb y b) ≡ false → y ∷ ys ≡ w ++ a ∷ b ∷ [] → IsFreeOf (a ∷ b ∷ []) w → IsFreeOf (a ∷ b ∷ []) (x ∷ w)
free_cons a b x y ys w apart whole free [] after e =
    let first : x ≡ a = cc in
    let rest : w ≡ b ∷ after = cc in
    let here : y ∷ ys ≡ (b ∷ after) ++ a ∷ b ∷ [] = whole ∙ ap (λ z. z ++ a ∷ b ∷ []) rest in
    let second : y ≡ b = cc in
    both_ways (eqb x a && eqb y b) apart (and_from (eqb x a) (eqb y b) (eq-eqb x a first) (eq-eqb y b second))
free_cons a b x y ys w apart whole free (d ∷ before) after e =
    let tails : w ≡ before ++ a ∷ b ∷ after = cc in
    free before after tails

ends_here : (a b x y : ℕ) (ys : List ℕ) → x ≡ a → y ≡ b → is_empty ys ≡ true → IsFreeThenMark a b (x ∷ y ∷ ys)
ends_here a b x y [] first second empty = record { word = []; whole = (λ i. first i ∷ second i ∷ []); free = free_nil a b }
ends_here a b x y (z ∷ ys) first second empty = absurd (false≢true empty)

ends_later : (a b x y : ℕ) (ys : List ℕ) → (eqb x a && eqb y b) ≡ false → IsFreeThenMark a b (y ∷ ys) → IsFreeThenMark a b (x ∷ y ∷ ys)
ends_later a b x y ys apart later =
    record { word = x ∷ later.word; whole = ap (λ z. x ∷ z) later.whole; free = free_cons a b x y ys later.word apart later.whole later.free }

-- what is closed after a byte x: with x it is a word without the mark, and then the mark
closed_after : (p : LexicalUnit) (a b : ℕ) → IsClosedBy p a b → (x : ℕ) (v : List ℕ) → is_closed p (eqb x a) v ≡ true → IsFreeThenMark a b (x ∷ v)
closed_after p a b m x [] e = absurd (false≢true e)
closed_after p a b m x (y ∷ ys) e =
    let t = ends_unit p (eqb x a) y in
    let next = affects_next p (eqb x a) y in
    elim (cases_Bool t) [
      | inl ends ↦
          let both = and_parts (eqb x a) (eqb y b) (sym (m.ends (eqb x a) y) ∙ ends) in
          ends_here a b x y ys (eqb-true x a both.0) (eqb-true y b both.1) (sym (cond-true t (is_empty ys) (is_closed p next ys) ends) ∙ e)
      | inr goes ↦
          let on : is_closed p next ys ≡ true = sym (cond-false t (is_empty ys) (is_closed p next ys) goes) ∙ e in
          ends_later a b x y ys (sym (m.ends (eqb x a) y) ∙ goes)
          (closed_after p a b m y ys (subst (λ h. is_closed p h ys ≡ true) (m.affects (eqb x a) y) on))
    ]

without_first : (a b : ℕ) (v w : List ℕ) → eqb b a ≡ false → b ∷ v ≡ w ++ a ∷ b ∷ [] → IsFreeOf (a ∷ b ∷ []) w → IsFreeThenMark a b v
without_first a b v [] apart whole free =
    let same : b ≡ a = cc in
    absurd (both_ways (eqb b a) apart (eq-eqb b a same))
without_first a b v (d ∷ w) apart whole free =
    let tails : v ≡ w ++ a ∷ b ∷ [] = cc in
    record { word = w; whole = tails; free = free_tail a b d w free }

-- A closed list is a word without the closing mark, and then the mark.
pub closed_is_free : (p : LexicalUnit) (a b : ℕ) → IsClosedBy p a b → (v : List ℕ) → is_closed p false v ≡ true → IsFreeThenMark a b v
closed_is_free p a b m v e =
    let found = closed_after p a b m b v (subst (λ h. is_closed p h v ≡ true) (sym m.apart) e) in
    without_first a b v found.word m.apart found.whole found.free

not_nil : (a b : ℕ) (w : List ℕ) → [] ≡ w ++ a ∷ b ∷ [] → ⊥
not_nil a b [] e = cc
not_nil a b (d ∷ w) e = cc

-- the mark does not end one byte earlier
not_earlier : (a b x y : ℕ) (ys w : List ℕ) → eqb b a ≡ false → x ≡ a → y ≡ b → y ∷ ys ≡ w ++ a ∷ b ∷ [] → IsFreeOf (a ∷ b ∷ []) (x ∷ w) → ⊥
not_earlier a b x y ys [] apart first second whole free =
    let same : b ≡ a = cc in
    both_ways (eqb b a) apart (eq-eqb b a same)
not_earlier a b x y ys (c ∷ w) apart first second whole free =
    let heads : c ≡ b = cc in
    free [] w (λ i. first i ∷ heads i ∷ w)

free_after : (p : LexicalUnit) (a b : ℕ) → IsClosedBy p a b → (w : List ℕ) (x : ℕ) (v : List ℕ)
    → IsFreeOf (a ∷ b ∷ []) w → x ∷ v ≡ w ++ a ∷ b ∷ [] → is_closed p (eqb x a) v ≡ true
free_after p a b m [] x v free e =
    let first : x ≡ a = cc in
    let rest : v ≡ b ∷ [] = cc in
    let ends : ends_unit p (eqb x a) b ≡ true = m.ends (eqb x a) b ∙ and_from (eqb x a) (eqb b b) (eq-eqb x a first) (eq-eqb b b refl) in
    subst (λ z. is_closed p (eqb x a) z ≡ true) (sym rest) (cond-true (ends_unit p (eqb x a) b) true (is_closed p (affects_next p (eqb x a) b) []) ends)
free_after p a b m (d ∷ w) x [] free e =
    let tails : [] ≡ w ++ a ∷ b ∷ [] = cc in
    absurd (not_nil a b w tails)
free_after p a b m (d ∷ w) x (y ∷ ys) free e =
    let heads : x ≡ d = cc in
    let tails : y ∷ ys ≡ w ++ a ∷ b ∷ [] = cc in
    let t = ends_unit p (eqb x a) y in
    let next = affects_next p (eqb x a) y in
    let here : IsFreeOf (a ∷ b ∷ []) (x ∷ w) = subst (λ z. IsFreeOf (a ∷ b ∷ []) (z ∷ w)) (sym heads) free in
    elim (cases_Bool t) [
      | inl ends ↦
          let both = and_parts (eqb x a) (eqb y b) (sym (m.ends (eqb x a) y) ∙ ends) in
          absurd (not_earlier a b x y ys w m.apart (eqb-true x a both.0) (eqb-true y b both.1) tails here)
      | inr goes ↦
          let on = free_after p a b m w y ys (free_tail a b d w free) tails in
          cond-false t (is_empty ys) (is_closed p next ys) goes ∙ subst (λ h. is_closed p h ys ≡ true) (sym (m.affects (eqb x a) y)) on
    ]

free_with_first : (a b : ℕ) (w : List ℕ) → eqb b a ≡ false → IsFreeOf (a ∷ b ∷ []) w → IsFreeOf (a ∷ b ∷ []) (b ∷ w)
free_with_first a b w apart free [] after e =
    let same : b ≡ a = cc in
    both_ways (eqb b a) apart (eq-eqb b a same)
free_with_first a b w apart free (d ∷ before) after e =
    let tails : w ≡ before ++ a ∷ b ∷ after = cc in
    free before after tails

-- A word without the closing mark, and then the mark, is closed.
pub free_is_closed : (p : LexicalUnit) (a b : ℕ) → IsClosedBy p a b → (w : List ℕ) → IsFreeOf (a ∷ b ∷ []) w → is_closed p false (w ++ a ∷ b ∷ []) ≡ true
free_is_closed p a b m w free =
    subst (λ h. is_closed p h (w ++ a ∷ b ∷ []) ≡ true) m.apart
    (free_after p a b m (b ∷ w) b (w ++ a ∷ b ∷ []) (free_with_first a b w m.apart free) refl)

-- ---- quoted texts

pub record IsItemsThenQuote (xs : List ℕ) : Type 0 where
  pub items : List ℕ
  pub whole : xs ≡ items ++ 34 ∷ []
  pub each : IsQuotedItems items

abbrev quoted_closed : Bool → List ℕ → Bool
quoted_closed h xs = is_closed (TokenOf Quoted) h xs

after_escape : (b c : ℕ) (cs : List ℕ) → b ≡ 92 → IsItemsThenQuote cs → IsItemsThenQuote (b ∷ c ∷ cs)
after_escape b c cs same later =
    record { items = 92 ∷ c ∷ later.items; whole = (λ i. same i ∷ c ∷ later.whole i); each = escaped c later.items later.each }

after_plain : (b : ℕ) (cs : List ℕ) → eqb b 34 ≡ false → eqb b 92 ≡ false → IsItemsThenQuote cs → IsItemsThenQuote (b ∷ cs)
after_plain b cs no_quote no_escape later =
    record { items = b ∷ later.items; whole = ap (λ z. b ∷ z) later.whole; each = plain b later.items no_quote no_escape later.each }

-- A closed quoted text is items, and then a quote.
pub closed_is_items : (v : List ℕ) → quoted_closed false v ≡ true → IsItemsThenQuote v
closed_is_items [] e = absurd (false≢true e)
closed_is_items (b ∷ []) e =
    elim (cases_Bool (eqb b 34)) [
      | inl quote ↦ record { items = []; whole = ap (λ z. z ∷ []) (eqb-true b 34 quote); each = none }
      | inr other ↦ absurd (false≢true (sym (cond-false (eqb b 34) true false other) ∙ e))
    ]
closed_is_items (b ∷ c ∷ cs) e =
    elim (cases_Bool (eqb b 34)) [
      | inl quote ↦ absurd (false≢true (sym (cond-true (eqb b 34) false (quoted_closed (eqb b 92) (c ∷ cs)) quote) ∙ e))
      | inr other ↦
          let on : quoted_closed (eqb b 92) (c ∷ cs) ≡ true = sym (cond-false (eqb b 34) false (quoted_closed (eqb b 92) (c ∷ cs)) other) ∙ e in
          elim (cases_Bool (eqb b 92)) [
            | inl escape ↦ after_escape b c cs (eqb-true b 92 escape) (closed_is_items cs (subst (λ h. quoted_closed h (c ∷ cs) ≡ true) escape on))
            | inr no_escape ↦ after_plain b (c ∷ cs) other no_escape (closed_is_items (c ∷ cs) (subst (λ h. quoted_closed h (c ∷ cs) ≡ true) no_escape on))
          ]
    ]

-- Items, and then a quote, are closed.
pub items_are_closed : (w : List ℕ) → IsQuotedItems w → quoted_closed false (w ++ 34 ∷ []) ≡ true
items_are_closed _ (none) = refl
items_are_closed _ (escaped b w items) = items_are_closed w items
items_are_closed _ (plain b w no_quote no_escape items) =
    let on = quoted_closed (eqb b 92) (w ++ 34 ∷ []) in
    cond-false (eqb b 34) (is_empty (w ++ 34 ∷ [])) on no_quote ∙ subst (λ h. quoted_closed h (w ++ 34 ∷ []) ≡ true) (sym no_escape) (items_are_closed w items)
