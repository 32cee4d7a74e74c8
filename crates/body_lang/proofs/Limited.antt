-- The two limits of a body as one: the smaller of their indices, and its code.
use Rattle.std.proofs.Common.{◌≡◌, ℕ, ◌-◌, ◌+◌, ◌≤◌, ◌<◌, Bool, true, false, cond, List, ◌∷◌, ◌++◌, length, take, drop, Ok, Err, refl, inl, inr, sym}
use Rattle.std.proofs.Common.{ap, ◌∙◌, arith}
use Rattle.std.specs.Prelude.{◌==◌, nat_lt, nat_le, min, if◌then◌else◌}
use Rattle.std.proofs.lemmas.Bool.{le-ltb, lt-ltb, cases_lt, le-leb, lt-leb}
use Rattle.std.proofs.lemmas.Bool.Decides.{nat_tests}
use Rattle.grammar_core.specs.declared.fault.ReadFault.{ReadFault}
use Rattle.grammar_core.specs.declared.token.Token.{Token}
use Rattle.grammar_core.specs.declared.code.Code.{Code}
use Rattle.jdf_lex.specs.Codes.{TooDeep, TooManyVars}
use Rattle.grammar_core.specs.Production.{Limit, Derives, Derived}
use Rattle.grammar_core.specs.Predictive.{is_fine}
use Rattle.grammar_core.specs.Reading.{Read, judge, reading, fault_from_end}
use Rattle.grammar_core.proofs.CallerLemmas.{Sound, sound}
use Rattle.jdf_lex.specs.Terminals.{terminal_at}
use Rattle.jdf_tree.specs.BodyLimits.{block_limit, variable_limit}
use Rattle.jdf_tree.specs.ExpressionGrammar.{number, parens, index, reference, signed, unary, product, sum, relation, equality, conjunction}
use Rattle.jdf_tree.specs.ExpressionGrammar.{disjunction, branches, expr, outer}
use Rattle.jdf_tree.specs.BodyGrammar.{block, value, declaration, element, assignment, condition, otherwise, choice, for_loop, trap_statement}
use Rattle.jdf_tree.specs.BodyGrammar.{statement, statements, text, body}
use Rattle.jdf_tree.specs.Grammar.{productions, claims}
use Rattle.jdf_tree.specs.Statements.{Statements}
use Rattle.jdf_tree.proofs.CallerLemmas.{productions_fine}
use Rattle.expr_read.proofs.CallerLemmas as windows

pub text_fine : is_fine claims text ≡ true
unfolding terminal_at text block statements statement declaration choice for_loop trap_statement assignment element
    value condition otherwise outer expr branches disjunction conjunction equality relation sum product unary signed
    number reference index parens
text_fine = refl

text_sound : (s : List Token) → Sound (Derives (Derived productions) text) (reading productions text) s
text_sound s = sound productions claims productions_fine text text_fine s

-- ---- the first of two limits

lower_one : (a b : ℕ) → 1 ≤ a → 1 ≤ b → 1 ≤ min a b
lower_one a b h k = omega arith

lower_stays : (n a b a' b' : ℕ) → (a ≡ n → a' ≡ n) → (b ≡ n → b' ≡ n) → (n ≤ a → n ≤ a') → (n ≤ b → n ≤ b') → min a b ≡ n → min a' b' ≡ n
lower_stays n a b a' b' f g f' g' e = go (nat_le a b) refl
  where
    go : (t : Bool) → nat_le a b ≡ t → min a' b' ≡ n
    go true h =
        let le : a ≤ b = grind (arith, nat_tests) in
        let x = f (omega (arith, e, le)) in let y = g' (omega (arith, e, le)) in omega (arith, x, y)
    go false h =
        let lt : b < a = grind (arith, nat_tests) in
        let x = g (omega (arith, e, lt)) in let y = f' (omega (arith, e, lt)) in omega (arith, x, y)

pub both : Limit
both =
    record {
      at = λ s. min (block_limit.at s) (variable_limit.at s);
      one = λ s. lower_one (block_limit.at s) (variable_limit.at s) (block_limit.one s) (variable_limit.one s);
      keeps = λ w r r' h.
          let a = block_limit.keeps w r r' (omega (arith, h)) in let b = variable_limit.keeps w r r' (omega (arith, h)) in omega (arith, a, b);
      stays = λ w x r r' h.
          lower_stays (length w) (block_limit.at (w ++ x ∷ r)) (variable_limit.at (w ++ x ∷ r)) (block_limit.at (w ++ x ∷ r')) (variable_limit.at (w ++ x ∷ r'))
          (block_limit.stays w x r r') (variable_limit.stays w x r r') (block_limit.keeps w (x ∷ r) (x ∷ r')) (variable_limit.keeps w (x ∷ r) (x ∷ r')) h;
    }

-- the code of the smaller index
abbrev pub code_of : List Token → Code
code_of s = if nat_le (block_limit.at s) (variable_limit.at s) then TooDeep else TooManyVars

abbrev failed : ReadFault → Read Statements
failed n = Err n

abbrev left_of : Read Statements → ℕ
left_of (Ok x) = 0
left_of (Err n) = n.left

-- ---- one limit after another

-- a reading that took n of `size` tokens, under the limit l
abbrev limit : {A : Type 0} → ℕ → ℕ → Code → ℕ → Read A → Read A
limit size l e n r = cond (nat_lt l n) (Err (fault_from_end (size - l) e)) r

module _ {A : Type 0} (a b size : ℕ) (c d : Code) where
  passed : (n : ℕ) → n ≤ size → (r : Read A) → a < n
      → limit {A = A} size b d (size - (size - a)) (Err (fault_from_end (size - a) c))
      ≡ limit size (min a b) (cond (nat_le a b) c d) n r
  passed n fits r h = elim (cases_lt b a) [
    | inl lt ↦
        let low : min a b ≡ b = omega (arith, lt) in
        let again : size - (size - a) ≡ a = omega (arith, h, fits) in
        rw (again, low, lt-leb a b lt, lt-ltb b a lt, lt-ltb b n (omega (arith, lt, h))) refl
    | inr le ↦
        let low : min a b ≡ a = omega (arith, le) in
        let again : size - (size - a) ≡ a = omega (arith, h, fits) in
        rw (again, low, le-leb a b le, le-ltb b a le, lt-ltb a n h) refl
  ]

  kept : (n : ℕ) (r : Read A) → n ≤ a → limit size b d n r ≡ limit size (min a b) (cond (nat_le a b) c d) n r
  kept n r h = elim (cases_lt b n) [
    | inl lt ↦
        let low : min a b ≡ b = omega (arith, lt, h) in
        rw (low, lt-leb a b (omega (arith, lt, h)), lt-ltb b n lt) refl
    | inr le ↦ rw (le-ltb b n le, le-ltb (min a b) n (omega (arith, le, h))) refl
  ]

pub one_limit : {A : Type 0} (a b : ℕ) (c d : Code) (s : List Token) (r : Read A) → judge b d s (judge a c s r) ≡ judge (min a b) (cond (nat_le a b) c d) s r
one_limit {A} a b c d s (Ok x) = elim (cases_lt a (length s - length x.1)) [
  | inl lt ↦ rw (lt-ltb a (length s - length x.1) lt) (passed a b (length s) c d (length s - length x.1) (omega arith) (Ok x) lt)
  | inr le ↦ rw (le-ltb a (length s - length x.1) le) (kept a b (length s) c d (length s - length x.1) (Ok x) le)
]
one_limit {A} a b c d s (Err e) = elim (cases_lt a (length s - e.left)) [
  | inl lt ↦ rw (lt-ltb a (length s - e.left) lt) (passed a b (length s) c d (length s - e.left) (omega arith) (Err e) lt)
  | inr le ↦ rw (le-ltb a (length s - e.left) le) (kept a b (length s) c d (length s - e.left) (Err e) le)
]

judged : (s : List Token) → reading productions body s ≡ judge (both.at s) (code_of s) s (reading productions text s)
unfolding body both
judged s = one_limit (block_limit.at s) (variable_limit.at s) TooDeep TooManyVars s (reading productions text s)

-- ---- a body in its window

pub within_limit : (s : List Token) → length s ≤ min (block_limit.at s) (variable_limit.at s) → reading productions body s ≡ reading productions text s
unfolding both
within_limit s le = windows.within_limit both code_of (Derives (Derived productions) text)
    (reading productions text) text_sound (reading productions body) judged s le

pub text_within : (s : List Token) (f : ReadFault) → reading productions text s ≡ Err f → f.left ≤ length s
text_within s f e = windows.fault_within both code_of (Derives (Derived productions) text)
    (reading productions text) text_sound (reading productions body) judged s f e

module _ (s w v : List Token) (limit : ℕ) (is_limit : limit ≡ min (block_limit.at s) (variable_limit.at s))
    (front : w ≡ take (limit + 1) s) (back : v ≡ drop (limit + 1) s) (long : limit < length s) where
  pub slice : (t : Statements) (rest : List Token) → reading productions text w ≡ Ok (t, rest) → false ≡ (length rest == 0)
      → reading productions body s ≡ Ok (t, take (length s - (length w - length rest)) (drop (length w - length rest) s))
  unfolding both
  slice t rest e some = windows.slice both code_of (Derives (Derived productions) text) (reading productions text)
      text_sound (reading productions body) judged s w v limit is_limit front back long t rest e some

  pub fault : (f : ReadFault) → 0 < f.left → reading productions text w ≡ Err f → reading productions body s ≡ Err (fault_from_end (f.left + length v) f.code)
  unfolding both
  fault f some e = windows.fault both code_of (Derives (Derived productions) text) (reading productions text)
      text_sound (reading productions body) judged s w v limit is_limit front back long f some e

  cut : ((t : Statements) (rest : List Token) → 0 < length rest → reading productions text w ≡ Ok (t, rest) → ⊥)
      → ((n : ReadFault) → 0 < n.left → reading productions text w ≡ Err n → ⊥)
      → reading productions body s ≡ Err (fault_from_end (length s - limit) (code_of s))
  unfolding both
  cut a b = windows.cut both code_of (Derives (Derived productions) text) (reading productions text) text_sound
      (reading productions body) judged s w v limit is_limit front back long a b

  -- the tokens were read up to the end of the window and no further
  pub cut_after : (t : Statements) (rest : List Token) → reading productions text w ≡ Ok (t, rest)
      → true ≡ (length rest == 0) → reading productions body s ≡ Err (fault_from_end (length s - limit) (code_of s))
  cut_after t rest e none = cut (λ t' rest' some e'. absurd (some_left t' rest' some e')) (λ n some e'. absurd (no_err n e'))
    where
      same : (x y : Statements × List Token) → reading productions text w ≡ Ok x → reading productions text w ≡ Ok y → x ≡ y
      same x y e f = let g : Ok x ≡ Ok y = sym e ∙ f in cc

      some_left : (t' : Statements) (rest' : List Token) → 0 < length rest' → reading productions text w ≡ Ok (t', rest') → ⊥
      some_left t' rest' some e' =
          let g : length rest ≡ length rest' = ap (λ (x : Statements × List Token). length x.1) (same (t, rest) (t', rest') e e') in
          let z : length rest ≡ 0 = grind (arith, nat_tests) in omega (arith, g, z, some)

      no_err : (n : ReadFault) → reading productions text w ≡ Err n → ⊥
      no_err n e' = cc

  pub cut_at_fault : (f : ReadFault) → reading productions text w ≡ Err f → f.left ≡ 0
      → reading productions body s ≡ Err (fault_from_end (length s - limit) (code_of s))
  cut_at_fault f e none = cut (λ t rest some e'. absurd (no_ok t rest e')) (λ n some e'. absurd (left n some e'))
    where
      no_ok : (t : Statements) (rest : List Token) → reading productions text w ≡ Ok (t, rest) → ⊥
      no_ok t rest e' = cc

      left : (n : ReadFault) → 0 < n.left → reading productions text w ≡ Err n → ⊥
      left n some e' =
          let same : n.left ≡ 0 = stop_of n f (sym e' ∙ e) ∙ none in omega (arith, same, some)
        where
          stop_of : (n m : ReadFault) → failed n ≡ failed m → n.left ≡ m.left
          stop_of n m e = ap left_of e
