-- The number of tokens of fragments, and of those that count for the limit of an expression.
use Rattle.std.proofs.Common.{◌≡◌, ℕ, ◌+◌, ◌*◌, ◌≤◌, Bool, true, false, cond, List, [], ◌∷◌, ◌++◌, length, refl, sym, ap, subst, ◌∙◌, arith, length-append}
use Rattle.std.specs.Prelude.{codes}
use Rattle.std.specs.Fmt.{signed_decimal}
use Rattle.grammar_core.specs.declared.token.Token.{Token}
use Rattle.jdf_lex.specs.declared.terminal.Terminal.{Terminal}
use Rattle.jdf_lex.specs.Terminals.{words, marks}
use Rattle.jdf_lex.specs.Counted.{is_counted}
use Rattle.jdf_lex.specs.Sets.{limit_at}
use Rattle.grammar_core.specs.Production.{taken}
use Rattle.jdf_tree.specs.Expression.{Expression, Num, Name, Elem, Unary, Binary, Choose}
use Rattle.jdf_print.specs.Fragments.{Fragment, token, blank, between, token_count}
use Rattle.jdf_print.specs.Spelling as print
use Rattle.print_laws.proofs.Readable.{Reads, terminal_at, like_terminal}
use Rattle.print_laws.proofs.Limits.{number_of, few_fit}

-- The number of words of these terminals.
abbrev pub words_of : (Terminal → Bool) → List Fragment → ℕ
words_of q [] = 0
words_of q (token w ∷ ps) = cond (q (terminal_at w)) 1 0 + words_of q ps
words_of q (blank b ∷ ps) = words_of q ps

-- The front of the tokens that the fragments are read as, and its sizes.
pub record Cover (q : Terminal → Bool) (ps : List Fragment) (s r : List Token) : Type 0 where
  pub front : List Token
  pub whole : s ≡ front ++ r
  pub size : length front ≡ token_count ps
  pub some : number_of q front ≡ words_of q ps

pub cover : (q : Terminal → Bool) (ps : List Fragment) (s r : List Token) → Reads ps s r → Cover q ps s r
cover q [] s r h = record { front = []; whole = h; size = refl; some = refl }
cover q (token w ∷ ps) s r h =
    let k = cover q ps h.1 r h.4 in
    record {
      front = h.0 ∷ k.front;
      whole = h.2 ∙ ap (λ (l : List Token). h.0 ∷ l) k.whole;
      size = omega (arith, k.size);
      some = ap (λ (a : Terminal). cond (q a) 1 0 + number_of q k.front) (like_terminal h.0 w h.3) ∙ ap (λ (n : ℕ). cond (q (terminal_at w)) 1 0 + n) k.some;
    }
cover q (blank b ∷ ps) s r h = let k = cover q ps s r h in record { front = k.front; whole = k.whole; size = k.size; some = k.some }

pub token_count-append : (ps qs : List Fragment) → token_count (ps ++ qs) ≡ token_count ps + token_count qs
token_count-append [] qs = omega arith
token_count-append (token w ∷ ps) qs = omega (arith, token_count-append ps qs)
token_count-append (blank b ∷ ps) qs = token_count-append ps qs

words_of-append : (q : Terminal → Bool) (ps qs : List Fragment) → words_of q (ps ++ qs) ≡ words_of q ps + words_of q qs
words_of-append q [] qs = omega arith
words_of-append q (token w ∷ ps) qs = omega (arith, words_of-append q ps qs)
words_of-append q (blank b ∷ ps) qs = words_of-append q ps qs

-- The number of names, numbers and operators of an expression.
abbrev pub weight : Expression → ℕ
weight (Num z spot) = 1
weight (Name w) = 1
weight (Elem w a) = 1 + weight a
weight (Unary o a spot) = 1 + weight a
weight (Binary o a b) = 1 + (weight a + weight b)
weight (Choose c a b) = 1 + (weight c + (weight a + weight b))

-- An expression's spelling has at most four tokens for each name, number and operator.
pub tokens_at_most : (e : Expression) → token_count (print.expression e) ≤ 4 * weight e
tokens_at_most (Num z spot) = omega arith
tokens_at_most (Name w) = omega arith
tokens_at_most (Elem w a) = omega (arith, token_count-append (print.expression a) (token (codes "]") ∷ []), tokens_at_most a)
tokens_at_most (Unary o a spot) = omega (arith, token_count-append (print.expression a) (token (codes ")") ∷ []), tokens_at_most a)
tokens_at_most (Binary o a b) =
    let B = between (print.operator o) ++ print.expression b in
    omega (
      arith,
      token_count-append (print.expression a ++ B) (token (codes ")") ∷ []),
      token_count-append
          (print.expression a) B,
      tokens_at_most a,
      tokens_at_most b,
    )
tokens_at_most (Choose c a b) =
    let B = between (codes ":") ++ print.expression b in
    let A = between (codes "?") ++ (print.expression a ++ B) in
    omega (
      arith,
      token_count-append (print.expression c ++ A) (token (codes ")") ∷ []),
      token_count-append
          (print.expression c) A,
      token_count-append (print.expression a) B,
      tokens_at_most c,
      tokens_at_most a,
      tokens_at_most b,
    )

at_most_one : (b : Bool) → cond b 1 0 ≤ 1
at_most_one true = omega arith
at_most_one false = omega arith

-- Parentheses, and the colon of a choice, do not count.
no_left : is_counted (terminal_at (codes "(")) ≡ false
unfolding words marks is_counted
no_left = refl

no_right : is_counted (terminal_at (codes ")")) ≡ false
unfolding words marks is_counted
no_right = refl

no_colon : is_counted (terminal_at (codes ":")) ≡ false
unfolding words marks is_counted
no_colon = refl

abbrev none : Bool → ℕ
none b = cond b 1 0

no_brackets : (is_counted (terminal_at (codes "[")) ≡ false) × (is_counted (terminal_at (codes "]")) ≡ false)
unfolding words marks is_counted
no_brackets = (refl, refl)

-- At most as many of its tokens count as the expression weighs.
pub counted_at_most : (e : Expression) → words_of is_counted (print.expression e) ≤ weight e
counted_at_most (Num z spot) = omega (arith, at_most_one (is_counted (terminal_at (signed_decimal z))))
counted_at_most (Name w) = omega (arith, at_most_one (is_counted (terminal_at w.text)))
counted_at_most (Elem w a) =
    omega (
      arith,
      ap none no_brackets.0,
      ap none no_brackets.1,
      at_most_one (is_counted (terminal_at w.text)),
      words_of-append is_counted (print.expression a) (token (codes "]") ∷ []),
      counted_at_most a,
    )
counted_at_most (Unary o a spot) =
    omega (
      arith,
      ap none no_left,
      ap none no_right,
      at_most_one (is_counted (terminal_at (print.sign o))),
      words_of-append is_counted (print.expression a) (token (codes ")") ∷ []),
      counted_at_most a,
    )
counted_at_most (Binary o a b) =
    let B = between (print.operator o) ++ print.expression b in
    omega (
      arith,
      ap none no_left,
      ap none no_right,
      at_most_one (is_counted (terminal_at (print.operator o))),
      words_of-append is_counted (print.expression a ++ B) (token (codes ")") ∷ []),
      words_of-append is_counted (print.expression a) B,
      counted_at_most a,
      counted_at_most b,
    )
counted_at_most (Choose c a b) =
    let B = between (codes ":") ++ print.expression b in
    let A = between (codes "?") ++ (print.expression a ++ B) in
    omega (
      arith,
      ap none no_left,
      ap none no_right,
      ap none no_colon,
      at_most_one (is_counted (terminal_at (codes "?"))),
      words_of-append is_counted (print.expression c ++ A) (token (codes ")") ∷ []),
      words_of-append is_counted (print.expression c) A,
      words_of-append is_counted (print.expression a) B,
      counted_at_most c,
      counted_at_most a,
      counted_at_most b,
    )

-- So the spelling of an expression that weighs at most 128 is within the limit.
pub within_limit : (e : Expression) → weight e ≤ 128 → (s r : List Token) → Reads (print.expression e) s r → taken s r ≤ limit_at is_counted 512 128 s
within_limit e small s r h =
    let k = cover is_counted (print.expression e) s r h in
    let fit = few_fit is_counted k.front 512 128 r (omega (arith, k.size, tokens_at_most e)) (omega (arith, k.some, counted_at_most e)) in
    let Fit : List Token → Type 0 = λ l. taken l r ≤ limit_at is_counted 512 128 l in
    subst Fit (sym k.whole) (omega (arith, fit, length-append k.front r))
