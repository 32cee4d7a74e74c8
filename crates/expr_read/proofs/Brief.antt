-- An expression of at most 128 tokens is within the limit, whatever they are.
use Rattle.std.proofs.Common.{◌≡◌, ℕ, zero, suc, ◌-◌, ◌+◌, ◌≤◌, ◌<◌, Bool, min, true, false, List, [], ◌∷◌, ◌++◌, length, take, drop, get_or}
use Rattle.std.proofs.Common.{append_assoc, Ok, refl, sym, ap, ◌∙◌, arith}
use Rattle.std.specs.Prelude.{◌==◌}
use Rattle.std.proofs.lemmas.Bool.{le-ltb}
use Rattle.std.proofs.lemmas.List.{length-append, take-append-drop, length-take-le, take_rest}
use Rattle.std.proofs.lemmas.Bool.Decides.{nat_tests}
use Rattle.grammar_core.specs.declared.token.Token.{Token}
use Rattle.jdf_lex.specs.Codes.{ExprTooLong}
use Rattle.jdf_lex.specs.Counted.{expression_limit, is_counted}
use Rattle.grammar_core.specs.TooMany.{token_indices, limit_at}
use Rattle.grammar_core.specs.CountedLimit.{indices_none, indices_kept, indices_passed, not_before}
use Rattle.grammar_core.specs.Terminals.{Terminal, terminal_of}
use Rattle.jdf_lex.specs.Terminals.{set}
use Rattle.grammar_core.specs.Reading.{Read, judge, reading}
use Rattle.grammar_core.proofs.CallerLemmas.{SameHead}
use Rattle.jdf_tree.specs.declared.expression.ExprWithSpot.{ExprWithSpot}
use Rattle.jdf_tree.specs.Grammar.{productions}
use Rattle.expr_read.specs.declared.window.Outermost.{Outermost}
use Rattle.expr_read.specs.Precedences.{form_of, limited_form}
use Rattle.expr_read.proofs.InWindow.{limited_is, form_sound, rest_is}

-- the first token that is too many is not among the next k if k more may be counted
at_least_from : (q : Terminal → Bool) (k i cap n : ℕ) (s : List Token) → i + k ≤ cap → k ≤ n → i + k ≤ min cap (get_or (token_indices q i s) n cap)
at_least_from q zero i cap n s a b = omega (arith, not_before q s i n cap)
at_least_from q (suc k) i cap zero s a b = absurd (omega arith)
at_least_from q (suc k) i cap (suc n) [] a b = rw (indices_none q i) (omega arith)
at_least_from q (suc k) i cap (suc n) (x ∷ s) a b =
    go (q (terminal_of x)) refl (at_least_from q k (i + 1) cap n s (omega arith) (omega arith))
    (at_least_from q k (i + 1) cap (suc n) s (omega arith) (omega arith))
  where
    go : (c : Bool) → q (terminal_of x) ≡ c → i + 1 + k ≤ min cap (get_or (token_indices q (i + 1) s) n cap)
        → i + 1 + k ≤ min cap (get_or (token_indices q (i + 1) s) (suc n) cap)
        → i + suc k ≤ min cap (get_or (token_indices q i (x ∷ s)) (suc n) cap)
    go true e f g = rw (indices_kept q i x s e) (omega arith)
    go false e f g = rw (indices_passed q i x s e) (omega arith)

at_least : (q : Terminal → Bool) (k cap n : ℕ) (s : List Token) → k ≤ cap → k ≤ n → k ≤ limit_at q cap n s
unfolding limit_at
at_least q k cap n s a b = omega (arith, at_least_from q k 0 cap n s (omega arith) b)

limit_is_late : (s : List Token) → 128 ≤ expression_limit.at s
limit_is_late s = at_least (set is_counted) 128 512 128 s (omega arith) (omega arith)

same_head : (rest v : List Token) → 0 < length rest → SameHead rest (rest ++ v)
same_head [] v some = absurd (omega arith)
same_head (x ∷ rest) v some = refl

-- an expression of at most 128 tokens is within the limit
judged : (s : List Token) (t : ExprWithSpot) (r : List Token) → length s - length r ≤ 128 → judge (expression_limit.at s) ExprTooLong s (Ok (t, r)) ≡ Ok (t, r)
judged s t r few = let late = limit_is_late s in rw (le-ltb (expression_limit.at s) (length s - length r) (omega (arith, few, late))) refl

module _ (o : Outermost) (s w v : List Token) (front : w ≡ take (128 + 1) s) (back : v ≡ drop (128 + 1) s) (long : 128 < length s) where
  parts : s ≡ w ++ v
  parts = sym (take-append-drop (128 + 1) s) ∙ ap (λ (l : List Token). l ++ drop (128 + 1) s) (sym front) ∙ ap (λ (l : List Token). w ++ l) (sym back)

  -- an expression that ends among the first tokens, and the tokens after it
  pub brief_reads : (t : ExprWithSpot) (rest : List Token) → reading productions (form_of o) w ≡ Ok (t, rest) → false ≡ (length rest == 0)
      → reading productions (limited_form o) s ≡ Ok (t, take (length s - (length w - length rest)) (drop (length w - length rest) s))
  brief_reads t rest e some =
      let left : 0 < length rest = grind (arith, nat_tests, some) in
      let k = (form_sound o w).accepted (t, rest) e in
      let wide : length w ≡ 129 = ap (λ (l : List Token). length l) front ∙ length-take-le (128 + 1) s (omega (arith, long)) in
      let whole : s ≡ k.word ++ (rest ++ v) = parts ∙ (ap (λ (l : List Token). l ++ v) k.parts ∙ append_assoc k.word rest v) in
      let read : reading productions (form_of o) s ≡ Ok (t, rest ++ v) = ap (reading productions (form_of o)) whole
      ∙ k.same (rest ++ v) (same_head rest v left) in
      let few : length s - length (rest ++ v) ≤ 128 =
      omega (
        arith,
        left,
        wide,
        ap (λ (l : List Token). length l) whole,
        length-append k.word (rest ++ v),
        ap
            (λ (l : List Token). length l) k.parts,
        length-append k.word rest,
      ) in
      let all : drop (length w - length rest) s ≡ rest ++ v = ap (λ (l : List Token). drop (length w - length rest) l) parts ∙ rest_is o w v t rest e in
      let from : take (length s - (length w - length rest)) (drop (length w - length rest) s) ≡ rest ++ v = take_rest s (length w - length rest) ∙ all in
      limited_is o s ∙ (ap (λ (r : Read ExprWithSpot). judge (expression_limit.at s) ExprTooLong s r) read
      ∙ (judged s t (rest ++ v) few ∙ ap (λ (l : List Token). Ok (t, l)) (sym from)))
