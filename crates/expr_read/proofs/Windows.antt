-- Reading in a window that ends after the first token that a limit does not allow.
use Rattle.std.proofs.Common.{◌≡◌, ℕ, suc, ◌-◌, ◌+◌, ◌≤◌, ◌<◌, List, ◌++◌, length, take, drop, false, append_assoc, Ok, Err, refl, sym, ap, ◌∙◌, arith}
use Rattle.std.specs.Prelude.{◌==◌}
use Rattle.std.proofs.lemmas.Bool.{le-ltb}
use Rattle.std.proofs.lemmas.List.{length-append, drop_at, take-append-drop, length-take-le, take_rest}
use Rattle.std.proofs.lemmas.Bool.Decides.{nat_tests}
use Rattle.grammar_core.specs.declared.fault.ReadFault.{ReadFault}
use Rattle.grammar_core.specs.declared.token.Token.{Token}
use Rattle.grammar_core.specs.declared.code.Code.{Code}
use Rattle.grammar_core.specs.Production.{Limit, Language}
use Rattle.grammar_core.specs.Reading.{Read, judge, fault_from_end}
use Rattle.grammar_core.proofs.CallerLemmas.{Sound, window_err, window_long, window_ok}

-- p reads texts of G, and q is reading with the limit
module _ {A : Type 0} (L : Limit) (c : List Token → Code) (G : Language A) (p : List Token → Read A)
    (sound : (s : List Token) → Sound G p s) (q : List Token → Read A)
    (judged : (s : List Token) → q s ≡ judge (L.at s) (c s) s (p s)) where
  pub within_limit : (s : List Token) → length s ≤ L.at s → q s ≡ p s
  within_limit s le = judged s ∙ go (p s)
    where
      go : (r : Read A) → judge (L.at s) (c s) s r ≡ r
      go (Ok x) = rw (le-ltb (L.at s) (length s - length x.1) (omega (arith, le))) refl
      go (Err e) = rw (le-ltb (L.at s) (length s - e.left) (omega (arith, le))) refl

  pub fault_within : (s : List Token) (f : ReadFault) → p s ≡ Err f → f.left ≤ length s
  fault_within s f e =
      let k = (sound s).faulted f e in
      omega (arith, k.left, ap (λ (l : List Token). length l) k.parts, length-append k.word k.rest)

  -- the rest of a window, with the tokens after the window
  pub rest_is : (w v : List Token) (t : A) (rest : List Token) → p w ≡ Ok (t, rest) → drop (length w - length rest) (w ++ v) ≡ rest ++ v
  rest_is w v t rest e =
      let k = (sound w).accepted (t, rest) e in
      let n : length k.word ≡ length w - length rest = omega (arith, ap (λ (l : List Token). length l) k.parts, length-append k.word rest) in
      ap (λ (l : List Token). drop (length w - length rest) (l ++ v)) k.parts
      ∙ ap (λ (l : List Token). drop (length w - length rest) l) (append_assoc k.word rest v)
      ∙ drop_at k.word (rest ++ v) (length w - length rest) n

  -- the window and the tokens after it, as the code splits them
  module _ (s w v : List Token) (limit : ℕ) (is_limit : limit ≡ L.at s) (front : w ≡ take (limit + 1) s)
      (back : v ≡ drop (limit + 1) s) (long : limit < length s) where
    parts : s ≡ w ++ v
    parts = sym (take-append-drop (limit + 1) s) ∙ ap (λ (l : List Token). l ++ drop (limit + 1) s) (sym front) ∙ ap (λ (l : List Token). w ++ l) (sym back)

    wide : length w ≡ suc (L.at s)
    wide = ap (λ (l : List Token). length l) front ∙ (length-take-le (limit + 1) s (omega (arith, long)) ∙ omega (arith, is_limit))

    -- a text that ends inside the window, and the tokens after it
    pub slice : (t : A) (rest : List Token) → p w ≡ Ok (t, rest) → false ≡ (length rest == 0)
        → q s ≡ Ok (t, take (length s - (length w - length rest)) (drop (length w - length rest) s))
    slice t rest e some =
        let left : 0 < length rest = grind (arith, nat_tests, some) in
        let all : drop (length w - length rest) s ≡ rest ++ v = ap (λ (l : List Token). drop (length w - length rest) l) parts ∙ rest_is w v t rest e in
        let from : take (length s - (length w - length rest)) (drop (length w - length rest) s) ≡ rest ++ v = take_rest s (length w - length rest) ∙ all in
        judged s ∙ (window_ok L (c s) G p sound s w v parts wide t rest left e ∙ ap (λ (l : List Token). Ok (t, l)) (sym from))

    pub fault : (f : ReadFault) → 0 < f.left → p w ≡ Err f → q s ≡ Err (fault_from_end (f.left + length v) f.code)
    fault f some e = judged s ∙ window_err L (c s) G p sound s w v parts wide f some e

    pub cut : ((t : A) (rest : List Token) → 0 < length rest → p w ≡ Ok (t, rest) → ⊥)
        → ((n : ReadFault) → 0 < n.left → p w ≡ Err n → ⊥) → q s ≡ Err (fault_from_end (length s - limit) (c s))
    cut a b = judged s ∙ (window_long L (c s) G p sound s w v parts wide a b ∙ ap (λ (k : ℕ). Err (fault_from_end (length s - k) (c s))) (sym is_limit))
