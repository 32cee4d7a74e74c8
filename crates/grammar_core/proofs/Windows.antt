-- Reading only the tokens up to a limit (a window) returns what reading all of them returns.
use Rattle.std.proofs.Common.{◌≡◌, ℕ, suc, ◌+◌, ◌-◌, ◌<◌, ◌≤◌, false, List, [], ◌∷◌, ◌++◌, length, Ok, Err, refl, sym, ap, ◌∙◌, append_assoc}
use Rattle.std.proofs.Common.{length-append, arith, subst}
use Rattle.std.specs.Prelude.{nat_lt}
use Rattle.std.proofs.lemmas.Bool.{le-ltb, lt-ltb}
use Rattle.list_lemmas.proofs.Joins.{longer_front}
use Rattle.grammar_core.specs.declared.fault.ReadFault.{ReadFault}
use Rattle.grammar_core.specs.declared.token.Token.{Token}
use Rattle.grammar_core.specs.declared.code.Code.{Code}
use Rattle.grammar_core.specs.Production.{Limit, Language}
use Rattle.grammar_core.specs.Reading.{Read, judge, fault_from_end}
use Rattle.grammar_core.proofs.Sound.{SameHead, Sound, taken_is}
use Rattle.grammar_core.proofs.SoundLimits.{above}

module _ {A : Type 0} (L : Limit) (c : Code) (G : Language A) (p : List Token → Read A)
    (sound : (s : List Token) → Sound G p s) (s w v : List Token) (parts : s ≡ w ++ v)
    (wide : length w ≡ suc (L.at s)) where
  inside_window : (word rest : List Token) → w ≡ word ++ rest → 0 < length rest → nat_lt (L.at s) (length s - length (rest ++ v)) ≡ false
  inside_window word rest e some =
      let a = ap (λ (l : List Token). length l) parts in
      let b = ap (λ (l : List Token). length l) e in
      le-ltb _ _ (omega (arith, a, b, wide, length-append w v, length-append word rest, length-append rest v))

  whole_is : (word rest : List Token) → w ≡ word ++ rest → word ++ (rest ++ v) ≡ s
  whole_is word rest e = sym (append_assoc word rest v) ∙ ap (λ (l : List Token). l ++ v) (sym e) ∙ sym parts

  head_kept : (rest : List Token) → 0 < length rest → SameHead rest (rest ++ v)
  head_kept [] lt = absurd (omega arith)
  head_kept (x ∷ r) lt = refl

  -- a result that ends inside the window is the result of reading all tokens
  pub window_ok : (t : A) (rest : List Token) → 0 < length rest → p w ≡ Ok (t, rest) → judge (L.at s) c s (p s) ≡ Ok (t, rest ++ v)
  window_ok t rest some e =
      let k = (sound w).accepted (t, rest) e in
      let at : p s ≡ Ok (t, rest ++ v) = ap p (sym (whole_is k.word rest k.parts)) ∙ k.same (rest ++ v) (head_kept rest some) in
      rw (at, inside_window k.word rest k.parts some) refl

  pub window_err : (n : ReadFault) → 0 < n.left → p w ≡ Err n → judge (L.at s) c s (p s) ≡ Err (fault_from_end (n.left + length v) n.code)
  window_err n some e =
      let k = (sound w).faulted n e in
      let more : 0 < length k.rest = let l = k.left in omega (arith, l, some) in
      let at : p s ≡ Err (fault_from_end (length (k.rest ++ v)) n.code) =
      ap p (sym (whole_is k.word k.rest k.parts)) ∙ k.same (k.rest ++ v) (head_kept k.rest more) in
      rw (at, inside_window k.word k.rest k.parts more)
      (ap (λ (m : ℕ). Err (fault_from_end m n.code))
      (length-append k.rest v ∙ ap (λ (m : ℕ). m + length v) k.left))

  -- a text that does not end inside the window is too long
  pub window_long : ((t : A) (rest : List Token) → 0 < length rest → p w ≡ Ok (t, rest) → ⊥)
      → ((n : ReadFault) → 0 < n.left → p w ≡ Err n → ⊥)
      → judge (L.at s) c s (p s) ≡ Err (fault_from_end (length s - L.at s) c)
  window_long no_tree no_fault = go (p s) refl
    where
      -- an end inside the window leaves some of its tokens
      left_of : (word rest : List Token) → s ≡ word ++ rest → length word ≤ L.at s → (u : List Token) × (w ≡ word ++ u) × (rest ≡ u ++ v) × (0 < length u)
      left_of word rest e le =
          let f = longer_front word rest w v (sym e ∙ parts) (omega (arith, wide, le)) in
          let l = ap (λ (k : List Token). length k) f.1 in
          (f.0, f.1, f.2, omega (arith, l, length-append word f.0, wide, le))

      back : (u rest : List Token) → rest ≡ u ++ v → 0 < length u → SameHead rest u
      back [] rest e lt = absurd (omega arith)
      back (x ∷ u) rest e lt = subst (λ (l : List Token). SameHead l (x ∷ u)) (sym e) refl

      go : (r : Read A) → p s ≡ r → judge (L.at s) c s (p s) ≡ Err (fault_from_end (length s - L.at s) c)
      go (Ok x) e =
          let k = (sound s).accepted x e in
          let n : length s - length x.1 ≡ length k.word = ap (λ (l : List Token). length l - length x.1) k.parts ∙ taken_is k.word x.1 in
          let never : length s - length x.1 ≤ L.at s → ⊥ = λ le.
          let u = left_of k.word x.1 k.parts (omega (arith, n, le)) in
          no_tree x.0 u.0 u.3 (ap p u.1 ∙ k.same u.0 (back u.0 x.1 u.2 u.3)) in
          rw (e, lt-ltb _ _ (above (length s - length x.1) (L.at s) (L.at s) refl never)) refl
      go (Err d) e =
          let k = (sound s).faulted d e in
          let n : length s - d.left ≡ length k.word = ap (λ (l : List Token). length l - d.left) k.parts
          ∙ ap (λ (m : ℕ). length (k.word ++ k.rest) - m) (sym k.left) ∙ taken_is k.word k.rest in
          let never : length s - d.left ≤ L.at s → ⊥ = λ le.
          let u = left_of k.word k.rest k.parts (omega (arith, n, le)) in
          no_fault (fault_from_end (length u.0) d.code) u.3 (ap p u.1 ∙ k.same u.0 (back u.0 k.rest u.2 u.3)) in
          rw (e, lt-ltb _ _ (above (length s - d.left) (L.at s) (L.at s) refl never)) refl
