-- A predictive grammar is read exactly.
use Rattle.std.proofs.Common.{◌≡◌, ℕ, ◌-◌, List, length, Result, Ok, Err, ◌⊎◌, inl, inr, refl, sym, ap, ◌∙◌, arith}
use Rattle.std.specs.Prelude.{None}
use Rattle.grammar_core.specs.declared.fault.ReadFault.{ReadFault}
use Rattle.grammar_core.specs.declared.token.Token.{Token}
use Rattle.grammar_core.specs.declared.code.Code.{Code}
use Rattle.grammar_core.specs.Production.{Production, IsText, IsFirstFault}
use Rattle.grammar_core.specs.Reading.{whole, fault_from_end}
use Rattle.grammar_core.specs.Predictive.{Claims}
use Rattle.grammar_core.specs.ExactReading.{IsPredictive}
use Rattle.text_laws.specs.ExactReading.{ReadsExactly}
use Rattle.grammar_core.proofs.CallerLemmas as whole_text
use Rattle.list_lemmas.proofs.Options.{same_Ok, Ok≢Err, same_Err}

module _ {N : Type 0} {Tree : N → Type 0} (body : (n : N) → Production N Tree (Tree n)) (claims : Claims N) {A : Type 0}
    (g : Production N Tree A) (h : IsPredictive body claims g) where
  found : (s : List Token) (t : A) → whole body g s ≡ Ok t → IsText body g s t None
  found = whole_text.text_found body claims h.nonterminals h.nonterminal_limits g h.start h.start_limits

  only : (s : List Token) (t : A) → IsText body g s t None → whole body g s ≡ Ok t
  only = whole_text.text_only body claims h.nonterminals h.nonterminal_limits g h.start h.start_limits

  fault : (s : List Token) (left : ℕ) (c : Code) → whole body g s ≡ Err (fault_from_end left c) → IsFirstFault body g s (length s - left) c
  fault s left c e = whole_text.fault_is_of_whole body claims h.nonterminals h.nonterminal_limits g h.start h.start_limits s (fault_from_end left c) e

  refused : (s : List Token) (i : ℕ) (c : Code) → IsFirstFault body g s i c → whole body g s ≡ Err (fault_from_end (length s - i) c)
  refused = whole_text.one_fault body claims h.nonterminals h.nonterminal_limits g h.start h.start_limits

  one_fault : (s : List Token) (i j : ℕ) (c d : Code) → IsFirstFault body g s i c → IsFirstFault body g s j d → (i ≡ j) × (c ≡ d)
  one_fault s i j c d a b =
      let same : fault_from_end (length s - i) c ≡ fault_from_end (length s - j) d = same_Err
      (fault_from_end (length s - i) c) (fault_from_end (length s - j) d)
      (sym (refused s i c a) ∙ refused s j d b) in
      let left : length s - i ≡ length s - j = ap (λ (n : ReadFault). n.left) same in
      let x = whole_text.fault_index body g s i c a in
      let y = whole_text.fault_index body g s j d b in
      (omega (arith, left, x, y), ap (λ (n : ReadFault). n.code) same)

  either : (s : List Token) → ((t : A) × IsText body g s t None) ⊎ ((i : ℕ) × (c : Code) × IsFirstFault body g s i c)
  either s = go (whole body g s) refl
    where
      go : (r : Result A ReadFault) → whole body g s ≡ r → ((t : A) × IsText body g s t None) ⊎ ((i : ℕ) × (c : Code) × IsFirstFault body g s i c)
      go (Ok t) e = inl (t, found s t e)
      go (Err n) e = inr (length s - n.left, n.code, fault s n.left n.code e)

  pub exact : ReadsExactly body g
  exact =
      record {
        found = found;
        only = only;
        fault = fault;
        refused = refused;
        one_tree = λ s t u a b. same_Ok t u (sym (only s t a) ∙ only s u b);
        one_fault = one_fault;
        either = either;
        not_both = λ s t i c a f. Ok≢Err t (fault_from_end (length s - i) c) (sym (only s t a) ∙ refused s i c f);
      }
