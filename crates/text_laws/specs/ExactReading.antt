-- The theorem on predictive grammars: what one token of lookahead reads is what the grammar derives, with the same tree
-- and the same first fault.
-- Carried by: law `is_read_exactly`.
use Rattle.std.specs.Prelude.{◌≡◌, ℕ, ◌-◌, List, length, None, Ok, Err, ◌⊎◌}
use Rattle.grammar_core.specs.declared.token.Token.{Token}
use Rattle.grammar_core.specs.declared.code.Code.{Code}
use Rattle.grammar_core.specs.Production.{Production, IsText, IsFirstFault}
use Rattle.grammar_core.specs.Reading.{whole, fault_from_end}

-- Whatever the tokens are, reading returns the one tree that the grammar derives from all of them, or else their first
-- fault.
pub record ReadsExactly {N : Type 0} {Tree : N → Type 0} (body : (n : N) → Production N Tree (Tree n)) {A : Type 0}
    (g : Production N Tree A) : Type 0 where
  -- a tree that is read is derived, without a fault
  pub found : (s : List Token) (t : A) → whole body g s ≡ Ok t → IsText body g s t None
  -- a tree that is derived without a fault is read
  pub only : (s : List Token) (t : A) → IsText body g s t None → whole body g s ≡ Ok t
  -- a fault that reading meets, at a token or at the end of the tokens, is their first one
  pub fault : (s : List Token) (left : ℕ) (c : Code) → whole body g s ≡ Err (fault_from_end left c)
      → IsFirstFault body g s (length s - left) c
  -- reading meets the first fault
  pub refused : (s : List Token) (index : ℕ) (c : Code) → IsFirstFault body g s index c
      → whole body g s ≡ Err (fault_from_end (length s - index) c)
  -- there is at most one tree
  pub one_tree : (s : List Token) (t u : A) → IsText body g s t None → IsText body g s u None → t ≡ u
  -- there is at most one first fault
  pub one_fault : (s : List Token) (i j : ℕ) (c d : Code) → IsFirstFault body g s i c → IsFirstFault body g s j d
      → (i ≡ j) × (c ≡ d)
  -- there is a tree or a first fault
  pub either : (s : List Token)
      → ((t : A) × IsText body g s t None) ⊎ ((index : ℕ) × (c : Code) × IsFirstFault body g s index c)
  -- but not both
  pub not_both : (s : List Token) (t : A) (index : ℕ) (c : Code) → IsText body g s t None
      → IsFirstFault body g s index c → ⊥
