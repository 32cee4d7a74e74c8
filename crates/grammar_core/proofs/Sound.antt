-- Sound reading of a language: what is read is derived with the same tree, and the tokens before a fault can be
-- completed to a text. Neither depends on more than the next token.
use Rattle.std.proofs.Common.{◌≡◌, ◌≢◌, ℕ, ◌+◌, ◌≤◌, Bool, List, [], ◌∷◌, ◌++◌, length, Ok, Err, refl, ap, ◌∙◌, length-append, arith}
use Rattle.std.specs.Prelude.{Some, None}
use Rattle.std.proofs.lemmas.Option.{same_Some, none-some}
use Rattle.grammar_core.specs.declared.fault.ReadFault.{ReadFault}
use Rattle.grammar_core.specs.Terminals.{Terminal}
use Rattle.grammar_core.specs.declared.token.Token.{Token}
use Rattle.grammar_core.specs.declared.code.Code.{Code}
use Rattle.grammar_core.specs.declared.code.Code.TheVariants.{Syntax}
use Rattle.grammar_core.specs.Terminals.{terminal_of}
use Rattle.grammar_core.specs.Production.{Language, Fault, then_fault, taken, IsFrom}
use Rattle.grammar_core.specs.Reading.{Read, starts, fault_from_end}

-- both lists begin with the same token, or both are empty
abbrev pub SameHead : List Token → List Token → Type 0
SameHead [] [] = Unit {0}
SameHead [] (y ∷ r) = ⊥
SameHead (x ∷ s) [] = ⊥
SameHead (x ∷ s) (y ∷ r) = x ≡ y

pub same_head_after : (w r r' : List Token) → SameHead r r' → SameHead (w ++ r) (w ++ r')
same_head_after [] r r' h = h
same_head_after (x ∷ w) r r' h = refl

pub starts_same : (q : Terminal → Bool) (s s' : List Token) → SameHead s s' → starts q s ≡ starts q s'
starts_same q [] [] h = refl
starts_same q [] (y ∷ s') h = absurd h
starts_same q (x ∷ s) [] h = absurd h
starts_same q (x ∷ s) (y ∷ s') h = ap (λ (t : Token). q (terminal_of t)) h

-- A tree was read from the tokens `word`: they derive it whatever follows, and reading depends on the next token alone.
pub record Accepted {A : Type 0} (G : Language A) (p : List Token → Read A) (s : List Token) (x : A × List Token) : Type 0 where
  pub word : List Token
  pub parts : s ≡ word ++ x.1
  pub derives : (z : List Token) → G (word ++ z) x.0 None z
  pub same : (r : List Token) → SameHead x.1 r → p (word ++ r) ≡ Ok (x.0, r)

-- both lists begin with one token
pub record Extends (rest more : List Token) : Type 0 where
  pub head : Token
  pub rest_tail : List Token
  pub more_tail : List Token
  pub rest_is : rest ≡ head ∷ rest_tail
  pub more_is : more ≡ head ∷ more_tail

-- After w tokens reading met the code c: if c is a limit's, it is the first fault of the text; if it is Syntax, no
-- fault comes before it.
pub record Late (c : Code) (w : ℕ) (o : Fault) : Type 0 where
  pub from : IsFrom w o
  pub exact : c ≢ Syntax → o ≡ Some (w, c)

-- Reading met a fault after the tokens `word`: the tokens `more` complete these to a text, and reading depends on the
-- next token alone.
pub record Faulted {A : Type 0} (G : Language A) (p : List Token → Read A) (s : List Token) (n : ReadFault) : Type 0 where
  pub word : List Token
  pub rest : List Token
  pub parts : s ≡ word ++ rest
  pub left : length rest ≡ n.left
  pub more : List Token
  pub tree : A
  pub fault : List Token → Fault
  pub late : (z : List Token) → Late n.code (length word) (fault z)
  pub extends : n.code ≢ Syntax → Extends rest more
  pub derives : (z : List Token) → G (word ++ (more ++ z)) tree (fault z) z
  pub same : (r : List Token) → SameHead rest r → p (word ++ r) ≡ Err (fault_from_end (length r) n.code)

pub record Sound {A : Type 0} (G : Language A) (p : List Token → Read A) (s : List Token) : Type 0 where
  pub accepted : (x : A × List Token) → p s ≡ Ok x → Accepted G p s x
  pub faulted : (n : ReadFault) → p s ≡ Err n → Faulted G p s n

-- a text of the language
pub record Text {A : Type 0} (G : Language A) : Type 0 where
  pub word : List Token
  pub tree : A
  pub fault : List Token → Fault
  pub derives : (z : List Token) → G (word ++ z) tree (fault z) z

-- ---- faults

pub from_zero : (o : Fault) → IsFrom 0 o
from_zero None = tt
from_zero (Some f) = omega arith

pub late_then : (c : Code) (w n : ℕ) (x y : Fault) → w ≤ n → Late c w x → Late c w (then_fault x n y)
late_then c w n None None le l = record { from = tt; exact = λ h. absurd (none-some _ (l.exact h)) }
late_then c w n None (Some f) le l = record { from = omega (arith, le); exact = λ h. absurd (none-some _ (l.exact h)) }
late_then c w n (Some f) y le l = l

pub late_after : (c : Code) (w v n : ℕ) (y : Fault) → w ≡ n + v → Late c v y → Late c w (then_fault None n y)
late_after c w v n None e l = record { from = tt; exact = λ h. absurd (none-some _ (l.exact h)) }
late_after c w v n (Some f) e l =
    record {
      from = let k = l.from in omega (arith, k, e);
      exact = λ h. let same : f ≡ (v, c) =
          same_Some f (v, c) (l.exact h) in ap (λ (g : ℕ × Code). Some (n + g.0, g.1)) same ∙ rw e refl;
    }

pub late_syntax : (c : Code) (w : ℕ) (o : Fault) → c ≡ Syntax → IsFrom w o → Late c w o
late_syntax c w o e h = record { from = h; exact = λ n. absurd (n e) }

pub late_here : (c : Code) (w : ℕ) → Late c w (Some (w, c))
late_here c w = record { from = omega arith; exact = λ h. refl }

pub extends_more : (rest more z : List Token) → Extends rest more → Extends rest (more ++ z)
extends_more rest more z e = record { head = e.head; rest_tail = e.rest_tail; more_tail = e.more_tail ++ z; rest_is = e.rest_is; more_is = rw e.more_is refl }

pub taken_is : (w z : List Token) → taken (w ++ z) z ≡ length w
taken_is w z = omega (arith, length-append w z)

pub code_is : {n : ReadFault} {m : ℕ} {c : Code} → n ≡ fault_from_end m c → n.code ≡ c
code_is e = ap (λ (x : ReadFault). x.code) e

pub left_is : {n : ReadFault} {m : ℕ} {c : Code} → n ≡ fault_from_end m c → n.left ≡ m
left_is e = ap (λ (x : ReadFault). x.left) e
