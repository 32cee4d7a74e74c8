-- Grammars as data: which texts a production derives, with which trees and first faults. Nothing here says how a text
-- is read: no lookahead, no order of choice. Source: the field's context-free grammars with synthesized attributes.
-- Carried by: law `text_laws::is_read_exactly`; the readers of `expr_read`, `jdf_read`, `body_lang`.
-- Tested by: `body_limits.txt`, `too_many.txt`, `long_expressions.txt`.
use Rattle.std.specs.Prelude.{◌≡◌, ℕ, zero, suc, Bool, true, false, List, [], ◌∷◌, Option, Some, None, ◌⊎◌, ◌++◌, ◌≤◌, ◌<◌, ◌+◌, ◌-◌, length, take}
use Rattle.std.specs.Prelude.{nat_lt, if◌then◌else◌}
use Rattle.std.specs.Option.{option_or}
use Rattle.grammar_core.specs.declared.token.Token.{Token}
use Rattle.grammar_core.specs.Terminals.{Terminal}
use Rattle.grammar_core.specs.Terminals.{terminal_of}
use Rattle.grammar_core.specs.declared.code.Code.{Code}
use Rattle.grammar_core.specs.declared.code.Code.TheVariants.{Syntax}

-- How many tokens a text may have: `at s` is the index in s of the first token that is too many. It depends on no token
-- after that one.
pub record Limit : Type 0 where
  pub at : List Token → ℕ
  -- at least one token fits
  pub one : (s : List Token) → 1 ≤ at s
  -- whether a front of the tokens fits depends on that front alone
  pub keeps : (w r r' : List Token) → length w ≤ at (w ++ r) → length w ≤ at (w ++ r')
  -- where the limit falls depends on no later token
  pub stays : (w : List Token) (x : Token) (r r' : List Token) → at (w ++ x ∷ r) ≡ length w
      → at (w ++ x ∷ r') ≡ length w

-- A production whose trees have type A. N is the type of nonterminals, and Tree n the type of the trees of nonterminal
-- n. Recursion goes through nonterminals alone.
pub data Production (N : Type 0) (Tree : N → Type 0) : Type 0 → Type 1 where
  -- a token whose terminal is in the set
  one_of : (Terminal → Bool) → Production N Tree Token
  -- a token whose terminal is in the set; if it fails the test, it has a fault with the code
  checked : (Terminal → Bool) → (Token → Bool) → Code → Production N Tree Token
  -- one text after another
  seq : {A B : Type 0} → Production N Tree A → Production N Tree B → Production N Tree (A × B)
  map : {A B : Type 0} → (A → B) → Production N Tree A → Production N Tree B
  alt : {A : Type 0} → Production N Tree A → Production N Tree A → Production N Tree A
  opt : {A : Type 0} → Production N Tree A → Production N Tree (Option A)
  -- any number of elements; if the function has a code for index i, element i is too many, and has a fault with the
  -- code
  star : {A : Type 0} → (ℕ → Option Code) → Production N Tree A → Production N Tree (List A)
  -- Either of two, which may begin alike. If the next token may begin both, reading takes the first one exactly when
  -- the token after it is in the set.
  pick : {A : Type 0} → (Terminal → Bool) → Production N Tree A → Production N Tree A → Production N Tree A
  -- a token whose terminal is in the set, followed by a text of the nonterminal
  after_token : (Terminal → Bool) → (n : N) → Production N Tree (Token × Tree n)
  -- a text with a limit; if it is longer, the first token that is too many has a fault with the code
  limited : {A : Type 0} → Limit → Code → Production N Tree A → Production N Tree A

-- The first fault of a text: the index of its token in the text, and its code. None if the text has no fault.
abbrev pub Fault : Type 0
Fault = Option (ℕ × Code)

-- the first fault of two texts, the second of which begins n tokens later
abbrev pub then_fault : Fault → ℕ → Fault → Fault
then_fault (Some f) n o = Some f
then_fault None n None = None
then_fault None n (Some f) = Some (n + f.0, f.1)

-- a fault at the first token, if there is a code
abbrev pub at_start : Option Code → Fault
at_start None = None
at_start (Some c) = Some (0, c)

-- a fault at the first token, unless it passes the test
abbrev pub bad_unless : Bool → Code → Fault
bad_unless true c = None
bad_unless false c = Some (0, c)

-- The first fault of a text of n tokens with the limit l. It is c at l if the text is longer or its own fault comes
-- after l, else its own fault.
abbrev pub cut_at : ℕ → Code → ℕ → Fault → Fault
cut_at l c n None = if nat_lt l n then Some (l, c) else None
cut_at l c n (Some f) = if nat_lt l f.0 then Some (l, c) else Some f

-- how many tokens of s come before its rest r
abbrev pub taken : List Token → List Token → ℕ
taken s r = length s - length r

-- s is a token x of this set, followed by the rest r
abbrev pub IsOne : (Terminal → Bool) → List Token → Token → List Token → Type 0
IsOne q s x r = (s ≡ x ∷ r) × (q (terminal_of x) ≡ true)

-- A language relates tokens, a tree, a first fault and a rest: the tokens before the rest are a text of this tree with
-- this first fault.
abbrev pub Language : Type 0 → Type 1
Language A = List Token → A → Fault → List Token → Type 0

-- one text or none
abbrev pub Maybe : {A : Type 0} → Language A → List Token → Option A → Fault → List Token → Type 0
Maybe G s None o r = (s ≡ r) × (o ≡ None)
Maybe G s (Some a) o r = G s a o r

-- a list of texts; the first has index i
abbrev pub Many : {A : Type 0} → (ℕ → Option Code) → Language A → ℕ → List Token → List A → Fault → List Token → Type 0
Many full G i s [] o r = (s ≡ r) × (o ≡ None)
Many full G i s (a ∷ more) o r =
    (m : List Token) × (x y : Fault) × G s a x m × Many full G (suc i) m more y r
    × (o ≡ then_fault (option_or (at_start (full i)) x) (taken s m) y)

-- The production derives the tokens of s before the rest r, with the tree t and the first fault o, given the languages
-- R of the nonterminals.
abbrev pub Derives : {N : Type 0} {Tree : N → Type 0} → ((n : N) → Language (Tree n)) → {A : Type 0}
    → Production N Tree A → Language A
Derives R (one_of q) s t o r = IsOne q s t r × (o ≡ None)
Derives R (checked q is_valid c) s t o r = IsOne q s t r × (o ≡ bad_unless (is_valid t) c)
Derives R (seq g h) s t o r =
    (m : List Token) × (x y : Fault) × Derives R g s t.0 x m × Derives R h m t.1 y r × (o ≡ then_fault x (taken s m) y)
Derives R (map {A = A} f g) s t o r = (a : A) × Derives R g s a o r × (f a ≡ t)
Derives R (alt g h) s t o r = Derives R g s t o r ⊎ Derives R h s t o r
Derives R (pick q g h) s t o r = Derives R g s t o r ⊎ Derives R h s t o r
Derives R (opt g) s t o r = Maybe (Derives R g) s t o r
Derives R (star full g) s t o r = Many full (Derives R g) 0 s t o r
Derives R (after_token q n) s t o r =
    (m : List Token) × (y : Fault) × IsOne q s t.0 m × R n m t.1 y r × (o ≡ then_fault None 1 y)
Derives R (limited l c g) s t o r = (x : Fault) × Derives R g s t x r × (o ≡ cut_at (l.at s) c (taken s r) x)

-- what a nonterminal derives with at most k nonterminals inside one another
abbrev pub DerivedWithin : {N : Type 0} {Tree : N → Type 0} → ((n : N) → Production N Tree (Tree n)) → ℕ → (n : N)
    → Language (Tree n)
DerivedWithin body zero n s t o r = ⊥
DerivedWithin body (suc k) n s t o r = Derives (DerivedWithin body k) (body n) s t o r

-- what a nonterminal derives
pub record Derived {N : Type 0} {Tree : N → Type 0} (body : (n : N) → Production N Tree (Tree n))
    (n : N) (s : List Token) (t : Tree n) (o : Fault) (r : List Token) : Type 0 where
  pub depth : ℕ
  pub derives : DerivedWithin body depth n s t o r

-- The whole list is a text of the production, with this tree and this first fault.
abbrev pub IsText : {N : Type 0} {Tree : N → Type 0} → ((n : N) → Production N Tree (Tree n)) → {A : Type 0}
    → Production N Tree A → List Token → A → Fault → Type 0
IsText body g s t o = Derives (Derived body) g s t o []

-- Some text of the production begins with these tokens, and has this first fault.
pub record Begins {N : Type 0} {Tree : N → Type 0} (body : (n : N) → Production N Tree (Tree n))
    {A : Type 0} (g : Production N Tree A) (s : List Token) (o : Fault) : Type 0 where
  pub more : List Token
  pub tree : A
  pub text : IsText body g (s ++ more) tree o

-- the fault, if there is one, is not before this index
abbrev pub IsFrom : ℕ → Fault → Type 0
IsFrom n None = Unit {0}
IsFrom n (Some f) = n ≤ f.0

-- A fault Syntax is at the first token such that no text begins with the tokens up to and including it. If there is no
-- such token, but the tokens are no text, it is at their end. No other fault comes before it.
pub record IsSyntaxFault {N : Type 0} {Tree : N → Type 0} (body : (n : N) → Production N Tree (Tree n))
    {A : Type 0} (g : Production N Tree A) (s : List Token) (index : ℕ) : Type 0 where
  pub within : index ≤ length s
  pub before : (o : Fault) × Begins body g (take index s) o × IsFrom index o
  pub with_it : index < length s → (o : Fault) → Begins body g (take (index + 1) s) o → ⊥
  pub at_end : index ≡ length s → (t : A) (o : Fault) → IsText body g s t o → ⊥

-- A fault with another code: a text begins with the tokens up to this one, and has its first fault at it.
pub record IsLimitFault {N : Type 0} {Tree : N → Type 0} (body : (n : N) → Production N Tree (Tree n))
    {A : Type 0} (g : Production N Tree A) (s : List Token) (index : ℕ) (c : Code) : Type 0 where
  pub within : index < length s
  pub there : Begins body g (take (index + 1) s) (Some (index, c))

-- The tokens have their first fault at this index, with this code.
abbrev pub IsFirstFault : {N : Type 0} {Tree : N → Type 0} → ((n : N) → Production N Tree (Tree n)) → {A : Type 0}
    → Production N Tree A → List Token → ℕ → Code → Type 0
IsFirstFault body g s index Syntax = IsSyntaxFault body g s index
IsFirstFault body g s index c = IsLimitFault body g s index c
