-- Reading tokens from left to right with one token of lookahead: recursive descent, computed from the grammar.
use Rattle.std.specs.Prelude.{ℕ, zero, suc, Bool, true, false, List, [], ◌∷◌, Option, Some, None, ◌-◌, length, nat_lt, Result, Ok, Err}
use Rattle.std.specs.Prelude.{if◌then◌else◌, ◌&&◌, ◌||◌, ◌==◌}
use Rattle.ptg_base.specs.Returns.{and_then}
use Rattle.grammar_core.specs.declared.token.Token.{Token}
use Rattle.grammar_core.specs.Terminals.{Terminal}
use Rattle.grammar_core.specs.Terminals.{terminal_of}
use Rattle.grammar_core.specs.declared.code.Code.{Code}
use Rattle.grammar_core.specs.declared.code.Code.TheVariants.{Syntax}
use Rattle.grammar_core.specs.declared.fault.ReadFault.{ReadFault}
use Rattle.grammar_core.specs.Production.{Production, one_of, checked, seq, map, alt, opt, star, pick, after_token, limited}

-- The fault with this code at which this many tokens are left.
abbrev pub fault_from_end : ℕ → Code → ReadFault
fault_from_end left code = record { left = left; code = code }

-- the value that was read and the tokens after it, or a fault
abbrev pub Read : Type 0 → Type 0
Read A = Result (A × List Token) ReadFault

-- `r >>= next` reads one part after another: r is the result of reading the first part, and `next` reads on, given the
-- value of r and the tokens left. If r is a fault, that is the result. It is `and_then` as an infix operator.
infixl 10 ◌>>=◌
abbrev pub ◌>>=◌ : {A B : Type 0} → Result A ReadFault → (A → Result B ReadFault) → Result B ReadFault
r >>= next = and_then r next

-- Whether a text of this production may be empty.
abbrev pub may_be_empty : {N : Type 0} {Tree : N → Type 0} {A : Type 0} → Production N Tree A → Bool
may_be_empty (one_of q) = false
may_be_empty (checked q good c) = false
may_be_empty (seq g h) = may_be_empty g && may_be_empty h
may_be_empty (map f g) = may_be_empty g
may_be_empty (alt g h) = may_be_empty g || may_be_empty h
may_be_empty (pick q g h) = may_be_empty g || may_be_empty h
may_be_empty (opt g) = true
may_be_empty (star full g) = true
may_be_empty (after_token q n) = false
may_be_empty (limited l c g) = may_be_empty g

-- the union of two sets
abbrev pub union : (Terminal → Bool) → (Terminal → Bool) → Terminal → Bool
union a b k = a k || b k

-- the first set, united with the second if b holds
abbrev pub and_if : Bool → (Terminal → Bool) → (Terminal → Bool) → Terminal → Bool
and_if true a b = union a b
and_if false a b = a

-- The first set of a production: the terminals that a text of it may begin with.
abbrev pub first : {N : Type 0} {Tree : N → Type 0} {A : Type 0} → Production N Tree A → Terminal → Bool
first (one_of q) = q
first (checked q good c) = q
first (seq g h) = and_if (may_be_empty g) (first g) (first h)
first (map f g) = first g
first (alt g h) = union (first g) (first h)
first (pick q g h) = union (first g) (first h)
first (opt g) = first g
first (star full g) = first g
first (after_token q n) = q
first (limited l c g) = first g

-- Whether the next token is in this set.
abbrev pub starts : (Terminal → Bool) → List Token → Bool
starts q [] = false
starts q (x ∷ s) = q (terminal_of x)

-- Whether the first of two productions is next. a and b are their first sets. If the next token is in both, the token
-- after it decides: it is in q for the first production.
abbrev pub picks : (Terminal → Bool) → (Terminal → Bool) → (Terminal → Bool) → List Token → Bool
picks a b q [] = false
picks a b q (x ∷ s) = if b (terminal_of x) then (a (terminal_of x) && starts q s) else a (terminal_of x)

-- a token of this set and the tokens after it, or Syntax at the next token
abbrev pub token_at : (Terminal → Bool) → List Token → Read Token
token_at q [] = Err (fault_from_end 0 Syntax)
token_at q (x ∷ s) = if q (terminal_of x) then Ok (x, s) else Err (fault_from_end (length (x ∷ s)) Syntax)

-- the result r of reading the element that s begins with; if the element is too many, its code at the first token of s
abbrev pub refuse : {A : Type 0} → Option Code → List Token → Read A → Read A
refuse None s r = r
refuse (Some c) s r = Err (fault_from_end (length s) c)

-- The elements of a list from index i on, for as long as the next token is in q. The function p reads an element, and
-- `full` has a code for each index that is too many. The number n bounds the recursion.
unfoldable pub many_at : {A : Type 0} → (ℕ → Option Code) → (Terminal → Bool) → (List Token → Read A) → ℕ → ℕ
    → List Token → Read (List A)
many_at full q p i zero s = Ok ([], s)
many_at full q p i (suc n) s =
    if starts q s
    then refuse (full i) s
    (p s >>= λ (a, left). many_at full q p (suc i) n left >>= λ (more, rest). Ok (a ∷ more, rest))
    else Ok ([], s)

-- the token that was read first in s if it passes the test, else the code c at it
abbrev pub check : (Token → Bool) → Code → List Token → Token × List Token → Read Token
check good c s x = if good x.0 then Ok x else Err (fault_from_end (length s) c)

-- The result of reading s if at most l tokens may be taken. If more were taken, or a fault comes after the limit, it is
-- the code c at the limit.
abbrev pub judge : {A : Type 0} → ℕ → Code → List Token → Read A → Read A
judge l c s (Ok x) = if nat_lt l (length s - length x.1) then Err (fault_from_end (length s - l) c) else Ok x
judge l c s (Err e) = if nat_lt l (length s - e.left) then Err (fault_from_end (length s - l) c) else Err e

-- Reading a production, given p, which reads the nonterminals.
abbrev pub run : {N : Type 0} {Tree : N → Type 0} → ((n : N) → List Token → Read (Tree n)) → {A : Type 0}
    → Production N Tree A → List Token → Read A
run p (one_of q) s = token_at q s
run p (checked q good c) s = token_at q s >>= check good c s
run p (seq g h) s = run p g s >>= λ (a, left). run p h left >>= λ (b, rest). Ok ((a, b), rest)
run p (map f g) s = run p g s >>= λ (a, left). Ok (f a, left)
run p (alt g h) s = if starts (first g) s then run p g s else run p h s
run p (pick q g h) s = if picks (first g) (first h) q s then run p g s else run p h s
run p (opt g) s = if starts (first g) s then (run p g s >>= λ (a, left). Ok (Some a, left)) else Ok (None, s)
run p (star full g) s = many_at full (first g) (run p g) 0 (length s) s
run p (after_token q n) s = token_at q s >>= λ (token, left). p n left >>= λ (b, rest). Ok ((token, b), rest)
run p (limited l c g) s = judge (l.at s) c s (run p g s)

-- Reading a nonterminal with at most k nonterminals inside one another.
unfoldable pub nonterminal_within : {N : Type 0} {Tree : N → Type 0} → ((n : N) → Production N Tree (Tree n)) → ℕ
    → (n : N) → List Token → Read (Tree n)
nonterminal_within body zero n s = Err (fault_from_end (length s) Syntax)
nonterminal_within body (suc k) n s = run (nonterminal_within body k) (body n) s

-- Reading a nonterminal. Each nonterminal inside another one begins at least one token later, so the bound is never
-- met.
unfoldable pub nonterminal_at : {N : Type 0} {Tree : N → Type 0} → ((n : N) → Production N Tree (Tree n)) → (n : N)
    → List Token → Read (Tree n)
nonterminal_at body n s = nonterminal_within body (suc (length s)) n s

-- Reading a production of a grammar, given by the productions of its nonterminals.
abbrev pub reading : {N : Type 0} {Tree : N → Type 0} → ((n : N) → Production N Tree (Tree n)) → {A : Type 0}
    → Production N Tree A → List Token → Read A
reading body g s = run (nonterminal_at body) g s

-- Reading a production that must take all of the tokens.
abbrev pub whole : {N : Type 0} {Tree : N → Type 0} → ((n : N) → Production N Tree (Tree n)) → {A : Type 0}
    → Production N Tree A → List Token → Result A ReadFault
whole body g s =
    reading body g s >>= λ (a, left).
    if length left == 0 then Ok a else Err (fault_from_end (length left) Syntax)
