-- The productions and steps of reading of grammar_core, with sets of JDF's terminals in place of sets of numbers.
use Rattle.std.specs.Prelude.{ℕ, Bool, List}
use Rattle.grammar_core.specs.declared.code.Code.{Code}
use Rattle.grammar_core.specs.declared.token.Token.{Token}
use Rattle.grammar_core.specs.Production as production
use Rattle.grammar_core.specs.Production.{Production}
use Rattle.grammar_core.specs.Reading as reading
use Rattle.grammar_core.specs.Reading.{Read}
use Rattle.grammar_core.specs.TooMany as too_many
use Rattle.jdf_lex.specs.declared.terminal.Terminal.{Terminal}
use Rattle.jdf_lex.specs.Terminals.{set}

-- a token whose terminal is in the set
abbrev pub one_of : {N : Type 0} {Tree : N → Type 0} → (Terminal → Bool) → Production N Tree Token
one_of q = production.one_of (set q)

-- a token whose terminal is in the set; if it fails the test, it has a fault with the code
abbrev pub checked : {N : Type 0} {Tree : N → Type 0} → (Terminal → Bool) → (Token → Bool) → Code
    → Production N Tree Token
checked q is_valid c = production.checked (set q) is_valid c

-- Either of two productions, which may begin alike. If the next token may begin both, reading takes the first one
-- exactly when the token after it is in the set.
abbrev pub pick : {N : Type 0} {Tree : N → Type 0} {A : Type 0} → (Terminal → Bool) → Production N Tree A
    → Production N Tree A → Production N Tree A
pick q g h = production.pick (set q) g h

-- a token whose terminal is in the set, followed by a text of the nonterminal
abbrev pub after_token : {N : Type 0} {Tree : N → Type 0} → (Terminal → Bool) → (n : N)
    → Production N Tree (Token × Tree n)
after_token q n = production.after_token (set q) n

-- Whether the next token is in this set.
abbrev pub starts : (Terminal → Bool) → List Token → Bool
starts q s = reading.starts (set q) s

-- a token of this set and the tokens after it, or Syntax at the next token
abbrev pub token_at : (Terminal → Bool) → List Token → Read Token
token_at q s = reading.token_at (set q) s

-- s is a token x of this set, followed by the rest r
abbrev pub IsOne : (Terminal → Bool) → List Token → Token → List Token → Type 0
IsOne q s x r = production.IsOne (set q) s x r

-- The index of the first token that is too many: the one after cap tokens, or the token of this set after n others of
-- it, whichever comes first.
abbrev pub limit_at : (Terminal → Bool) → ℕ → ℕ → List Token → ℕ
limit_at q cap n s = too_many.limit_at (set q) cap n s
