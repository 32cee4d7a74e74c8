-- The terminal of a token, found by its number.
use Rattle.std.proofs.Common.{◌≡◌, ℕ, ◌<◌, ◌∙◌, ap, arith}
use Rattle.std.specs.Prelude.{◌%◌}
use Rattle.std.proofs.Math.Nat.{mod-eq_of_lt}
use Rattle.grammar_core.specs.declared.token.Token.{Token}
use Rattle.grammar_core.specs.Terminals as numbered
use Rattle.jdf_lex.specs.declared.terminal.Terminal.{Terminal}
use Rattle.jdf_lex.specs.declared.terminal.Terminal.TheVariants.{Name, TypeWord, Int, If, Else, For, Trap, Number}
use Rattle.jdf_lex.specs.declared.terminal.Terminal.TheVariants.{Quoted, Raw, OptionLine, Other, Extern, Body, End}
use Rattle.jdf_lex.specs.declared.terminal.Terminal.TheVariants.{Read, Write, Rw, Ctl, New, Null, LeftParen, RightParen}
use Rattle.jdf_lex.specs.declared.terminal.Terminal.TheVariants.{LeftBracket, RightBracket, LeftBrace, RightBrace}
use Rattle.jdf_lex.specs.declared.terminal.Terminal.TheVariants.{Comma, Semicolon, Colon, Question, Assign, Dots}
use Rattle.jdf_lex.specs.declared.terminal.Terminal.TheVariants.{Inward, Outward, Plus, Minus, Star, Slash, Percent}
use Rattle.jdf_lex.specs.declared.terminal.Terminal.TheVariants.{Equal, NotEqual, Less, AtMost, Greater, AtLeast, And}
use Rattle.jdf_lex.specs.declared.terminal.Terminal.TheVariants.{AndAnd, Or, OrOr, Not}
use Rattle.jdf_lex.specs.Terminals.{number_of, terminal_at, terminal_of}
use Rattle.text_laws.proofs.CallerLemmas.{terminal_of_number}

-- the number of each terminal is below 64
below : (k : Terminal) → number_of k < 64
below Name = omega arith
below TypeWord = omega arith
below Int = omega arith
below If = omega arith
below Else = omega arith
below For = omega arith
below Trap = omega arith
below Number = omega arith
below Quoted = omega arith
below Raw = omega arith
below OptionLine = omega arith
below Other = omega arith
below Extern = omega arith
below Body = omega arith
below End = omega arith
below Read = omega arith
below Write = omega arith
below Rw = omega arith
below Ctl = omega arith
below New = omega arith
below Null = omega arith
below LeftParen = omega arith
below RightParen = omega arith
below LeftBracket = omega arith
below RightBracket = omega arith
below LeftBrace = omega arith
below RightBrace = omega arith
below Comma = omega arith
below Semicolon = omega arith
below Colon = omega arith
below Question = omega arith
below Assign = omega arith
below Dots = omega arith
below Inward = omega arith
below Outward = omega arith
below Plus = omega arith
below Minus = omega arith
below Star = omega arith
below Slash = omega arith
below Percent = omega arith
below Equal = omega arith
below NotEqual = omega arith
below Less = omega arith
below AtMost = omega arith
below Greater = omega arith
below AtLeast = omega arith
below And = omega arith
below AndAnd = omega arith
below Or = omega arith
below OrOr = omega arith
below Not = omega arith

-- A token with the number of a terminal has this terminal.
pub token_terminal : (x : Token) (k : Terminal) → x.terminal ≡ number_of k → terminal_of x ≡ k
unfolding numbered.terminal_of
token_terminal x k e = ap terminal_at (ap (λ (n : ℕ). n % 64) e ∙ mod-eq_of_lt (below k)) ∙ terminal_of_number k
