-- The terminals of JDF: how they are spelled, and their numbers. Source of the spellings: the JDF documentation.
use Rattle.std.specs.Prelude.{ℕ, Bool, List, [], ◌∷◌, ◌==◌, if◌then◌else◌, codes, slice_get, unwrap_or}
use Rattle.std.specs.Str.{bytes_eq}
use Rattle.grammar_core.specs.declared.token.Token.{Token}
use Rattle.grammar_core.specs.Terminals as numbered
use Rattle.jdf_lex.specs.declared.kind.TokenKind.{TokenKind}
use Rattle.jdf_lex.specs.declared.kind.TokenKind.TheVariants as kinds
use Rattle.jdf_lex.specs.declared.terminal.Terminal.{Terminal}
use Rattle.jdf_lex.specs.declared.terminal.Terminal.TheVariants.{Name, TypeWord, Int, If, Else, For, Trap, Number, Quoted, Raw, OptionLine, Other}
use Rattle.jdf_lex.specs.declared.terminal.Terminal.TheVariants.{Extern, Body, End, Read, Write, Rw, Ctl, New, Null, LeftParen, RightParen}
use Rattle.jdf_lex.specs.declared.terminal.Terminal.TheVariants.{LeftBracket, RightBracket, LeftBrace, RightBrace, Comma, Semicolon, Colon, Question}
use Rattle.jdf_lex.specs.declared.terminal.Terminal.TheVariants.{Assign, Dots, Inward, Outward, Plus, Minus, Star, Slash, Percent, Equal, NotEqual}
use Rattle.jdf_lex.specs.declared.terminal.Terminal.TheVariants.{Less, AtMost, Greater, AtLeast, And, AndAnd, Or, OrOr, Not}

-- the terminal that a table has for a spelling, or `other` if it has none
abbrev pub spelled : List (List ℕ × Terminal) → List ℕ → Terminal → Terminal
spelled [] text other = other
spelled (w ∷ ws) text other = if bytes_eq w.0 text then w.1 else spelled ws text other

-- the words that are terminals of their own
unfoldable pub words : List (List ℕ × Terminal)
words =
    (codes "type", TypeWord) ∷ (codes "int", Int) ∷ (codes "if", If) ∷ (codes "else", Else) ∷ (codes "for", For)
    ∷ (codes "trap", Trap) ∷ (codes "extern", Extern) ∷ (codes "BODY", Body) ∷ (codes "END", End) ∷ (codes "READ", Read)
    ∷ (codes "WRITE", Write) ∷ (codes "RW", Rw) ∷ (codes "CTL", Ctl) ∷ (codes "NEW", New) ∷ (codes "NULL", Null) ∷ []

-- the marks
unfoldable pub marks : List (List ℕ × Terminal)
marks =
    (codes "(", LeftParen) ∷ (codes ")", RightParen) ∷ (codes "[", LeftBracket) ∷ (codes "]", RightBracket)
    ∷ (codes "{", LeftBrace) ∷ (codes "}", RightBrace) ∷ (codes ",", Comma) ∷ (codes ";", Semicolon)
    ∷ (codes ":", Colon) ∷ (codes "?", Question) ∷ (codes "=", Assign) ∷ (codes "..", Dots) ∷ (codes "<-", Inward)
    ∷ (codes "->", Outward) ∷ (codes "+", Plus) ∷ (codes "-", Minus) ∷ (codes "*", Star) ∷ (codes "/", Slash)
    ∷ (codes "%", Percent) ∷ (codes "==", Equal) ∷ (codes "!=", NotEqual) ∷ (codes "<", Less) ∷ (codes "<=", AtMost)
    ∷ (codes ">", Greater) ∷ (codes ">=", AtLeast) ∷ (codes "&", And) ∷ (codes "&&", AndAnd) ∷ (codes "|", Or)
    ∷ (codes "||", OrOr) ∷ (codes "!", Not) ∷ []

-- the terminal of a token of this kind and spelling
abbrev pub terminal_by : TokenKind → List ℕ → Terminal
terminal_by kinds.Name text = spelled words text Name
terminal_by kinds.Number text = Number
terminal_by kinds.Quoted text = Quoted
terminal_by kinds.Raw text = Raw
terminal_by kinds.OptionLine text = OptionLine
terminal_by kinds.Mark text = spelled marks text Other
terminal_by kinds.Other text = Other

-- the number of a terminal, as its tokens have it
abbrev pub number_of : Terminal → ℕ
number_of Name = 0
number_of TypeWord = 1
number_of Int = 2
number_of If = 3
number_of Else = 4
number_of For = 5
number_of Trap = 6
number_of Number = 7
number_of Quoted = 8
number_of Raw = 9
number_of OptionLine = 10
number_of Other = 11
number_of Extern = 12
number_of Body = 13
number_of End = 14
number_of Read = 15
number_of Write = 16
number_of Rw = 17
number_of Ctl = 18
number_of New = 19
number_of Null = 20
number_of LeftParen = 21
number_of RightParen = 22
number_of LeftBracket = 23
number_of RightBracket = 24
number_of LeftBrace = 25
number_of RightBrace = 26
number_of Comma = 27
number_of Semicolon = 28
number_of Colon = 29
number_of Question = 30
number_of Assign = 31
number_of Dots = 32
number_of Inward = 33
number_of Outward = 34
number_of Plus = 35
number_of Minus = 36
number_of Star = 37
number_of Slash = 38
number_of Percent = 39
number_of Equal = 40
number_of NotEqual = 41
number_of Less = 42
number_of AtMost = 43
number_of Greater = 44
number_of AtLeast = 45
number_of And = 46
number_of AndAnd = 47
number_of Or = 48
number_of OrOr = 49
number_of Not = 50

-- all terminals, in the order of their numbers
abbrev pub all_terminals : List Terminal
all_terminals =
    Name ∷ TypeWord ∷ Int ∷ If ∷ Else ∷ For ∷ Trap ∷ Number ∷ Quoted ∷ Raw ∷ OptionLine ∷ Other ∷ Extern ∷ Body ∷ End
    ∷ Read ∷ Write ∷ Rw ∷ Ctl ∷ New ∷ Null ∷ LeftParen ∷ RightParen ∷ LeftBracket ∷ RightBracket ∷ LeftBrace
    ∷ RightBrace ∷ Comma ∷ Semicolon ∷ Colon ∷ Question ∷ Assign ∷ Dots ∷ Inward ∷ Outward ∷ Plus ∷ Minus ∷ Star ∷ Slash
    ∷ Percent ∷ Equal ∷ NotEqual ∷ Less ∷ AtMost ∷ Greater ∷ AtLeast ∷ And ∷ AndAnd ∷ Or ∷ OrOr ∷ Not ∷ []

-- whether two terminals are the same; `is a` is the set of a alone
abbrev pub is : Terminal → Terminal → Bool
is a b = number_of a == number_of b

-- The terminal with this number; Other if there is none.
unfoldable pub terminal_at : ℕ → Terminal
terminal_at n = unwrap_or (slice_get all_terminals n) Other

-- The terminal of a token, by its number.
abbrev pub terminal_of : Token → Terminal
terminal_of x = terminal_at (numbered.terminal_of x)

-- a set of terminals as a set of their numbers
abbrev pub set : (Terminal → Bool) → ℕ → Bool
set q n = q (terminal_at n)
