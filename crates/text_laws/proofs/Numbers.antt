-- Terminals and codes are told apart by their numbers.
use Rattle.std.proofs.Common.{◌≡◌, refl}
use Rattle.jdf_lex.specs.declared.code.GrammarCode.{GrammarCode}
use Rattle.jdf_lex.specs.declared.code.GrammarCode.TheVariants as grammar
use Rattle.jdf_lex.specs.declared.terminal.Terminal.{Terminal}
use Rattle.jdf_lex.specs.declared.terminal.Terminal.TheVariants.{Name, TypeWord, Int, If, Else, For, Trap, Number}
use Rattle.jdf_lex.specs.declared.terminal.Terminal.TheVariants.{Quoted, Raw, OptionLine, Other, Extern, Body, End}
use Rattle.jdf_lex.specs.declared.terminal.Terminal.TheVariants.{Read, Write, Rw, Ctl, New, Null, LeftParen, RightParen}
use Rattle.jdf_lex.specs.declared.terminal.Terminal.TheVariants.{LeftBracket, RightBracket, LeftBrace, RightBrace}
use Rattle.jdf_lex.specs.declared.terminal.Terminal.TheVariants.{Comma, Semicolon, Colon, Question, Assign, Dots}
use Rattle.jdf_lex.specs.declared.terminal.Terminal.TheVariants.{Inward, Outward, Plus, Minus, Star, Slash, Percent}
use Rattle.jdf_lex.specs.declared.terminal.Terminal.TheVariants.{Equal, NotEqual, Less, AtMost, Greater, AtLeast, And}
use Rattle.jdf_lex.specs.declared.terminal.Terminal.TheVariants.{AndAnd, Or, OrOr, Not}
use Rattle.jdf_lex.specs.Codes.{code_at, code_number}
use Rattle.jdf_lex.specs.Terminals.{number_of, terminal_at}

pub terminal_of_number : (k : Terminal) → terminal_at (number_of k) ≡ k
unfolding terminal_at
terminal_of_number Name = refl
terminal_of_number TypeWord = refl
terminal_of_number Int = refl
terminal_of_number If = refl
terminal_of_number Else = refl
terminal_of_number For = refl
terminal_of_number Trap = refl
terminal_of_number Number = refl
terminal_of_number Quoted = refl
terminal_of_number Raw = refl
terminal_of_number OptionLine = refl
terminal_of_number Other = refl
terminal_of_number Extern = refl
terminal_of_number Body = refl
terminal_of_number End = refl
terminal_of_number Read = refl
terminal_of_number Write = refl
terminal_of_number Rw = refl
terminal_of_number Ctl = refl
terminal_of_number New = refl
terminal_of_number Null = refl
terminal_of_number LeftParen = refl
terminal_of_number RightParen = refl
terminal_of_number LeftBracket = refl
terminal_of_number RightBracket = refl
terminal_of_number LeftBrace = refl
terminal_of_number RightBrace = refl
terminal_of_number Comma = refl
terminal_of_number Semicolon = refl
terminal_of_number Colon = refl
terminal_of_number Question = refl
terminal_of_number Assign = refl
terminal_of_number Dots = refl
terminal_of_number Inward = refl
terminal_of_number Outward = refl
terminal_of_number Plus = refl
terminal_of_number Minus = refl
terminal_of_number Star = refl
terminal_of_number Slash = refl
terminal_of_number Percent = refl
terminal_of_number Equal = refl
terminal_of_number NotEqual = refl
terminal_of_number Less = refl
terminal_of_number AtMost = refl
terminal_of_number Greater = refl
terminal_of_number AtLeast = refl
terminal_of_number And = refl
terminal_of_number AndAnd = refl
terminal_of_number Or = refl
terminal_of_number OrOr = refl
terminal_of_number Not = refl

pub code_of_number : (c : GrammarCode) → code_at (code_number c) ≡ c
unfolding code_at
code_of_number grammar.BadNumber = refl
code_of_number grammar.ExprTooLong = refl
code_of_number grammar.TooManyClasses = refl
code_of_number grammar.TooManyParams = refl
code_of_number grammar.TooManyLocals = refl
code_of_number grammar.TooManyFlows = refl
code_of_number grammar.TooManyDeps = refl
code_of_number grammar.TooDeep = refl
code_of_number grammar.TooManyVars = refl
