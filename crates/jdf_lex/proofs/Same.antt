-- The derived `==` of terminals compares their numbers.
use Rattle.std.proofs.Common.{◌≡◌, ℕ, refl, ap, ◌∙◌}
use Rattle.std.specs.Prelude.{◌==◌}
use denote.Enum.Bare.{sameb}
use denote.Enum.Declared.{tag_of}
use Rattle.jdf_lex.specs.declared.terminal.Terminal.{Terminal}
use Rattle.jdf_lex.specs.declared.terminal.Terminal.TheVariants.{Name, TypeWord, Int, If, Else, For, Trap, Number, Quoted, Raw, OptionLine, Other}
use Rattle.jdf_lex.specs.declared.terminal.Terminal.TheVariants.{Extern, Body, End, Read, Write, Rw, Ctl, New, Null, LeftParen, RightParen}
use Rattle.jdf_lex.specs.declared.terminal.Terminal.TheVariants.{LeftBracket, RightBracket, LeftBrace, RightBrace, Comma, Semicolon, Colon, Question}
use Rattle.jdf_lex.specs.declared.terminal.Terminal.TheVariants.{Assign, Dots, Inward, Outward, Plus, Minus, Star, Slash, Percent, Equal, NotEqual}
use Rattle.jdf_lex.specs.declared.terminal.Terminal.TheVariants.{Less, AtMost, Greater, AtLeast, And, AndAnd, Or, OrOr, Not}
use Rattle.jdf_lex.specs.contracts.terminal.Terminal.{the_type}
use Rattle.jdf_lex.specs.Terminals.{number_of, is}

tag_is : (k : Terminal) → tag_of the_type k ≡ number_of k
tag_is Name = refl
tag_is TypeWord = refl
tag_is Int = refl
tag_is If = refl
tag_is Else = refl
tag_is For = refl
tag_is Trap = refl
tag_is Number = refl
tag_is Quoted = refl
tag_is Raw = refl
tag_is OptionLine = refl
tag_is Other = refl
tag_is Extern = refl
tag_is Body = refl
tag_is End = refl
tag_is Read = refl
tag_is Write = refl
tag_is Rw = refl
tag_is Ctl = refl
tag_is New = refl
tag_is Null = refl
tag_is LeftParen = refl
tag_is RightParen = refl
tag_is LeftBracket = refl
tag_is RightBracket = refl
tag_is LeftBrace = refl
tag_is RightBrace = refl
tag_is Comma = refl
tag_is Semicolon = refl
tag_is Colon = refl
tag_is Question = refl
tag_is Assign = refl
tag_is Dots = refl
tag_is Inward = refl
tag_is Outward = refl
tag_is Plus = refl
tag_is Minus = refl
tag_is Star = refl
tag_is Slash = refl
tag_is Percent = refl
tag_is Equal = refl
tag_is NotEqual = refl
tag_is Less = refl
tag_is AtMost = refl
tag_is Greater = refl
tag_is AtLeast = refl
tag_is And = refl
tag_is AndAnd = refl
tag_is Or = refl
tag_is OrOr = refl
tag_is Not = refl

pub same_is : (a b : Terminal) → sameb the_type a b ≡ is a b
same_is a b = ap (λ (n : ℕ). n == tag_of the_type b) (tag_is a) ∙ ap (λ (n : ℕ). number_of a == n) (tag_is b)
