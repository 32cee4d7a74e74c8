-- The tests of the next tokens that this crate's functions make, and the parts of a text that they read or skip.
use Rattle.std.specs.Prelude.{Bool, false, ◌&&◌, ◌||◌, List, [], ◌∷◌, Option, Some, None, Result, Ok}
use Rattle.grammar_core.specs.declared.fault.ReadFault.{ReadFault}
use Rattle.grammar_core.specs.declared.token.Token.{Token}
use Rattle.jdf_lex.specs.declared.terminal.Terminal.{Terminal}
use Rattle.jdf_lex.specs.declared.terminal.Terminal.TheVariants as terminal
use Rattle.jdf_lex.specs.Terminals.{is, terminal_of}
use Rattle.jdf_lex.specs.Counted.{is_name}
use Rattle.grammar_core.specs.Production.{seq, map, alt, opt}
use Rattle.grammar_core.specs.Reading.{◌>>=◌, reading}
use Rattle.jdf_lex.specs.Sets.{starts}
use Rattle.jdf_tree.specs.declared.expression.Word.{Word}
use Rattle.jdf_tree.specs.declared.part.Part.TheVariants.{Class}
use Rattle.jdf_tree.specs.Nonterminal.{Grammar}
use Rattle.jdf_tree.specs.declared.tree.ArgTree.{ArgTree}
use Rattle.jdf_tree.specs.declared.tree.ClassTree.{ClassTree}
use Rattle.jdf_tree.specs.GrammarParts.{prefixed_by, name}
use Rattle.jdf_tree.specs.ClassGrammar.{argument, properties, head, Rest, rest, class_of}
use Rattle.jdf_tree.specs.Grammar.{productions, skip}

-- The tokens after a text of this production, without its tree, or the fault.
abbrev pub past : {A : Type 0} → Grammar A → List Token → Result (List Token) ReadFault
past g s = reading productions g s >>= λ (a, left). Ok left

-- Whether a target is next, and not a guard: `NEW`, `NULL`, or a name that another name or "(" follows.
abbrev pub is_target : List Token → Bool
is_target [] = false
is_target (x ∷ s) =
    is terminal.New (terminal_of x) || is terminal.Null (terminal_of x)
    || (is_name (terminal_of x) && (starts is_name s || starts (is terminal.LeftParen) s))

-- Whether a class is next, and not a global or a skipped part: a name that "(" follows.
abbrev pub is_class : List Token → Bool
is_class [] = false
is_class (x ∷ s) = is_name (terminal_of x) && starts (is terminal.LeftParen) s

-- the first set of a skipped part
abbrev pub is_skip : Terminal → Bool
is_skip k = is terminal.Extern k || is terminal.OptionLine k

-- One part before the first class: a global, or a part that is skipped.
unfoldable pub leading : Grammar (Option Word)
leading = alt (map (λ x. None) skip) (map (λ (w, _). Some w) (seq (name Class) (opt properties)))

-- the class with this name, these parameters and this rest
abbrev pub class_from : Word × List Word → Rest → ClassTree
class_from x y = class_of ((x.0, (x.1, None)), y)

-- a class after its name and its parameters
abbrev pub class_rest : Word × List Word → Grammar ClassTree
class_rest x = map (class_from x) rest

-- another argument, after a comma
unfoldable pub next_argument : Grammar ArgTree
next_argument = prefixed_by terminal.Comma argument

-- another parameter, after a comma
unfoldable pub next_parameter : Grammar Word
next_parameter = prefixed_by terminal.Comma (name Class)

-- the name and the parameters of a class
abbrev pub signature : Grammar (Word × List Word)
signature = map (λ (w, (params, _)). (w, params)) head
