-- The grammar of a JDF text. Source: the JDF documentation. Extern blocks, options and properties are skipped unread.
-- Carried by: `jdf_read::read`; law `trees_are_within_limits`.
-- Tested by: `spelling.txt`, `as_many_as_may_be.txt`.
use Rattle.std.specs.Prelude.{Bool, false, List, [], ◌∷◌, ◌||◌, ◌-◌}
use Rattle.ptg_base.specs.Limits.{most_classes}
use Rattle.grammar_core.specs.declared.token.Token.{Token}
use Rattle.jdf_lex.specs.declared.terminal.Terminal.{Terminal}
use Rattle.jdf_lex.specs.declared.terminal.Terminal.TheVariants as terminal
use Rattle.jdf_lex.specs.Codes.{TooManyClasses}
use Rattle.jdf_lex.specs.Terminals.{is, set}
use Rattle.jdf_lex.specs.Counted.{is_name}
use Rattle.grammar_core.specs.Production.{seq, map, alt, star}
use Rattle.jdf_lex.specs.Sets.{one_of, pick, after_token}
use Rattle.grammar_core.specs.Predictive.{Claims}
use Rattle.jdf_tree.specs.declared.expression.Word.{Word}
use Rattle.jdf_tree.specs.declared.part.Part.{Part}
use Rattle.jdf_tree.specs.declared.part.Part.TheVariants.{Class, Body}
use Rattle.jdf_tree.specs.declared.tree.ClassTree.{ClassTree}
use Rattle.jdf_tree.specs.declared.tree.Jdf.{Jdf}
use Rattle.jdf_tree.specs.Nonterminal.{Nonterminal, an_expr, a_unary, a_file, a_block, TreeOf, Grammar}
use Rattle.jdf_tree.specs.GrammarParts.{word, any, names, name, word_of}
use Rattle.jdf_tree.specs.ExpressionGrammar.{unary, expr, is_product, is_sum, is_relation, is_equality, is_conjunction, is_disjunction}
use Rattle.jdf_tree.specs.ClassGrammar.{full_at, is_no_right_bracket, class}
use Rattle.jdf_tree.specs.BodyGrammar.{begins_statement, block_rest}

-- skip = extern Quoted Raw | OptionLine
unfoldable pub skip : Grammar Token
skip =
    alt (map (λ (extern, others). extern) (seq (word terminal.Extern) (seq (word terminal.Quoted) (word terminal.Raw))))
    (word terminal.OptionLine)

-- class_and_skips = class skip*
unfoldable pub class_and_skips : Grammar ClassTree
class_and_skips = map (λ (one, skipped). one) (seq class (star any skip))

-- classes = class skip* (class skip*)*, at most 64 classes; the list that is counted begins with the second one
unfoldable pub classes : Grammar (List ClassTree)
classes =
    map (λ (one, more). one ∷ more)
    (seq class_and_skips (star (full_at (most_classes - 1) TooManyClasses) class_and_skips))

-- a text without globals
abbrev pub without_globals : List ClassTree → Jdf
without_globals classes = record { globals = []; classes = classes }

-- a text with one more global, before the others
abbrev pub with_global : Word → Jdf → Jdf
with_global name jdf = record { globals = name ∷ jdf.globals; classes = jdf.classes }

-- file_after_extern = extern Quoted Raw file
unfoldable pub file_after_extern : Grammar Jdf
file_after_extern =
    map (λ (extern, (quoted, (raw, jdf))). jdf)
    (seq (word terminal.Extern) (seq (word terminal.Quoted) (after_token (is terminal.Raw) a_file)))

-- file_after_option = OptionLine file
unfoldable pub file_after_option : Grammar Jdf
file_after_option = map (λ (option, jdf). jdf) (after_token (is terminal.OptionLine) a_file)

-- file_after_properties = name "[" tokens "]" file
unfoldable pub file_after_properties : Grammar Jdf
file_after_properties =
    map (λ (global, (opening, (tokens, (closing, jdf)))). with_global global jdf)
    (seq (name Class) (seq (word terminal.LeftBracket)
    (seq (star any (one_of is_no_right_bracket)) (after_token (is terminal.RightBracket) a_file))))

-- file_after_global = name file
unfoldable pub file_after_global : Grammar Jdf
file_after_global = map (λ (global, jdf). with_global (word_of global) jdf) (after_token is_name a_file)

-- file = skip file | classes | name properties? file, where properties = "[" tokens "]", and a name before "(" begins
-- the first class; so file is (skip | name properties?)* class (skip | class)*
unfoldable pub file : Grammar Jdf
file =
    alt file_after_extern
    (alt file_after_option
    (pick (is terminal.LeftParen) (map without_globals classes)
    (pick (is terminal.LeftBracket) file_after_properties file_after_global)))

-- the production of each nonterminal
unfoldable pub productions : (n : Nonterminal) → Grammar (TreeOf n)
productions (an_expr part) = expr part
productions (a_unary part) = unary part
productions a_file = file
productions a_block = block_rest

-- the first set of an operand
abbrev pub begins_operand : Part → Terminal → Bool
begins_operand part k =
    is terminal.Minus k || is terminal.Not k || is terminal.Number k || names part k || is terminal.LeftParen k

-- the first set of the rest of a text, before its first class
abbrev pub begins_file : Terminal → Bool
begins_file k = is terminal.Extern k || is terminal.OptionLine k || is_name k

-- whether a terminal is the mark of an infix operator, or "?"
abbrev pub is_operator : Terminal → Bool
is_operator k =
    is_product k || is_sum k || is_relation k || is_equality k || is_conjunction k || is_disjunction k
    || is terminal.Question k

-- what may continue a name: in a body, the index of an element
abbrev pub continues_name : Part → Terminal → Bool
continues_name Class k = false
continues_name Body k = is terminal.LeftBracket k

-- the first set of each nonterminal, as claimed for the test of predictive grammars
abbrev pub begins : Nonterminal → Terminal → Bool
begins (an_expr part) k = begins_operand part k
begins (a_unary part) k = begins_operand part k
begins a_file k = begins_file k
begins a_block k = begins_statement k || is terminal.RightBrace k

-- the terminals that continue a text of each nonterminal, as claimed for the test
abbrev pub continues : Nonterminal → Terminal → Bool
continues (an_expr part) k = is_operator k || continues_name part k
continues (a_unary part) k = continues_name part k
continues a_file k = begins_file k
continues a_block k = false

-- the claims for the test of predictive grammars: both sets of each nonterminal
abbrev pub claims : Claims Nonterminal
claims = record { firsts = λ n. set (begins n); continues = λ n. set (continues n) }
