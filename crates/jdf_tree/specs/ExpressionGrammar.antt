-- The grammar of expressions. Source: the JDF documentation; precedence and grouping are those of C, but the single `&`
-- and `|` are read as `&&` and `||`.
-- Carried by: `jdf_read::read`; law `trees_are_within_limits`.
-- Tested by: `spelling.txt`, `as_many_as_may_be.txt`.
use Rattle.std.specs.Prelude.{pos, Bool, List, [], ◌∷◌, Option, Some, None, ◌||◌}
use Rattle.grammar_core.specs.declared.token.Spot.{Spot}
use Rattle.grammar_core.specs.declared.token.Token.{Token}
use Rattle.term_core.specs.declared.operator.UnOp.{UnOp}
use Rattle.term_core.specs.declared.operator.UnOp.TheVariants as un
use Rattle.term_core.specs.declared.operator.BinOp.{BinOp}
use Rattle.term_core.specs.declared.operator.BinOp.TheVariants as bin
use Rattle.jdf_lex.specs.declared.terminal.Terminal.{Terminal}
use Rattle.jdf_lex.specs.declared.terminal.Terminal.TheVariants as terminal
use Rattle.jdf_lex.specs.Codes.{BadNumber, ExprTooLong}
use Rattle.jdf_lex.specs.Terminals.{terminal_of, is}
use Rattle.jdf_lex.specs.Counted.{expression_limit}
use Rattle.grammar_core.specs.Production.{seq, map, alt, opt, star, limited}
use Rattle.jdf_lex.specs.Sets.{one_of, checked, after_token}
use Rattle.jdf_tree.specs.declared.expression.Word.{Word}
use Rattle.jdf_tree.specs.declared.expression.ExprWithSpot.{ExprWithSpot}
use Rattle.jdf_tree.specs.declared.part.Part.{Part}
use Rattle.jdf_tree.specs.declared.part.Part.TheVariants.{Class, Body}
use Rattle.jdf_tree.specs.Expression.{Expression, Num, Name, Elem, Unary, Binary, Choose}
use Rattle.jdf_tree.specs.Numbers.{decimal, is_number}
use Rattle.jdf_tree.specs.Nonterminal.{an_expr, a_unary, Grammar}
use Rattle.jdf_tree.specs.GrammarParts.{word, suffixed_by, any, name}

-- an expression whose first token has this spot
abbrev pub with_spot : Spot → Expression → ExprWithSpot
with_spot spot tree = record { spot = spot; tree = tree }

-- the expression that a number token is
abbrev pub number_at : Token → ExprWithSpot
number_at x = with_spot x.spot (Num (pos (decimal x.text)) x.spot)

-- Whether a number is written as numbers of expressions must be.
abbrev pub is_good : Token → Bool
is_good x = is_number x.text

-- number = Number, written in decimal and within the limit
unfoldable pub number : Grammar ExprWithSpot
number = map number_at (checked (is terminal.Number) is_good BadNumber)

-- an expression after a mark
abbrev pub inside : Terminal → Part → Grammar ExprWithSpot
inside k part = map (λ (mark, e). e) (after_token (is k) (an_expr part))

-- an expression in parentheses has the spot of the first parenthesis
abbrev pub enclosed : (Token × ExprWithSpot) × Token → ExprWithSpot
enclosed ((opening, e), closing) = with_spot opening.spot e.tree

-- parens = "(" expr ")"
unfoldable pub parens : Part → Grammar ExprWithSpot
parens part = map enclosed (seq (after_token (is terminal.LeftParen) (an_expr part)) (word terminal.RightParen))

-- index = "[" expr "]"
unfoldable pub index : Grammar ExprWithSpot
index = suffixed_by terminal.RightBracket (inside terminal.LeftBracket Body)

-- a name alone, or an element of a flow
abbrev pub named : Word × Option ExprWithSpot → ExprWithSpot
named (w, None) = with_spot w.spot (Name w)
named (w, Some a) = with_spot w.spot (Elem w a.tree)

-- a name that no index follows
abbrev pub name_alone : Word → ExprWithSpot
name_alone w = with_spot w.spot (Name w)

-- reference = name, or in a body name index?
unfoldable pub reference : Part → Grammar ExprWithSpot
reference Class = map name_alone (name Class)
reference Body = map named (seq (name Body) (opt index))

-- the marks of prefix operators
abbrev pub is_sign : Terminal → Bool
is_sign k = is terminal.Minus k || is terminal.Not k

-- the prefix operator by its terminal
abbrev pub sign_by : Terminal → UnOp
sign_by terminal.Minus = un.Neg
sign_by _ = un.Not

-- an operand after this prefix operator
abbrev pub signed_of : Token × ExprWithSpot → ExprWithSpot
signed_of x = with_spot x.0.spot (Unary (sign_by (terminal_of x.0)) x.1.tree x.0.spot)

-- signed = ("-" | "!") unary
unfoldable pub signed : Part → Grammar ExprWithSpot
signed part = map signed_of (after_token is_sign (a_unary part))

-- unary = ("-" | "!") unary | Number | name | "(" expr ")" | name "[" expr "]" in a body
unfoldable pub unary : Part → Grammar ExprWithSpot
unary part = alt (signed part) (alt number (alt (reference part) (parens part)))

-- the infix operator of a mark; Or for every other terminal
abbrev pub operator_by : Terminal → BinOp
operator_by terminal.Star = bin.Mul
operator_by terminal.Slash = bin.Div
operator_by terminal.Percent = bin.Rem
operator_by terminal.Plus = bin.Add
operator_by terminal.Minus = bin.Sub
operator_by terminal.Less = bin.Lt
operator_by terminal.AtMost = bin.Le
operator_by terminal.Greater = bin.Gt
operator_by terminal.AtLeast = bin.Ge
operator_by terminal.Equal = bin.Eq
operator_by terminal.NotEqual = bin.Ne
operator_by terminal.And = bin.And
operator_by terminal.AndAnd = bin.And
operator_by _ = bin.Or

-- the operator that a token is
abbrev pub operator_of : Token → BinOp
operator_of x = operator_by (terminal_of x)

-- an expression, with more operators and operands that group to the left
abbrev pub grouped : Expression → List (BinOp × ExprWithSpot) → Expression
grouped a [] = a
grouped a (x ∷ xs) = grouped (Binary x.0 a x.1.tree) xs

-- operand (operator operand)*, with operators of this set
abbrev pub ranked : (Terminal → Bool) → Grammar ExprWithSpot → Grammar ExprWithSpot
ranked ops operand =
    map (λ (a, more). with_spot a.spot (grouped a.tree more))
    (seq operand (star any (seq (map operator_of (one_of ops)) operand)))

-- the operators of products; these bind tightest, and each group below binds less tightly than the one before it
abbrev pub is_product : Terminal → Bool
is_product k = is terminal.Star k || is terminal.Slash k || is terminal.Percent k

-- the operators of sums
abbrev pub is_sum : Terminal → Bool
is_sum k = is terminal.Plus k || is terminal.Minus k

-- the operators that compare by order
abbrev pub is_relation : Terminal → Bool
is_relation k = is terminal.Less k || is terminal.AtMost k || is terminal.Greater k || is terminal.AtLeast k

-- the operators that compare for equality
abbrev pub is_equality : Terminal → Bool
is_equality k = is terminal.Equal k || is terminal.NotEqual k

-- the operators of conjunctions
abbrev pub is_conjunction : Terminal → Bool
is_conjunction k = is terminal.AndAnd k || is terminal.And k

-- the operators of disjunctions
abbrev pub is_disjunction : Terminal → Bool
is_disjunction k = is terminal.OrOr k || is terminal.Or k

-- product = unary (("*" | "/" | "%") unary)*
unfoldable pub product : Part → Grammar ExprWithSpot
product part = ranked is_product (unary part)

-- sum = product (("+" | "-") product)*
unfoldable pub sum : Part → Grammar ExprWithSpot
sum part = ranked is_sum (product part)

-- relation = sum (("<" | "<=" | ">" | ">=") sum)*
unfoldable pub relation : Part → Grammar ExprWithSpot
relation part = ranked is_relation (sum part)

-- equality = relation (("==" | "!=") relation)*
unfoldable pub equality : Part → Grammar ExprWithSpot
equality part = ranked is_equality (relation part)

-- conjunction = equality (("&&" | "&") equality)*
unfoldable pub conjunction : Part → Grammar ExprWithSpot
conjunction part = ranked is_conjunction (equality part)

-- disjunction = conjunction (("||" | "|") conjunction)*
unfoldable pub disjunction : Part → Grammar ExprWithSpot
disjunction part = ranked is_disjunction (conjunction part)

-- a condition alone, or one with two branches
abbrev pub chosen : ExprWithSpot × Option (ExprWithSpot × ExprWithSpot) → ExprWithSpot
chosen (c, None) = c
chosen (c, Some x) = with_spot c.spot (Choose c.tree x.0.tree x.1.tree)

-- branches = "?" expr ":" expr
unfoldable pub branches : Part → Grammar (ExprWithSpot × ExprWithSpot)
branches part = seq (inside terminal.Question part) (inside terminal.Colon part)

-- expr = disjunction ("?" expr ":" expr)?
unfoldable pub expr : Part → Grammar ExprWithSpot
expr part = map chosen (seq (disjunction part) (opt (branches part)))

-- An outermost expression, which has a limit: at most 512 tokens, and among them at most 128 names, numbers, operators
-- and "?".
unfoldable pub outer : Part → Grammar ExprWithSpot
outer part = limited expression_limit ExprTooLong (expr part)

-- guard = disjunction, an outermost expression too
unfoldable pub guard : Grammar ExprWithSpot
guard = limited expression_limit ExprTooLong (disjunction Class)
