-- The grammar of the body of a class.
-- Carried by: `body_lang::tree`, `body_lang::read`.
-- Tested by: `body_syntax.txt`, `body_reserved.txt`, `body_limits.txt`, `body_two_faults.txt`.
use Rattle.std.specs.Prelude.{Bool, Option, Some, None, ◌||◌, unwrap_or}
use Rattle.jdf_lex.specs.declared.terminal.Terminal.{Terminal}
use Rattle.jdf_lex.specs.declared.terminal.Terminal.TheVariants as terminal
use Rattle.jdf_lex.specs.Codes.{TooDeep, TooManyVars}
use Rattle.jdf_lex.specs.Terminals.{is}
use Rattle.grammar_core.specs.Production.{seq, map, alt, opt, star, limited}
use Rattle.jdf_lex.specs.Sets.{after_token}
use Rattle.jdf_tree.specs.declared.expression.Word.{Word}
use Rattle.jdf_tree.specs.declared.expression.ExprWithSpot.{ExprWithSpot}
use Rattle.jdf_tree.specs.declared.body.StmtTree.{StmtTree}
use Rattle.jdf_tree.specs.declared.body.StmtTree.TheVariants.{Declare, Set, Put, If, For, Trap}
use Rattle.jdf_tree.specs.declared.part.Part.TheVariants.{Body}
use Rattle.jdf_tree.specs.Statements.{Statements, Done}
use Rattle.jdf_tree.specs.BlockStatements.{statements_of}
use Rattle.jdf_tree.specs.Nonterminal.{a_block, Grammar}
use Rattle.jdf_tree.specs.GrammarParts.{prefixed_by, suffixed_by, any, names, name}
use Rattle.jdf_tree.specs.ExpressionGrammar.{outer}
use Rattle.jdf_tree.specs.BodyLimits.{block_limit, variable_limit}

-- block = "{" statement* "}"
unfoldable pub block : Grammar Statements
block = map (λ (opening, inner). inner) (after_token (is terminal.LeftBrace) a_block)

-- value = "=" expr ";"
unfoldable pub value : Grammar ExprWithSpot
value = prefixed_by terminal.Assign (suffixed_by terminal.Semicolon (outer Body))

-- the declaration of a variable with this name and value
abbrev pub declare_of : Word × ExprWithSpot → StmtTree
declare_of x = Declare x.0 x.1.tree

-- declaration = int name value
unfoldable pub declaration : Grammar StmtTree
declaration = map declare_of (prefixed_by terminal.Int (seq (name Body) value))

-- element = "[" expr "]"
unfoldable pub element : Grammar ExprWithSpot
element = prefixed_by terminal.LeftBracket (suffixed_by terminal.RightBracket (outer Body))

-- an assignment to a variable or to an element of a flow
abbrev pub assign_of : Word × (Option ExprWithSpot × ExprWithSpot) → StmtTree
assign_of (w, (None, e)) = Set w e.tree
assign_of (w, (Some at, e)) = Put w at.tree e.tree

-- assignment = name element? value
unfoldable pub assignment : Grammar StmtTree
assignment = map assign_of (seq (name Body) (seq (opt element) value))

-- the choice with this condition, this block and this else part; an else part that is left out is an empty block
abbrev pub if_of : ExprWithSpot × (Statements × Option Statements) → StmtTree
if_of (c, (then_block, else_block)) = If c.tree then_block (unwrap_or else_block Done)

-- condition = "(" expr ")"
unfoldable pub condition : Grammar ExprWithSpot
condition = prefixed_by terminal.LeftParen (suffixed_by terminal.RightParen (outer Body))

-- otherwise = else block
unfoldable pub otherwise : Grammar Statements
otherwise = prefixed_by terminal.Else block

-- choice = if condition block otherwise?
unfoldable pub choice : Grammar StmtTree
choice = map if_of (prefixed_by terminal.If (seq condition (seq block (opt otherwise))))

-- the loop with this variable, these first and last values, and this block
abbrev pub for_of : Word × (ExprWithSpot × (ExprWithSpot × Statements)) → StmtTree
for_of (variable, (low, (high, turn))) = For variable low.tree high.tree turn

-- for_loop = for name "=" expr ".." expr block
unfoldable pub for_loop : Grammar StmtTree
for_loop =
    map for_of
    (prefixed_by terminal.For
    (seq (name Body)
    (seq (prefixed_by terminal.Assign (outer Body)) (seq (prefixed_by terminal.Dots (outer Body)) block))))

-- trap_statement = trap name ";"
unfoldable pub trap_statement : Grammar StmtTree
trap_statement = map Trap (prefixed_by terminal.Trap (suffixed_by terminal.Semicolon (name Body)))

-- statement = declaration | choice | for_loop | trap_statement | assignment
unfoldable pub statement : Grammar StmtTree
statement = alt declaration (alt choice (alt for_loop (alt trap_statement assignment)))

-- the first set of a statement
abbrev pub begins_statement : Terminal → Bool
begins_statement k = is terminal.Int k || is terminal.If k || is terminal.For k || is terminal.Trap k || names Body k

-- statements = statement*
unfoldable pub statements : Grammar Statements
statements = map statements_of (star any statement)

-- block_rest = statements "}": a block after its opening brace
unfoldable pub block_rest : Grammar Statements
block_rest = suffixed_by terminal.RightBrace statements

-- text = block | statements
unfoldable pub text : Grammar Statements
text = alt block statements

-- body = text, in which blocks nest at most 32 deep, and at most 256 variables are declared
unfoldable pub body : Grammar Statements
body = limited variable_limit TooManyVars (limited block_limit TooDeep text)
