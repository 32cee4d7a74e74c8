-- What the next token shows about the statements of a body.
use Rattle.std.proofs.Common.{◌≡◌, true, false, cond, List, [], ◌∷◌, ◌++◌, Ok, refl, ap}
use Rattle.ptg_base.specs.Returns.{ReturnsRefusal}
use Rattle.grammar_core.specs.declared.token.Token.{Token}
use Rattle.jdf_lex.specs.declared.terminal.Terminal.TheVariants as terminal
use Rattle.grammar_core.specs.Production.{star}
use Rattle.jdf_lex.specs.Sets.{starts}
use Rattle.grammar_core.specs.Refusing.{ReadRefusal}
use Rattle.grammar_core.specs.Reading.{Read, ◌>>=◌, first, nonterminal_at, reading}
use Rattle.grammar_core.specs.Reading as numbered
use Rattle.jdf_lex.specs.Terminals.{is, set, terminal_at}
use Rattle.grammar_core.proofs.CallerLemmas.{IsListed, alike_at, applied, fails_before, nonterminal_is, so_far}
use Rattle.jdf_tree.specs.declared.body.StmtTree.{StmtTree}
use Rattle.jdf_tree.specs.Nonterminal.{a_block}
use Rattle.jdf_tree.specs.GrammarParts.{any}
use Rattle.jdf_tree.specs.Statements.{Statements}
use Rattle.jdf_tree.specs.BlockStatements.{statements_of}
use Rattle.jdf_tree.specs.BodyGrammar.{declaration, assignment, choice, for_loop, trap_statement, block, statement, begins_statement, statements}
use Rattle.jdf_tree.specs.BodyGrammar.{block_rest, text}
use Rattle.jdf_tree.specs.Grammar.{productions}
use Rattle.jdf_tree.proofs.CallerLemmas.{rest_begins, rest_ends, rest_fails, rest_goes_on, rest_of}

-- what the nonterminal of a block reads
pub block_is : (s : List Token) → nonterminal_at productions a_block s ≡ reading productions block_rest s
unfolding productions
block_is s = nonterminal_is productions a_block s

-- the next token shows which statement follows
pub statement_reads : (s : List Token) → reading productions statement s
    ≡ cond (starts (is terminal.Int) s) (reading productions declaration s)
    (cond (starts (is terminal.If) s) (reading productions choice s)
    (cond (starts (is terminal.For) s) (reading productions for_loop s)
    (cond (starts (is terminal.Trap) s) (reading productions trap_statement s) (reading productions assignment s))))
unfolding statement declaration choice for_loop trap_statement
statement_reads s = refl

pub text_reads : (s : List Token) → reading productions text s
    ≡ cond (starts (is terminal.LeftBrace) s) (reading productions block s) (reading productions statements s)
unfolding text block
text_reads s = refl

-- ---- statements, one after the other

statements_alike : (s : List Token) → numbered.starts (first statement) s ≡ starts begins_statement s
unfolding terminal_at statement declaration choice for_loop trap_statement assignment
statements_alike [] = refl
statements_alike (x ∷ s) = alike_at (first statement) (set begins_statement) refl refl x

pub statements_listed : IsListed productions statement (set begins_statement)
unfolding statement declaration choice for_loop trap_statement assignment
statements_listed = record { full = refl; begins = statements_alike }

pub statements_begin : (s : List Token) → so_far [] (rest_of statement s) ≡ reading productions (star any statement) s
statements_begin s = rest_begins statement s

pub statements_go_on : (old : List StmtTree) (s : List Token) (x : StmtTree) (next : List Token)
    (total : Read (List StmtTree)) (new : List StmtTree) → new ≡ old ++ x ∷ [] → starts begins_statement s ≡ true
    → reading productions statement s ≡ Ok (x, next)
    → so_far old (rest_of statement s) ≡ total → so_far new (rest_of statement next) ≡ total
statements_go_on old s x next total new e t r before = rest_goes_on old s x next total new statements_listed e t r before

abbrev block_of : List StmtTree × List Token → Read Statements
block_of = applied statements_of

pub statements_fail : (e : ReadRefusal) (old : List StmtTree) (s tokens : List Token)
    → starts begins_statement s ≡ true → ReturnsRefusal e (reading productions statement s)
    → so_far old (rest_of statement s) ≡ reading productions (star any statement) tokens
    → ReturnsRefusal e (reading productions statements tokens)
unfolding statements
statements_fail e old s tokens t f before =
    fails_before e (reading productions (star any statement) tokens) block_of
    (rest_fails e old s (reading productions (star any statement) tokens) statements_listed t f before)

pub statements_end : (old : List StmtTree) (s tokens : List Token) → starts begins_statement s ≡ false
    → so_far old (rest_of statement s) ≡ reading productions (star any statement) tokens
    → reading productions statements tokens ≡ Ok (statements_of old, s)
unfolding statements
statements_end old s tokens t before = ap (λ (r : Read (List StmtTree)). r >>= block_of)
    (rest_ends old s (reading productions (star any statement) tokens) statements_listed t before)
