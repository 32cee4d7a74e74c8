-- The grammar is predictive: it is read with one token of lookahead, and a second one if two productions begin alike.
use Rattle.std.proofs.Common.{◌≡◌, true, refl}
use Rattle.jdf_tree.specs.declared.part.Part.{Part}
use Rattle.jdf_tree.specs.declared.part.Part.TheVariants.{Class, Body}
use Rattle.grammar_core.specs.Predictive.{are_names}
use Rattle.jdf_lex.specs.Terminals.{terminal_at}
use Rattle.jdf_tree.specs.Nonterminal.{Nonterminal, an_expr, a_unary, a_file, a_block}
use Rattle.jdf_tree.specs.ExpressionGrammar.{number, parens, index, reference, signed, unary, product, sum, relation, equality, conjunction}
use Rattle.jdf_tree.specs.ExpressionGrammar.{disjunction, branches, expr, outer, guard}
use Rattle.jdf_tree.specs.ClassGrammar.{argument, arguments, call, called, target, unguarded, guarded, arrow, datatype, dependence, dependences}
use Rattle.jdf_tree.specs.ClassGrammar.{kind_of_flow, flow, flows, parameters, parameter_list, definition, definitions, affinity, priority}
use Rattle.jdf_tree.specs.ClassGrammar.{properties, body_tokens, body, head, rest, class}
use Rattle.jdf_tree.specs.BodyGrammar.{block, value, declaration, element, assignment, condition, otherwise, choice, for_loop, trap_statement}
use Rattle.jdf_tree.specs.BodyGrammar.{statement, statements, block_rest}
use Rattle.jdf_tree.specs.Grammar.{skip, class_and_skips, classes, file_after_extern, file_after_option, file_after_properties, file_after_global}
use Rattle.jdf_tree.specs.Grammar.{file, productions, claims}

pub unary_fine : (part : Part) → are_names productions claims (a_unary part) ≡ true
unfolding terminal_at productions unary signed number reference index parens
unary_fine Class = refl
unary_fine Body = refl

pub expr_fine : (part : Part) → are_names productions claims (an_expr part) ≡ true
unfolding terminal_at productions expr branches disjunction conjunction equality relation sum product unary signed number reference index parens
expr_fine Class = refl
expr_fine Body = refl

pub file_names : are_names productions claims a_file ≡ true
unfolding terminal_at productions file file_after_extern file_after_option file_after_properties file_after_global
    classes class_and_skips skip class rest head body body_tokens properties priority affinity definitions
    definition parameter_list parameters flows flow kind_of_flow dependences dependence datatype arrow guarded
    unguarded target called call arguments argument guard outer expr branches disjunction conjunction equality
    relation sum product unary signed number reference index parens
file_names = refl

pub block_fine : are_names productions claims a_block ≡ true
unfolding terminal_at productions block_rest statements statement declaration choice for_loop trap_statement
    assignment element value condition otherwise block outer expr branches disjunction conjunction equality relation
    sum product unary signed number reference index parens
block_fine = refl

-- Each nonterminal of the grammar passes the test.
pub productions_fine : (n : Nonterminal) → are_names productions claims n ≡ true
productions_fine (an_expr part) = expr_fine part
productions_fine (a_unary part) = unary_fine part
productions_fine a_file = file_names
productions_fine a_block = block_fine
