-- Reading a nonterminal of the grammar is reading its production.
use Rattle.std.proofs.Common.{◌≡◌, List}
use Rattle.grammar_core.specs.declared.token.Token.{Token}
use Rattle.grammar_core.specs.Reading.{nonterminal_at, reading}
use Rattle.grammar_core.proofs.CallerLemmas.{nonterminal_is}
use Rattle.jdf_tree.specs.declared.part.Part.{Part}
use Rattle.jdf_tree.specs.Nonterminal.{an_expr, a_unary}
use Rattle.jdf_tree.specs.ExpressionGrammar.{expr, unary}
use Rattle.jdf_tree.specs.Grammar.{productions}

pub expr_is : (part : Part) (s : List Token) → nonterminal_at productions (an_expr part) s ≡ reading productions (expr part) s
unfolding productions
expr_is part s = nonterminal_is productions (an_expr part) s

pub unary_is : (part : Part) (s : List Token) → nonterminal_at productions (a_unary part) s ≡ reading productions (unary part) s
unfolding productions
unary_is part s = nonterminal_is productions (a_unary part) s
