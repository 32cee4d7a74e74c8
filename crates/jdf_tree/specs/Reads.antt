-- What a call that reads a part of a text returns.
-- Carried by: `expr_read::name`, `expr_read::outer`, `expr_read::guard`.
-- Tested by: `expressions.txt`, `body_syntax.txt`.
use denote.Ref.{Bor}
use Rattle.std.specs.Prelude.{List, Result}
use Rattle.ptg_base.specs.Returns.{Returns}
use Rattle.ptg_base.specs.declared.refusal.Refusal.{Refusal}
use Rattle.grammar_core.specs.declared.fault.ReadFault.{ReadFault}
use Rattle.grammar_core.specs.declared.token.Token.{Token}
use Rattle.grammar_core.specs.Reading.{reading}
use Rattle.jdf_tree.specs.Grammar.{productions}
use Rattle.jdf_tree.specs.Nonterminal.{Grammar}

-- what a production reads at the front of these tokens, with the tokens after it; or its fault, or out of memory
abbrev pub Reads : {A : Type 0} → Grammar A → List Token → Result (A × Bor (List Token)) (Refusal ReadFault) → Type 0
Reads g tokens result = Returns (λ (tree, rest). (tree, rest.now)) result (reading productions g tokens)
