-- The body whose text tokens are, and the first fault of a body.
-- Carried by: `read_body`; laws `one_answer`, `body_laws::variables_are_counted_in_the_text`,
-- `body_laws::a_slot_for_each_variable`.
-- Tested by: `body_names.txt`, `body_broken.txt`.
use Rattle.std.specs.Prelude.{◌≡◌, ℕ, List, None, Ok, Err, ◌⊎◌}
use Rattle.jdf_lex.specs.declared.fault.JdfFault.{JdfFault}
use Rattle.grammar_core.specs.declared.token.Spot.{Spot}
use Rattle.grammar_core.specs.declared.token.Token.{Token}
use Rattle.grammar_core.specs.declared.code.Code.{Code}
use Rattle.grammar_core.specs.Production.{IsText, IsFirstFault}
use Rattle.term_core.specs.declared.body.Body.{Body}
use Rattle.jdf_tree.specs.BodyGrammar.{body}
use Rattle.jdf_tree.specs.Grammar.{productions}
use Rattle.jdf_tree.specs.Statements.{Statements}
use Rattle.body_lang.specs.Environment.{Environment}
use Rattle.body_lang.specs.Statements.{body_of}
use Rattle.body_lang.specs.Broken.{broken_fault}

-- The tokens are the text of this body, with these trap words, and each of its names means something.
pub record IsBody (scope : Environment) (tokens : List Token) (x : Body × List (List ℕ)) : Type 0 where
  pub tree : Statements
  pub text : IsText productions body tokens tree None
  pub named : body_of scope tree ≡ Ok x

-- The tokens are the text of a body, whose names have this first fault.
pub record IsNameFault (scope : Environment) (tokens : List Token) (fault : JdfFault) : Type 0 where
  pub tree : Statements
  pub text : IsText productions body tokens tree None
  pub named : body_of scope tree ≡ Err fault

-- The text has its first fault at the token of this index. A fault of a name before it comes first, or else that of the
-- text.
pub record IsTextFault (scope : Environment) (tokens : List Token) (finish : Spot) (fault : JdfFault) : Type 0 where
  pub token_index : ℕ
  pub code : Code
  pub broken : IsFirstFault productions body tokens token_index code
  pub first : broken_fault scope tokens finish token_index code ≡ Err fault

-- This is the first fault of a body.
abbrev pub IsBodyFault : Environment → List Token → Spot → JdfFault → Type 0
IsBodyFault scope tokens finish fault = IsNameFault scope tokens fault ⊎ IsTextFault scope tokens finish fault
