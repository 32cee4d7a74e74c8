-- The tree of a body's text, and the first fault of the text, whatever its names mean.
-- Carried by: `tree`, `read`.
-- Tested by: `body_syntax.txt`, `body_reserved.txt`, `body_limits.txt`, `body_two_faults.txt`.
use Rattle.std.specs.Prelude.{◌≡◌, ℕ, ◌-◌, ◌≤◌, List, length, None}
use Rattle.grammar_core.specs.declared.code.Code.{Code}
use Rattle.grammar_core.specs.declared.fault.ReadFault.{ReadFault}
use Rattle.grammar_core.specs.declared.token.Spot.{Spot}
use Rattle.grammar_core.specs.declared.token.Token.{Token}
use Rattle.grammar_core.specs.Production.{IsText, IsFirstFault}
use Rattle.jdf_lex.specs.declared.fault.JdfFault.{JdfFault}
use Rattle.jdf_tree.specs.BodyGrammar.{body}
use Rattle.jdf_tree.specs.Grammar.{productions}
use Rattle.jdf_tree.specs.Statements.{Statements}
use Rattle.expr_read.specs.Front.{fault_at}

-- The tokens are the text of a body with this tree.
abbrev pub IsTree : List Token → Statements → Type 0
IsTree tokens tree = IsText productions body tokens tree None

-- The first fault of the text has this code, and this many tokens are left at it.
pub record IsFaultBefore (tokens : List Token) (fault : ReadFault) : Type 0 where
  pub within : fault.left ≤ length tokens
  pub first : IsFirstFault productions body tokens (length tokens - fault.left) fault.code

-- This is the first fault of the text, at the spot of its token, or at `finish` if it is after all of them.
pub record IsTreeFault (tokens : List Token) (finish : Spot) (fault : JdfFault) : Type 0 where
  pub token_index : ℕ
  pub code : Code
  pub first : IsFirstFault productions body tokens token_index code
  pub placed : fault ≡ fault_at tokens finish token_index code
