-- The first fault of a body whose text has its fault at the token of an index.
-- Carried by: `read_body`; law `one_answer`.
-- Tested by: `body_names.txt`, `body_broken.txt`.
use Rattle.std.specs.Prelude.{ℕ, List, Err}
use Rattle.grammar_core.specs.declared.token.Spot.{Spot}
use Rattle.grammar_core.specs.declared.token.Token.{Token}
use Rattle.grammar_core.specs.declared.code.Code.{Code}
use Rattle.ptg_base.specs.Returns.{and_then}
use Rattle.expr_read.specs.Front.{fault_at}
use Rattle.body_lang.specs.Environment.{Environment}
use Rattle.expr_names.specs.Symbols.{Resolved}
use Rattle.body_lang.specs.TokenScan.{front_fault}

-- the first fault of a name before that token, or else the fault of the text there
abbrev pub broken_fault : Environment → List Token → Spot → ℕ → Code → Resolved (Unit {0})
broken_fault scope tokens finish index code =
    and_then (front_fault scope tokens index) (λ _. Err (fault_at tokens finish index code))
