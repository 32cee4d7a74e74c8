-- Laws of the definitions of a body and of its first fault.
use Rattle.std.specs.Prelude.{◌≡◌, ℕ, List}
use Rattle.jdf_lex.specs.declared.fault.JdfFault.{JdfFault}
use Rattle.grammar_core.specs.declared.token.Spot.{Spot}
use Rattle.grammar_core.specs.declared.token.Token.{Token}
use Rattle.term_core.specs.declared.body.Body.{Body}
use Rattle.body_lang.specs.Environment.{Environment}
use Rattle.body_lang.specs.Body.{IsBody, IsBodyFault}

-- Tokens are the text of at most one body.
abbrev pub OneBody : Type 0
OneBody =
    (scope : Environment) (tokens : List Token) (x y : Body × List (List ℕ)) → IsBody scope tokens x
    → IsBody scope tokens y → x ≡ y

-- Tokens have at most one first fault.
abbrev pub OneFault : Type 0
OneFault =
    (scope : Environment) (tokens : List Token) (finish : Spot) (f g : JdfFault) → IsBodyFault scope tokens finish f
    → IsBodyFault scope tokens finish g → f ≡ g

-- Tokens that are the text of a body have no fault.
abbrev pub BodyOrFault : Type 0
BodyOrFault =
    (scope : Environment) (tokens : List Token) (finish : Spot) (x : Body × List (List ℕ)) (f : JdfFault)
    → IsBody scope tokens x → IsBodyFault scope tokens finish f → ⊥
