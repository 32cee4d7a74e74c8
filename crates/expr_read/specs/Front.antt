-- The longest expression at the start of some tokens, or the first fault there, for callers that do not know where the
-- expression ends.
-- Carried by: `read_expr`.
-- Tested by: `expressions.txt`, `body_syntax.txt`.
use Rattle.std.specs.Prelude.{◌≡◌, ℕ, ◌+◌, ◌-◌, ◌<◌, ◌≤◌, List, length, take, drop, Bool, true, false, None, slice_get}
use Rattle.std.specs.Option.{option_map_or}
use Rattle.grammar_core.specs.declared.token.Spot.{Spot}
use Rattle.grammar_core.specs.declared.token.Token.{Token}
use Rattle.jdf_lex.specs.declared.fault.JdfFault.{JdfFault}
use Rattle.grammar_core.specs.declared.code.Code.{Code}
use Rattle.grammar_core.specs.declared.code.Code.TheVariants.{Syntax}
use Rattle.grammar_core.specs.Production.{Fault, IsText, Begins, IsSyntaxFault, IsLimitFault}
use Rattle.jdf_tree.specs.declared.part.Part.{Part}
use Rattle.jdf_tree.specs.declared.part.Part.TheVariants.{Class, Body}
use Rattle.jdf_tree.specs.Expression.{Expression}
use Rattle.jdf_tree.specs.ExpressionGrammar.{with_spot, outer}
use Rattle.jdf_tree.specs.Fault.{code_at_token}
use Rattle.jdf_tree.specs.Grammar.{productions}

-- the part of a text that an expression is in: a body, in which it may have elements of flows, or a class
abbrev pub part_of : Bool → Part
part_of true = Body
part_of false = Class

-- The end of the expression: the index of the first token such that no expression begins with the tokens up to and
-- including it. If there is no such token, it is the number of tokens.
pub record IsEnd (part : Part) (s : List Token) (p : ℕ) : Type 0 where
  pub within : p ≤ length s
  pub before : (o : Fault) × Begins productions (outer part) (take p s) o
  pub with_it : p < length s → (o : Fault) → Begins productions (outer part) (take (p + 1) s) o → ⊥

-- The tokens up to their end are an expression with this tree and no fault.
pub record IsExpression (part : Part) (s : List Token) (e : Expression) (p : ℕ) : Type 0 where
  pub end : IsEnd part s p
  pub spot : Spot
  pub text : IsText productions (outer part) (take p s) (with_spot spot e) None

-- The first fault of the tokens up to their end. Syntax is at the end itself, if the tokens before it are no
-- expression.
abbrev pub IsFirstFaultOf : Part → List Token → ℕ → Code → Type 0
IsFirstFaultOf part s p Syntax = IsEnd part s p × IsSyntaxFault productions (outer part) (take p s) p
IsFirstFaultOf part s p c = IsLimitFault productions (outer part) s p c

-- the fault with this code at the token of this index, or at `finish` if there is none
abbrev pub fault_at : List Token → Spot → ℕ → Code → JdfFault
fault_at s finish p c =
    record { spot = option_map_or (λ (x : Token). x.spot) (slice_get s p) finish; code = code_at_token c }

-- An expression begins at the token of index `from`: its tree, and the index of the token after it.
pub record IsExpressionFrom (part : Part) (tokens : List Token) (from : ℕ) (x : Expression × ℕ) : Type 0 where
  pub after : from ≤ x.1
  pub expression : IsExpression part (drop from tokens) x.0 (x.1 - from)

-- This is the first fault of the expression that begins at the token of index `from`; after all tokens it is at
-- `finish`.
pub record IsFaultFrom (part : Part) (tokens : List Token) (from : ℕ) (finish : Spot) (fault : JdfFault) : Type 0 where
  -- how many tokens after `from` the fault is
  pub offset : ℕ
  pub code : Code
  pub first : IsFirstFaultOf part (drop from tokens) offset code
  pub placed : fault ≡ fault_at tokens finish (from + offset) code
