-- The first fault of a text.
-- Carried by: `jdf_read::read`.
-- Tested by: `syntax.txt`, `truncated.txt`, `numbers.txt`, `not_utf8.txt`, `lines_and_columns.txt`.
use Rattle.std.specs.Prelude.{◌≡◌, ℕ, ◌<◌, ◌≤◌, List, length, take, Some, None, slice_get, ◌⊎◌}
use Rattle.std.specs.Str.{IsUtf8}
use Rattle.ptg_base.specs.Limits.{most_bytes, most_tokens}
use Rattle.jdf_lex.specs.declared.fault.JdfCode.{JdfCode}
use Rattle.jdf_lex.specs.declared.fault.JdfCode.TheVariants as jdf
use Rattle.jdf_lex.specs.declared.fault.JdfFault.{JdfFault}
use Rattle.grammar_core.specs.declared.token.Spot.{Spot}
use Rattle.grammar_core.specs.declared.token.Token.{Token}
use Rattle.jdf_lex.specs.Tokens.{IsLexed, IsTokenFault, spot_after}
use Rattle.grammar_core.specs.declared.code.Code.{Code}
use Rattle.grammar_core.specs.declared.code.Code.TheVariants as code
use Rattle.jdf_lex.specs.declared.code.GrammarCode.{GrammarCode}
use Rattle.jdf_lex.specs.declared.code.GrammarCode.TheVariants as grammar
use Rattle.jdf_lex.specs.Codes.{code_at}
use Rattle.grammar_core.specs.Production.{IsFirstFault}
use Rattle.jdf_tree.specs.Grammar.{productions, file}

-- the spot of the first byte of a text
abbrev pub first_spot : Spot
first_spot = record { line = 1; column = 1 }

-- The text stops being UTF-8 at this byte: the bytes before it are UTF-8, and no longer front of the text is.
pub record StopsBeingUtf8 (bytes : List ℕ) (at : ℕ) : Type 0 where
  pub within : at < length bytes
  pub before : IsUtf8 (take at bytes)
  pub longest : (n : ℕ) → n ≤ length bytes → IsUtf8 (take n bytes) → n ≤ at

-- the JDF code for a code that the grammar states
abbrev pub stated_code : GrammarCode → JdfCode
stated_code grammar.BadNumber = jdf.BadNumber
stated_code grammar.ExprTooLong = jdf.ExprTooLong
stated_code grammar.TooManyClasses = jdf.TooManyClasses
stated_code grammar.TooManyParams = jdf.TooManyParams
stated_code grammar.TooManyLocals = jdf.TooManyLocals
stated_code grammar.TooManyFlows = jdf.TooManyFlows
stated_code grammar.TooManyDeps = jdf.TooManyDeps
stated_code grammar.TooDeep = jdf.TooDeep
stated_code grammar.TooManyVars = jdf.TooManyVars

-- the JDF code for a code of the grammar
abbrev pub code_at_token : Code → JdfCode
code_at_token code.Syntax = jdf.Syntax
code_at_token (code.Stated number) = stated_code (code_at number)

-- The first fault of the tokens according to the grammar: at a token, or Truncated at the end of the text.
pub record IsGrammarFault (tokens : List Token) (end : Spot) (fault : JdfFault) : Type 0 where
  pub token_index : ℕ
  pub code : Code
  pub first : IsFirstFault productions file tokens token_index code
  pub fault_is :
      ((token : Token) × (slice_get tokens token_index ≡ Some token)
      × (fault ≡ record { spot = token.spot; code = code_at_token code }))
      ⊎ ((slice_get tokens token_index ≡ None) × (fault ≡ record { spot = end; code = jdf.Truncated }))

-- the fault of a text of more than `most_bytes` bytes, at its first byte
abbrev pub too_long : JdfFault
too_long = record { spot = first_spot; code = jdf.TooLong }

-- the text has more than `most_bytes` bytes
pub record IsTooLong (bytes : List ℕ) (fault : JdfFault) : Type 0 where
  pub long : most_bytes < length bytes
  pub fault_is : fault ≡ too_long

-- the text has at most `most_bytes` bytes, and is not UTF-8
pub record IsNotUtf8 (bytes : List ℕ) (fault : JdfFault) : Type 0 where
  pub bytes_at_most : length bytes ≤ most_bytes
  pub at : ℕ
  pub stops : StopsBeingUtf8 bytes at
  pub fault_is : fault ≡ record { spot = spot_after (take at bytes); code = jdf.NotUtf8 }

-- the text is UTF-8, and has a token fault
pub record HasTokenFault (bytes : List ℕ) (fault : JdfFault) : Type 0 where
  pub bytes_at_most : length bytes ≤ most_bytes
  pub utf8 : IsUtf8 bytes
  pub fault_is : IsTokenFault bytes fault

-- the text has tokens, at most `most_tokens`, which are no text of the grammar
pub record HasGrammarFault (bytes : List ℕ) (fault : JdfFault) : Type 0 where
  pub bytes_at_most : length bytes ≤ most_bytes
  pub utf8 : IsUtf8 bytes
  pub tokens : List Token
  pub end : Spot
  pub lexed : IsLexed bytes tokens end
  pub tokens_at_most : length tokens ≤ most_tokens
  pub fault_is : IsGrammarFault tokens end fault

-- The first fault of the bytes: of their length, their encoding, their tokens or their grammar, in this order.
abbrev pub IsJdfFault : List ℕ → JdfFault → Type 0
IsJdfFault bytes fault =
    IsTooLong bytes fault ⊎ (IsNotUtf8 bytes fault ⊎ (HasTokenFault bytes fault ⊎ HasGrammarFault bytes fault))
