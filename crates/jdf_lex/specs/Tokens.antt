-- The tokens of a JDF text and its first token fault, as relations: nothing here walks the bytes as a program would.
-- Carried by: `tokens`; laws `one_list_of_tokens`, `text_laws::units_as_written` and the others of `text_laws`.
-- Tested by: `token_lists.txt`, `tokens.txt`, `unclosed.txt`, `long_texts.txt`.
use Rattle.std.specs.Prelude.{◌≡◌, ℕ, ◌+◌, ◌≤◌, ◌⊎◌, Bool, true, false, not, ◌==◌, List, [], ◌∷◌, ◌++◌, length, count_by, Some, IsTrue, IsFalse}
use Rattle.std.specs.List.{suffix_len}
use Rattle.ptg_base.specs.Limits.{most_tokens}
use Rattle.jdf_lex.specs.declared.fault.JdfCode.{JdfCode}
use Rattle.jdf_lex.specs.declared.fault.JdfCode.TheVariants.{Unclosed, TooManyTokens}
use Rattle.jdf_lex.specs.declared.fault.JdfFault.{JdfFault}
use Rattle.jdf_lex.specs.declared.lexical_unit.LexicalUnit.{LexicalUnit}
use Rattle.jdf_lex.specs.declared.token.Lexed.{Lexed}
use Rattle.jdf_lex.specs.declared.lexical_unit.LexicalUnit.TheVariants.{Blank, LineComment, BlockComment, TokenOf}
use Rattle.grammar_core.specs.declared.token.Spot.{Spot}
use Rattle.grammar_core.specs.declared.token.Token.{Token}
use Rattle.jdf_lex.specs.declared.kind.TokenKind.{TokenKind}
use Rattle.jdf_lex.specs.declared.kind.TokenKind.TheVariants.{OptionLine}
use Rattle.jdf_lex.specs.Terminals.{number_of, terminal_by}
use Rattle.jdf_lex.specs.Spelling.{begins_part, unit_at, is_spelling}
pub use Rattle.jdf_lex.specs.Spelling.{is_letter, is_digit, is_part, is_blank}

-- The spot after the front of a text. Its line is one more than the number of LF bytes in the front, and its column one
-- more than the number of bytes after the last LF.
abbrev pub spot_after : List ℕ → Spot
spot_after front =
    record { line = 1 + count_by (λ b. b == 10) front; column = 1 + suffix_len (λ b. not (b == 10)) front }

-- The word, followed by `left`, is this unit: the unit begins there, the word is spelled as this unit, and no longer
-- word that begins there is.
pub record IsUnit (unit : LexicalUnit) (word left : List ℕ) : Type 0 where
  pub begins : unit_at (word ++ left) ≡ Some unit
  pub spelled : IsTrue (is_spelling unit word)
  pub longest : (more after : List ℕ) → left ≡ more ++ after → IsTrue (is_spelling unit (word ++ more)) → more ≡ []

-- The word after `before`, followed by `left`, is this token.
pub record IsToken (before word left : List ℕ) (token : Token) : Type 0 where
  pub text : token.text ≡ word
  pub start : token.start ≡ length before
  pub end : token.end ≡ length before + length word
  pub spot : token.spot ≡ spot_after before
  pub kind : TokenKind
  pub unit : IsUnit (TokenOf kind) word left
  pub terminal : token.terminal ≡ number_of (terminal_by kind word)

-- Whether a unit is dropped: blanks and comments are.
abbrev pub is_dropped : LexicalUnit → Bool
is_dropped Blank = true
is_dropped LineComment = true
is_dropped BlockComment = true
is_dropped (TokenOf kind) = false

-- The text after `before` is `rest`. From there to the end of `front`, after which `left` follows, the text has these
-- tokens, with blanks and comments between them.
pub data IsLexedTo (front left : List ℕ) : List ℕ → List ℕ → List Token → Type 0 where
  nothing_more : IsLexedTo front left front left []
  dropped_then : (before rest : List ℕ) (tokens : List Token) (unit : LexicalUnit) (word later : List ℕ)
      → IsTrue (is_dropped unit) → rest ≡ word ++ later → IsUnit unit word later
      → IsLexedTo front left (before ++ word) later tokens → IsLexedTo front left before rest tokens
  token_then : (before rest : List ℕ) (tokens : List Token) (token : Token) (word later : List ℕ) → rest ≡ word ++ later
      → IsToken before word later token → IsLexedTo front left (before ++ word) later tokens
      → IsLexedTo front left before rest (token ∷ tokens)

-- These are the tokens of the text, in order, and `end` is the spot after its last byte.
abbrev pub IsLexed : List ℕ → List Token → Spot → Type 0
IsLexed text tokens end = IsLexedTo text [] [] text tokens × (end ≡ spot_after text)

-- A text has at most one list of tokens, and at most one end.
abbrev pub OneListOfTokens : Type 0
OneListOfTokens =
    (text : List ℕ) (tokens others : List Token) (end other_end : Spot)
    → IsLexed text tokens end → IsLexed text others other_end → (tokens ≡ others) × (end ≡ other_end)

-- At each position the longest word is taken: no word that is spelled as a unit by itself is longer. Only `%option` is
-- no option line if a letter, digit or `_` follows it.
abbrev pub LongestIsTaken : Type 0
LongestIsTaken =
    (unit other : LexicalUnit) (word left longer after : List ℕ)
    → IsUnit unit word left → word ++ left ≡ longer ++ after
    → unit_at longer ≡ Some other → IsTrue (is_spelling other longer)
    → (other ≡ TokenOf OptionLine → IsFalse (begins_part after)) → length longer ≤ length word

-- A unit begins here that the text does not end: no front of the rest is spelled as it.
pub record IsUnclosed (left : List ℕ) : Type 0 where
  pub unit : LexicalUnit
  pub begins : unit_at left ≡ Some unit
  pub unended : (word after : List ℕ) → left ≡ word ++ after → IsFalse (is_spelling unit word)

-- A token is at the front of the rest.
pub record HasToken (left : List ℕ) : Type 0 where
  pub kind : TokenKind
  pub word : List ℕ
  pub after : List ℕ
  pub whole : left ≡ word ++ after
  pub unit : IsUnit (TokenOf kind) word after

-- what is wrong after these tokens: a unit begins that the text does not end, or another token follows the first
-- `most_tokens`
abbrev pub IsFaultAt : List Token → List ℕ → JdfCode → Type 0
IsFaultAt tokens left code =
    ((code ≡ Unclosed) × IsUnclosed left × (length tokens ≤ most_tokens))
    ⊎ ((code ≡ TooManyTokens) × HasToken left × (length tokens ≡ most_tokens))

-- the first token fault of a text: before its spot there are only tokens, blanks and comments
pub record IsTokenFault (text : List ℕ) (fault : JdfFault) : Type 0 where
  pub tokens : List Token
  pub front : List ℕ
  pub left : List ℕ
  pub lexed : IsLexedTo front left [] text tokens
  pub spot : fault.spot ≡ spot_after front
  pub wrong : IsFaultAt tokens left fault.code

-- the tokens of a text, at most `most_tokens`, and the spot after its last byte
abbrev pub IsTokensOf : List ℕ → Lexed → Type 0
IsTokensOf text lexed = IsLexed text lexed.tokens lexed.end × (length lexed.tokens ≤ most_tokens)

-- A text has tokens, at most `most_tokens`.
abbrev pub HasTokens : List ℕ → Type 0
HasTokens text = (lexed : Lexed) × IsTokensOf text lexed

-- A text has a first token fault.
abbrev pub HasFault : List ℕ → Type 0
HasFault text = (fault : JdfFault) × IsTokenFault text fault

-- Each text has tokens, at most `most_tokens`, or a first token fault.
abbrev pub TokensOrFault : Type 0
TokensOrFault = (text : List ℕ) → HasTokens text ⊎ HasFault text

-- No text has both.
abbrev pub NotBoth : Type 0
NotBoth = (text : List ℕ) → HasTokens text → HasFault text → ⊥

-- A text has at most one first token fault.
abbrev pub OneTokenFault : Type 0
OneTokenFault =
    (text : List ℕ) (fault other : JdfFault) → IsTokenFault text fault → IsTokenFault text other → fault ≡ other
