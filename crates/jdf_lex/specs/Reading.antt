-- How the lexer finds lexical units, as functions of the rest of the text: the results of this crate's private calls.
-- Lemmas in proofs/ relate them to the lexical units of a text.
use Rattle.std.specs.Prelude.{◌≡◌, ℕ, ◌+◌, ◌≤◌, Bool, false, List, [], ◌∷◌, length, take, drop, if◌then◌else◌, Option, Some, None, option_map, option_and_then}
use Rattle.std.specs.List.{prefix_len, slice_range}
use Rattle.ptg_base.specs.Limits.{most_tokens}
use Rattle.jdf_lex.specs.declared.lexical_unit.LexicalUnit.{LexicalUnit}
use Rattle.jdf_lex.specs.declared.lexical_unit.LexicalUnit.TheVariants.{Blank, LineComment, BlockComment, TokenOf}
use Rattle.jdf_lex.specs.declared.kind.TokenKind.{TokenKind}
use Rattle.jdf_lex.specs.declared.kind.TokenKind.TheVariants.{Quoted, Raw, Mark}
use Rattle.jdf_lex.specs.Terminals.{number_of, terminal_by}
use Rattle.grammar_core.specs.declared.token.Token.{Token}
use Rattle.jdf_lex.specs.declared.cursor.Cursor.{Cursor}
use Rattle.jdf_lex.specs.Spelling.{is_mark, continues, ends_unit, affects_next, unit_at}
use Rattle.jdf_lex.specs.Tokens.{spot_after, IsLexedTo}

-- the length of the longest mark at the front, or 0 if there is none
abbrev pub mark_len : List ℕ → ℕ
mark_len [] = 0
mark_len (a ∷ []) = if is_mark (a ∷ []) then 1 else 0
mark_len (a ∷ b ∷ rest) = if is_mark (a ∷ b ∷ []) then 2 else (if is_mark (a ∷ []) then 1 else 0)

-- the number of bytes up to and including the first one that ends the unit, if there is one
abbrev pub closed_len : LexicalUnit → Bool → List ℕ → Option ℕ
closed_len unit affected [] = None
closed_len unit affected (b ∷ bs) =
    if ends_unit unit affected b then Some 1
    else option_map (λ len. 1 + len) (closed_len unit (affects_next unit affected b) bs)

-- the length of the unit at the front, if the text ends it
abbrev pub unit_len : LexicalUnit → List ℕ → Option ℕ
unit_len unit [] = None
unit_len BlockComment (b ∷ bs) = option_map (λ len. 2 + len) (closed_len BlockComment false (drop 1 bs))
unit_len (TokenOf Raw) (b ∷ bs) = option_map (λ len. 2 + len) (closed_len (TokenOf Raw) false (drop 1 bs))
unit_len (TokenOf Quoted) (b ∷ bs) = option_map (λ len. 1 + len) (closed_len (TokenOf Quoted) false bs)
unit_len (TokenOf Mark) (b ∷ bs) = Some (mark_len (b ∷ bs))
unit_len LineComment (b ∷ bs) = Some (1 + prefix_len (continues LineComment) bs)
unit_len Blank (b ∷ bs) = Some (1 + prefix_len (continues Blank) bs)
unit_len (TokenOf kind) (b ∷ bs) = Some (1 + prefix_len (continues (TokenOf kind)) bs)

-- the lexical unit at the front, with its length, if the text ends it
abbrev pub front_unit : List ℕ → Option (LexicalUnit × ℕ)
front_unit rest = option_and_then (λ unit. option_map (λ len. (unit, len)) (unit_len unit rest)) (unit_at rest)

-- the token of this kind and length at the cursor
abbrev pub token_here : List ℕ → Cursor → TokenKind → ℕ → Token
token_here text here kind len =
    record {
      terminal = number_of (terminal_by kind (slice_range text here.index (here.index + len)));
      text = slice_range text here.index (here.index + len);
      start = here.index;
      end = here.index + len;
      spot = here.spot;
    }

-- The cursor is within the text, and its spot is right.
pub record IsCursorIn (text : List ℕ) (here : Cursor) : Type 0 where
  pub within : here.index ≤ length text
  pub spot : here.spot ≡ spot_after (take here.index text)

-- The text up to the cursor is scanned: it has these tokens, at most `most_tokens`.
pub record IsScanned (text : List ℕ) (tokens : List Token) (here : Cursor) : Type 0 where
  pub cursor : IsCursorIn text here
  pub at_most : length tokens ≤ most_tokens
  pub lexed : IsLexedTo (take here.index text) (drop here.index text) [] text tokens
