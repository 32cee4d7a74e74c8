-- Each text has tokens or a first token fault: at each position a unit follows, or the text ends, or a fault is there.
use Rattle.std.proofs.Common.{◌≡◌, ℕ, zero, suc, ◌+◌, ◌<◌, ◌≤◌, ◌⊎◌, true, List, [], ◌++◌, ◌∷◌, length, take, drop, Some, None, refl, inl, inr, arith}
use Rattle.std.proofs.lemmas.Bool.{cases_lt}
use Rattle.jdf_lex.specs.declared.cursor.Cursor.{Cursor}
use Rattle.jdf_lex.specs.declared.fault.JdfCode.TheVariants.{Unclosed, TooManyTokens}
use Rattle.jdf_lex.specs.declared.lexical_unit.LexicalUnit.{LexicalUnit}
use Rattle.jdf_lex.specs.declared.lexical_unit.LexicalUnit.TheVariants.{Blank, LineComment, BlockComment, TokenOf}
use Rattle.grammar_core.specs.declared.token.Token.{Token}
use Rattle.jdf_lex.specs.declared.kind.TokenKind.{TokenKind}
use Rattle.jdf_lex.specs.Tokens.{spot_after, is_dropped, HasTokens, HasFault, TokensOrFault, OneTokenFault, NotBoth}
use Rattle.jdf_lex.specs.Reading.{front_unit, token_here, IsCursorIn, IsScanned}
use Rattle.jdf_lex.proofs.CallerLemmas.{Found, fault_many, fault_unclosed, found_unit, lexed_at_end, no_fault, one_fault, scanned_at_start, scanned_dropped}
use Rattle.jdf_lex.proofs.CallerLemmas.{scanned_token, unit_here}

cursor_at : (text : List ℕ) (j : ℕ) → j ≤ length text → IsCursorIn text (record { index = j; spot = spot_after (take j text) })
cursor_at text j within = record { within = within; spot = refl }

-- Whether the text has tokens or a fault is known from every later position.
abbrev Later : List ℕ → ℕ → Type 0
Later text index = (tokens : List Token) (next : Cursor) → IsScanned text tokens next → index < next.index → HasTokens text ⊎ HasFault text

dropped_next : (text : List ℕ) (tokens : List Token) (here : Cursor) (p : LexicalUnit) (n : ℕ)
    → IsScanned text tokens here → Later text here.index → front_unit (drop here.index text) ≡ found_unit p n
    → is_dropped p ≡ true
    → HasTokens text ⊎ HasFault text
dropped_next text tokens here p n state later found dropped =
    let is = unit_here text here.index p n state.cursor.within found in
    let next : Cursor = record { index = here.index + n; spot = spot_after (take (here.index + n) text) } in
    later tokens next (scanned_dropped text tokens here next p n state found dropped
    (cursor_at text (here.index + n) is.within) refl) (omega (arith, is.nonempty))

token_next : (text : List ℕ) (tokens : List Token) (here : Cursor) (kind : TokenKind) (n : ℕ)
    → IsScanned text tokens here → Later text here.index → front_unit (drop here.index text)
    ≡ found_unit (TokenOf kind) n
    → HasTokens text ⊎ HasFault text
token_next text tokens here kind n state later found =
    elim (cases_lt (length tokens) 1000000) [
      | inl at_most ↦
          let is = unit_here text here.index (TokenOf kind) n state.cursor.within found in
          let next : Cursor = record { index = here.index + n; spot = spot_after (take (here.index + n) text) } in
          let more : List Token = tokens ++ token_here text here kind n ∷ [] in
          later more next (scanned_token text tokens more here next kind n state found at_most refl
          (cursor_at text (here.index + n) is.within) refl) (omega (arith, is.nonempty))
      | inr many ↦ inr (record { spot = here.spot; code = TooManyTokens }, fault_many text tokens here kind n state found many)
    ]

unit_next : (text : List ℕ) (tokens : List Token) (here : Cursor) (p : LexicalUnit) (n : ℕ) → IsScanned text tokens here
    → Later text here.index → front_unit (drop here.index text) ≡ found_unit p n → HasTokens text ⊎ HasFault text
unit_next text tokens here Blank n state later found = dropped_next text tokens here Blank n state later found refl
unit_next text tokens here LineComment n state later found = dropped_next text tokens here LineComment n state later found refl
unit_next text tokens here BlockComment n state later found = dropped_next text tokens here BlockComment n state later found refl
unit_next text tokens here (TokenOf kind) n state later found = token_next text tokens here kind n state later found

position_next : (text : List ℕ) (tokens : List Token) (here : Cursor) (o : Found) → IsScanned text tokens here
    → Later text here.index → here.index < length text → front_unit (drop here.index text) ≡ o
    → HasTokens text ⊎ HasFault text
position_next text tokens here None state later within found = inr
    (record { spot = here.spot; code = Unclosed }, fault_unclosed text tokens here state within found)
position_next text tokens here (Some unit) state later within found = unit_next text tokens here unit.0 unit.1 state later found

either_from : (fuel : ℕ) (text : List ℕ) (tokens : List Token) (here : Cursor) → IsScanned text tokens here
    → length text ≤ here.index + fuel → HasTokens text ⊎ HasFault text
either_from zero text tokens here state near = inl (
  record { tokens = tokens; end = here.spot },
  (lexed_at_end text tokens here state (omega arith), state.at_most),
)
either_from (suc fuel) text tokens here state near =
    elim (cases_lt here.index (length text)) [
      | inl within ↦
          position_next text tokens here (front_unit (drop here.index text)) state
          (λ later next on further. either_from fuel text later next on (omega arith)) within refl
      | inr past ↦ inl (record { tokens = tokens; end = here.spot }, (lexed_at_end text tokens here state past, state.at_most))
    ]

pub either : TokensOrFault
either text =
    let start : Cursor = record { index = 0; spot = record { line = 1; column = 1 } } in
    either_from (length text) text [] start (scanned_at_start text [] start refl refl refl) (omega arith)

pub only_fault : OneTokenFault
only_fault text fault other one two = one_fault text fault other one two

pub not_both : NotBoth
not_both text lexed fault = no_fault text lexed.0.tokens lexed.0.end fault.0 lexed.1.0 lexed.1.1 fault.1
