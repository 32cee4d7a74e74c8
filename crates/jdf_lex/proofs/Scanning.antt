-- Steps of the scanner from unit to unit, and its results.
use Rattle.std.proofs.Common.{◌≡◌, ℕ, ◌+◌, ◌-◌, ◌<◌, ◌≤◌, true, List, [], ◌∷◌, ◌++◌, length, take, drop, get_or, refl, sym, ◌∙◌, ap, subst, inl, inr}
use Rattle.std.proofs.Common.{arith, length-drop}
use Rattle.std.proofs.Math.Seq.{take-add}
use Rattle.std.proofs.lemmas.List.{append-nil, take-append-drop, drop-drop, drop_more, drop_all, length-take-le, length_push, take_rest}
use Rattle.jdf_lex.specs.declared.cursor.Cursor.{Cursor}
use Rattle.jdf_lex.specs.declared.fault.JdfCode.TheVariants.{Unclosed, TooManyTokens}
use Rattle.jdf_lex.specs.declared.lexical_unit.LexicalUnit.{LexicalUnit}
use Rattle.jdf_lex.specs.declared.lexical_unit.LexicalUnit.TheVariants.{Blank, LineComment, BlockComment, TokenOf}
use Rattle.grammar_core.specs.declared.token.Token.{Token}
use Rattle.jdf_lex.specs.declared.kind.TokenKind.{TokenKind}
use Rattle.jdf_lex.specs.Spelling.{unit_at, first_unit, is_spelling}
use Rattle.jdf_lex.specs.Tokens.{spot_after, IsUnit, IsToken, is_dropped, IsLexedTo, IsLexed, IsUnclosed, IsTokenFault}
use Rattle.jdf_lex.specs.Tokens.IsLexedTo.{nothing_more, dropped_then, token_then}
use Rattle.jdf_lex.specs.Terminals.{number_of, terminal_by}
use Rattle.jdf_lex.specs.Reading.{token_here, front_unit, IsCursorIn, IsScanned}
use Rattle.jdf_lex.proofs.Fronts.{front_found, front_none, Found, found_unit, nothing}
use Rattle.std.proofs.lemmas.Bool.{false_from_ne_true}

-- Two scans, of which the second begins at the end of the first, are one scan.
joined : (mid mid_left front left before rest : List ℕ) (ts us : List Token) → IsLexedTo mid mid_left before rest ts
    → IsLexedTo front left mid mid_left us → IsLexedTo front left before rest (ts ++ us)
joined mid mid_left front left before rest ts us (nothing_more) second = second
joined mid mid_left front left before rest ts us (dropped_then _ _ _ p w x dropped is unit on) second =
    dropped_then before rest (ts ++ us) p w x dropped is unit (joined mid mid_left front left (before ++ w) x ts us on second)
joined mid mid_left front left before rest ts us (token_then _ _ tail t w x is token on) second =
    token_then before rest (tail ++ us) t w x is token (joined mid mid_left front left (before ++ w) x tail us on second)

-- ---- the unit at a position

front_of : (text : List ℕ) (i n : ℕ) → take i text ++ take n (drop i text) ≡ take (i + n) text
front_of text i n = sym (take-add i n text)

rest_of : (text : List ℕ) (i n : ℕ) → drop i text ≡ take n (drop i text) ++ drop (i + n) text
rest_of text i n = sym (take-append-drop n (drop i text)) ∙ ap (λ z. take n (drop i text) ++ z) (drop-drop n i text)

pub record IsHere (text : List ℕ) (i : ℕ) (p : LexicalUnit) (n : ℕ) : Type 0 where
  pub nonempty : 0 < n
  pub within : i + n ≤ length text
  pub unit : IsUnit p (take n (drop i text)) (drop (i + n) text)

pub unit_here : (text : List ℕ) (i : ℕ) (p : LexicalUnit) (n : ℕ) → i ≤ length text → front_unit (drop i text) ≡ found_unit p n → IsHere text i p n
unit_here text i p n within found =
    let front = front_found (drop i text) p n found in
    let left : drop n (drop i text) ≡ drop (i + n) text = drop-drop n i text in
    record {
      nonempty = front.1.nonempty;
      within = omega (arith, front.1.within, length-drop i text);
      unit = record {
        begins = ap unit_at (sym (rest_of text i n)) ∙ front.0;
        spelled = front.1.spelled;
        longest = λ more after e spelled. front.1.longest more after (left ∙ e) spelled;
      };
    }

-- The unit found in the slice from here on is the one found in the text.
pub found_at : (text : List ℕ) (i : ℕ) (o : Found) → o ≡ front_unit (take (length text - i) (drop i text)) → o ≡ front_unit (drop i text)
found_at text i o e = e ∙ ap front_unit (take_rest text i)

-- A unit that is not a token is dropped.
pub no_token_is_dropped : (p : LexicalUnit) → ((kind : TokenKind) → p ≡ TokenOf kind → ⊥) → is_dropped p ≡ true
no_token_is_dropped Blank never = refl
no_token_is_dropped LineComment never = refl
no_token_is_dropped BlockComment never = refl
no_token_is_dropped (TokenOf kind) never = absurd (never kind refl)

-- ---- a step

step_dropped : (text : List ℕ) (i : ℕ) (p : LexicalUnit) (n : ℕ) → IsHere text i p n → is_dropped p ≡ true
    → IsLexedTo (take (i + n) text) (drop (i + n) text) (take i text) (drop i text) []
step_dropped text i p n here dropped =
    let word = take n (drop i text) in
    let left = drop (i + n) text in
    dropped_then (take i text) (drop i text) [] p word left dropped (rest_of text i n) here.unit
    (subst (λ z. IsLexedTo (take (i + n) text) left z left []) (sym (front_of text i n)) nothing_more)

step_token : (text : List ℕ) (i n : ℕ) (t : Token) → IsToken (take i text) (take n (drop i text)) (drop (i + n) text) t
    → IsLexedTo (take (i + n) text) (drop (i + n) text) (take i text) (drop i text) (t ∷ [])
step_token text i n t token =
    let word = take n (drop i text) in
    let left = drop (i + n) text in
    token_then (take i text) (drop i text) [] t word left (rest_of text i n) token
    (subst (λ z. IsLexedTo (take (i + n) text) left z left []) (sym (front_of text i n)) nothing_more)

token_made : (text : List ℕ) (here : Cursor) (kind : TokenKind) (n : ℕ) → IsCursorIn text here → IsHere text here.index (TokenOf kind) n
    → IsToken (take here.index text) (take n (drop here.index text)) (drop (here.index + n) text) (token_here text here kind n)
token_made text here kind n cursor found =
    let back : here.index + n - here.index ≡ n = omega arith in
    let before : length (take here.index text) ≡ here.index = length-take-le here.index text cursor.within in
    let room : n ≤ length (drop here.index text) = omega (arith, found.within, length-drop here.index text) in
    let size : length (take n (drop here.index text)) ≡ n = length-take-le n (drop here.index text) room in
    record {
      text = ap (λ m. take m (drop here.index text)) back;
      start = sym before;
      end = omega arith;
      spot = cursor.spot;
      kind = kind;
      unit = found.unit;
      terminal = ap (λ m. number_of (terminal_by kind (take m (drop here.index text)))) back;
    }

-- ---- the state before the next unit

pub scanned_at_start : (text : List ℕ) (tokens : List Token) (here : Cursor) → tokens ≡ [] → here.index ≡ 0
    → here.spot ≡ record { line = 1; column = 1 } → IsScanned text tokens here
scanned_at_start text tokens here none index spot =
    let start : IsScanned text [] (record { index = 0; spot = record { line = 1; column = 1 } }) =
    record { cursor = record { within = omega arith; spot = refl }; at_most = omega arith; lexed = nothing_more } in
    subst (λ ts. IsScanned text ts here) (sym none)
    (let same : here ≡ record { index = 0; spot = record { line = 1; column = 1 } } = (λ i. record { index = index i; spot = spot i }) in
    subst (λ (c : Cursor). IsScanned text [] c) (sym same) start)

pub scanned_dropped : (text : List ℕ) (tokens : List Token) (here next : Cursor) (p : LexicalUnit) (n : ℕ)
    → IsScanned text tokens here → front_unit (drop here.index text) ≡ found_unit p n → is_dropped p ≡ true
    → IsCursorIn text next → next.index ≡ here.index + n → IsScanned text tokens next
scanned_dropped text tokens here next p n state found dropped cursor index =
    let is = unit_here text here.index p n state.cursor.within found in
    let on = joined (take here.index text) (drop here.index text) (take (here.index + n) text)
    (drop (here.index + n) text) [] text tokens [] state.lexed (step_dropped text here.index p n is dropped) in
    record {
      cursor = cursor;
      at_most = state.at_most;
      lexed =
          subst (λ j. IsLexedTo (take j text) (drop j text) [] text tokens) (sym index)
          (subst (λ ts. IsLexedTo (take (here.index + n) text) (drop (here.index + n) text) [] text ts) (append-nil tokens) on);
    }

pub scanned_token : (text : List ℕ) (tokens more : List Token) (here next : Cursor) (kind : TokenKind) (n : ℕ)
    → IsScanned text tokens here → front_unit (drop here.index text) ≡ found_unit (TokenOf kind) n
    → length tokens < 1000000 → more ≡ tokens ++ token_here text here kind n ∷ []
    → IsCursorIn text next → next.index ≡ here.index + n → IsScanned text more next
scanned_token text tokens more here next kind n state found at_most pushed cursor index =
    let token : Token = token_here text here kind n in
    let is = unit_here text here.index (TokenOf kind) n state.cursor.within found in
    let made = token_made text here kind n state.cursor is in
    let on = joined (take here.index text) (drop here.index text) (take (here.index + n) text)
    (drop (here.index + n) text) [] text tokens (token ∷ []) state.lexed
    (step_token text here.index n token made) in
    let size : length (tokens ++ token ∷ []) ≡ length tokens + 1 = length_push tokens token in
    subst (λ ts. IsScanned text ts next) (sym pushed)
    (record {
      cursor = cursor;
      at_most = omega arith;
      lexed = subst (λ j. IsLexedTo (take j text) (drop j text) [] text (tokens ++ token ∷ [])) (sym index) on;
    })

-- ---- the end of the text, and faults

pub lexed_at_end : (text : List ℕ) (tokens : List Token) (here : Cursor) → IsScanned text tokens here → length text ≤ here.index → IsLexed text tokens here.spot
lexed_at_end text tokens here state past =
    let none : drop here.index text ≡ [] = drop_all here.index text past in
    let all : take here.index text ≡ text = sym (append-nil (take here.index text))
    ∙ ap (λ z. take here.index text ++ z) (sym none) ∙ take-append-drop here.index text in (
      subst (λ z. IsLexedTo z [] [] text tokens) all
          (subst (λ z. IsLexedTo (take here.index text) z [] text tokens) none state.lexed),
      state.cursor.spot
          ∙ ap spot_after all,
    )

pub unclosed_here : (rest : List ℕ) (b : ℕ) (bs : List ℕ) → rest ≡ b ∷ bs → front_unit rest ≡ nothing → IsUnclosed rest
unclosed_here rest b bs is none =
    let here : IsUnclosed (b ∷ bs) = record {
      unit = first_unit b bs;
      begins = refl;
      unended = λ word after e. false_from_ne_true (is_spelling (first_unit b bs) word) (front_none b bs (ap front_unit (sym is) ∙ none) word after e);
    } in
    subst (λ z. IsUnclosed z) (sym is) here

pub fault_unclosed : (text : List ℕ) (tokens : List Token) (here : Cursor) → IsScanned text tokens here
    → here.index < length text → front_unit (drop here.index text) ≡ nothing
    → IsTokenFault text (record { spot = here.spot; code = Unclosed })
fault_unclosed text tokens here state within none = record {
  tokens = tokens;
  front = take here.index text;
  left = drop here.index text;
  lexed = state.lexed;
  spot = state.cursor.spot;
  wrong = inl (
    refl,
    unclosed_here (drop here.index text) (get_or text here.index 0) (drop (here.index + 1) text)
        (drop_more text here.index 0 within) none,
    state.at_most,
  );
}

pub fault_many : (text : List ℕ) (tokens : List Token) (here : Cursor) (kind : TokenKind) (n : ℕ)
    → IsScanned text tokens here → front_unit (drop here.index text) ≡ found_unit (TokenOf kind) n
    → 1000000 ≤ length tokens
    → IsTokenFault text (record { spot = here.spot; code = TooManyTokens })
fault_many text tokens here kind n state found many =
    let is = unit_here text here.index (TokenOf kind) n state.cursor.within found in
    let all : length tokens ≡ 1000000 = omega (arith, state.at_most) in
    record {
      tokens = tokens;
      front = take here.index text;
      left = drop here.index text;
      lexed = state.lexed;
      spot = state.cursor.spot;
      wrong = inr (
        refl,
        record {
          kind = kind;
          word = take n (drop here.index text);
          after =
              drop (here.index + n) text;
          whole = rest_of text here.index n;
          unit = is.unit;
        },
        all,
      );
    }
