-- The tokens of the text of fragments are their words, if no word is continued by what follows it.
use Rattle.std.proofs.Common.{◌≡◌, ℕ, ◌+◌, Bool, true, List, [], ◌∷◌, ◌++◌, length, refl, sym, ap, subst, ◌∙◌, inl, inr, arith, append_assoc}
use Rattle.std.specs.Prelude.{nat_lt}
use Rattle.std.specs.List.{list_all}
use Rattle.std.proofs.lemmas.List.{append-nil}
use Rattle.std.proofs.lemmas.List.Folds.{list_all-append}
use Rattle.std.proofs.lemmas.Grind.{flat_map-append}
use Rattle.jdf_lex.specs.declared.lexical_unit.LexicalUnit.TheVariants as lex
use Rattle.grammar_core.specs.declared.token.Token.{Token}
use Rattle.jdf_lex.specs.Tokens.{spot_after, IsUnit, IsLexedTo, IsLexed}
use Rattle.jdf_lex.specs.Tokens.IsLexedTo.{nothing_more, dropped_then, token_then}
use Rattle.jdf_lex.specs.Terminals.{number_of}
use Rattle.jdf_print.specs.Fragments.{Fragment, token, blank, bytes_of, text, token_count}
use Rattle.print_laws.proofs.Readable.{kind_of, terminal_at, Reads}
use Rattle.print_laws.proofs.Forms.{Every}
use Rattle.print_laws.proofs.Marks.{IsGap, gap_unit}
use Rattle.std.proofs.lemmas.Bool.{and_from}

-- The token of a word that follows these bytes.
abbrev pub token_at : List ℕ → List ℕ → Token
token_at before word = record {
  terminal = number_of (terminal_at word);
  text = word;
  start = length before;
  end = length before + length word;
  spot = spot_after before;
}

-- The tokens of fragments that follow these bytes.
abbrev pub tokens_at : List ℕ → List Fragment → List Token
tokens_at before [] = []
tokens_at before (token word ∷ ps) = token_at before word ∷ tokens_at (before ++ word) ps
tokens_at before (blank bytes ∷ ps) = tokens_at (before ++ bytes) ps

pub tokens_read : (ps : List Fragment) (before : List ℕ) → Reads ps (tokens_at before ps) []
tokens_read [] before = refl
tokens_read (token word ∷ ps) before = (token_at before word, tokens_at (before ++ word) ps, refl, (refl, refl), tokens_read ps (before ++ word))
tokens_read (blank bytes ∷ ps) before = tokens_read ps (before ++ bytes)

pub tokens_counted : (ps : List Fragment) (before : List ℕ) → length (tokens_at before ps) ≡ token_count ps
tokens_counted [] before = refl
tokens_counted (token word ∷ ps) before = let k = tokens_counted ps (before ++ word) in omega (arith, k)
tokens_counted (blank bytes ∷ ps) before = tokens_counted ps (before ++ bytes)

abbrev pub is_ascii : List ℕ → Bool
is_ascii bs = list_all (λ b. nat_lt b 128) bs

-- Each word of the fragments is a token, given what follows it, and each blank is a gap; `after` follows the last
-- fragment.
abbrev pub IsLexable : List Fragment → List ℕ → Type 0
IsLexable [] after = Unit {0}
IsLexable (token word ∷ ps) after = IsUnit (lex.TokenOf (kind_of word)) word (text ps ++ after) × (is_ascii word ≡ true) × IsLexable ps after
IsLexable (blank bytes ∷ ps) after = Every IsGap bytes × IsLexable ps after

pub text_both : (ps qs : List Fragment) (after : List ℕ) → text (ps ++ qs) ++ after ≡ text ps ++ (text qs ++ after)
text_both ps qs after = ap (λ (w : List ℕ). w ++ after) (flat_map-append bytes_of ps qs) ∙ append_assoc (text ps) (text qs) after

-- Fragments one after the other.
pub both_lex : (ps qs : List Fragment) (after : List ℕ) → IsLexable ps (text qs ++ after) → IsLexable qs after → IsLexable (ps ++ qs) after
both_lex [] qs after h k = k
both_lex (token word ∷ ps) qs after h k =
    let P : List ℕ → Type 0 = λ left. IsUnit (lex.TokenOf (kind_of word)) word left in
    (subst P (sym (text_both ps qs after)) h.0, h.1, both_lex ps qs after h.2 k)
both_lex (blank bytes ∷ ps) qs after h k = (h.0, both_lex ps qs after h.1 k)

-- Blanks are dropped one by one.
past_blanks : (front left : List ℕ) (bytes before rest : List ℕ) (ts : List Token) → Every IsGap bytes
    → IsLexedTo front left (before ++ bytes) rest ts → IsLexedTo front left before (bytes ++ rest) ts
past_blanks front left [] before rest ts gaps on = let L : List ℕ → Type 0 = λ b. IsLexedTo front left b rest ts in subst L (append-nil before) on
past_blanks front left (c ∷ bytes) before rest ts gaps on =
    let L : List ℕ → Type 0 = λ b. IsLexedTo front left b rest ts in
    let more = past_blanks front left bytes (before ++ c ∷ []) rest ts gaps.1 (subst L (sym (append_assoc before (c ∷ []) bytes)) on) in
    dropped_then before ((c ∷ bytes) ++ rest) ts lex.Blank (c ∷ []) (bytes ++ rest) refl refl (gap_unit c (bytes ++ rest) gaps.0) more

lexed_from : (ps : List Fragment) (before : List ℕ) → IsLexable ps [] → IsLexedTo (before ++ text ps) [] before (text ps) (tokens_at before ps)
lexed_from [] before h = let L : List ℕ → Type 0 = λ b. IsLexedTo b [] before [] [] in subst L (sym (append-nil before)) nothing_more
lexed_from (token word ∷ ps) before h =
    let L : List ℕ → Type 0 = λ b. IsLexedTo b [] (before ++ word) (text ps) (tokens_at (before ++ word) ps) in
    let more = subst L (append_assoc before word (text ps)) (lexed_from ps (before ++ word) h.2) in
    let P : List ℕ → Type 0 = λ left. IsUnit (lex.TokenOf (kind_of word)) word left in
    token_then before (word ++ text ps) (tokens_at (before ++ word) ps) (token_at before word) word (text ps) refl
    (record { text = refl; start = refl; end = refl; spot = refl; kind = kind_of word; unit = subst P (append-nil (text ps)) h.0; terminal = refl }) more
lexed_from (blank bytes ∷ ps) before h =
    let L : List ℕ → Type 0 = λ b. IsLexedTo b [] (before ++ bytes) (text ps) (tokens_at (before ++ bytes) ps) in
    let more = subst L (append_assoc before bytes (text ps)) (lexed_from ps (before ++ bytes) h.1) in
    past_blanks (before ++ (bytes ++ text ps)) [] bytes before (text ps) (tokens_at (before ++ bytes) ps) h.0 more

-- The tokens of the text of such fragments are the fragments' words.
pub lexed : (ps : List Fragment) → IsLexable ps [] → IsLexed (text ps) (tokens_at [] ps) (spot_after (text ps))
lexed ps h = (lexed_from ps [] h, refl)

gap_ascii : (c : ℕ) → IsGap c → nat_lt c 128 ≡ true
gap_ascii c (inl e) = ap (λ (b : ℕ). nat_lt b 128) e
gap_ascii c (inr e) = ap (λ (b : ℕ). nat_lt b 128) e

gaps_ascii : (bytes : List ℕ) → Every IsGap bytes → is_ascii bytes ≡ true
gaps_ascii [] h = refl
gaps_ascii (c ∷ bytes) h = and_from (nat_lt c 128) (is_ascii bytes) (gap_ascii c h.0) (gaps_ascii bytes h.1)

append_ascii : (a b : List ℕ) → is_ascii a ≡ true → is_ascii b ≡ true → is_ascii (a ++ b) ≡ true
append_ascii a b h k = list_all-append (λ (c : ℕ). nat_lt c 128) a b ∙ and_from (is_ascii a) (is_ascii b) h k

pub text_ascii : (ps : List Fragment) (after : List ℕ) → IsLexable ps after → is_ascii (text ps) ≡ true
text_ascii [] after h = refl
text_ascii (token word ∷ ps) after h = append_ascii word (text ps) h.1 (text_ascii ps after h.2)
text_ascii (blank bytes ∷ ps) after h = append_ascii bytes (text ps) (gaps_ascii bytes h.0) (text_ascii ps after h.1)
