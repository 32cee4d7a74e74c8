-- The tokens that fragments are read as.
use Rattle.std.proofs.Common.{◌≡◌, ℕ, Bool, true, false, List, [], ◌∷◌, ◌++◌, refl, ap, ◌∙◌}
use Rattle.std.specs.Prelude.{if◌then◌else◌, ◌||◌}
use Rattle.std.specs.List.{list_all}
use Rattle.grammar_core.specs.declared.token.Token.{Token}
use Rattle.jdf_lex.specs.declared.kind.TokenKind.{TokenKind}
use Rattle.jdf_lex.specs.declared.kind.TokenKind.TheVariants as kinds
use Rattle.jdf_lex.specs.Spelling.{is_letter, is_digit, is_part, is_mark}
use Rattle.jdf_lex.specs.declared.terminal.Terminal.{Terminal}
use Rattle.jdf_lex.specs.Terminals.{number_of, terminal_by, terminal_of}
use Rattle.jdf_lex.specs.Sets.{IsOne}
use Rattle.print_laws.proofs.TokenNumbers.{token_terminal}
use Rattle.jdf_print.specs.Fragments.{Fragment, token, blank}

-- The kind of a word of the spelling: a name, a number or a mark.
abbrev pub kind_of : List ℕ → TokenKind
kind_of [] = kinds.Mark
kind_of (b ∷ bs) = if is_letter b then kinds.Name else if is_digit b then kinds.Number else kinds.Mark

-- The word is a name, a number or a mark.
abbrev pub is_written : List ℕ → Bool
is_written [] = false
is_written (b ∷ bs) = if is_letter b || is_digit b then list_all is_part bs else is_mark (b ∷ bs)

abbrev pub IsWritten : List ℕ → Type 0
IsWritten w = is_written w ≡ true

-- The terminal of a word of the spelling.
abbrev pub terminal_at : List ℕ → Terminal
terminal_at w = terminal_by (kind_of w) w

-- The token has this word and its terminal.
abbrev pub IsLike : Token → List ℕ → Type 0
IsLike x w = (x.terminal ≡ number_of (terminal_at w)) × (x.text ≡ w)

-- The tokens of s before the rest r are those of the fragments.
abbrev pub Reads : List Fragment → List Token → List Token → Type 0
Reads [] s r = s ≡ r
Reads (token w ∷ ps) s r = (x : Token) × (m : List Token) × (s ≡ x ∷ m) × IsLike x w × Reads ps m r
Reads (blank b ∷ ps) s r = Reads ps s r

-- Fragments one after the other.
pub reads_both : (ps qs : List Fragment) (s r : List Token) → Reads (ps ++ qs) s r → (m : List Token) × Reads ps s m × Reads qs m r
reads_both [] qs s r h = (s, refl, h)
reads_both (token w ∷ ps) qs s r h = let k = reads_both ps qs h.1 r h.4 in (k.0, (h.0, h.1, h.2, h.3, k.1), k.2)
reads_both (blank b ∷ ps) qs s r h = reads_both ps qs s r h

-- A token that has a word has the terminal of its spelling.
pub like_terminal : (x : Token) (w : List ℕ) → IsLike x w → terminal_of x ≡ terminal_at w
like_terminal x w h = token_terminal x (terminal_at w) h.0

-- A token that has a word of one of these terminals.
pub is_one : (q : Terminal → Bool) (w : List ℕ) → q (terminal_at w) ≡ true → (x : Token) (s m : List Token) → s ≡ x ∷ m → IsLike x w → IsOne q s x m
is_one q w e x s m h like = (h, ap q (like_terminal x w like) ∙ e)
