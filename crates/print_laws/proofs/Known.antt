-- The kind and the word of a token, from the token's terminal.
use Rattle.std.proofs.Common.{◌≡◌, ℕ, Bool, true, false, cond, List, [], ◌∷◌, refl, sym, ap, ◌∙◌}
use Rattle.std.specs.Prelude.{not, ◌&&◌}
use Rattle.std.specs.Str.{bytes_eq}
use Rattle.std.proofs.lemmas.Bool.{and_parts, not-true}
use Rattle.grammar_core.specs.declared.token.Token.{Token}
use Rattle.jdf_lex.specs.declared.kind.TokenKind.{TokenKind}
use Rattle.jdf_lex.specs.declared.kind.TokenKind.TheVariants as kinds
use Rattle.jdf_lex.specs.declared.terminal.Terminal.{Terminal}
use Rattle.jdf_lex.specs.declared.terminal.Terminal.TheVariants as terminal
use Rattle.jdf_lex.specs.Terminals.{number_of, spelled, marks, terminal_by, terminal_of}
use Rattle.print_laws.proofs.TokenNumbers.{token_terminal}
use Rattle.jdf_lex.specs.Counted.{is_name}
use Rattle.jdf_tree.specs.ClassGrammar.{is_in_body}
use Rattle.print_laws.proofs.Readable.{IsWritten, kind_of, like_terminal}
use Rattle.print_laws.proofs.Expressions.{IsName}

-- A name, a number or a mark is spelled as its kind is; the other kinds do not matter here.
abbrev pub IsKnownAs : TokenKind → List ℕ → Type 0
IsKnownAs kinds.Name w = (kind_of w ≡ kinds.Name) × IsWritten w
IsKnownAs kinds.Number w = (kind_of w ≡ kinds.Number) × IsWritten w
IsKnownAs kinds.Mark w = (kind_of w ≡ kinds.Mark) × IsWritten w
IsKnownAs _ w = Unit {0}

-- The token has the terminal of its kind and spelling, and is spelled as its kind is.
pub record IsKnown (x : Token) : Type 0 where
  pub kind : TokenKind
  pub terminal : x.terminal ≡ number_of (terminal_by kind x.text)
  pub known : IsKnownAs kind x.text

-- No terminal of the table is in the set.
abbrev has_none : (Terminal → Bool) → List (List ℕ × Terminal) → Bool
has_none q [] = true
has_none q (w ∷ ws) = not (q w.1) && has_none q ws

choose : (q : Terminal → Bool) (b : Bool) (x y : Terminal) → q x ≡ false → q y ≡ false → q (cond b x y) ≡ false
choose q true x y f g = f
choose q false x y f g = g

spelled_out : (q : Terminal → Bool) (table : List (List ℕ × Terminal)) (text : List ℕ) (else_terminal : Terminal)
    → has_none q table ≡ true → q else_terminal ≡ false → q (spelled table text else_terminal) ≡ false
spelled_out q [] text rest h k = k
spelled_out q (w ∷ ws) text rest h k =
    let p = and_parts (not (q w.1)) (has_none q ws) h in
    choose q (bytes_eq w.0 text) w.1 (spelled ws text rest) (not-true (q w.1) p.0) (spelled_out q ws text rest p.1 k)

apart : (b : Bool) → b ≡ true → b ≡ false → ⊥
apart true h k = cc
apart false h k = cc

pub no_mark_is_name : (w : List ℕ) → is_name (spelled marks w terminal.Other) ≡ false
unfolding marks
no_mark_is_name w = spelled_out is_name marks w terminal.Other refl refl

name_kind : (k : TokenKind) (w : List ℕ) → is_name (terminal_by k w) ≡ true → IsKnownAs k w → (k ≡ kind_of w) × IsWritten w
name_kind kinds.Name w h known = (sym known.0, known.1)
name_kind kinds.Number w h known = absurd (cc)
name_kind kinds.Quoted w h known = absurd (cc)
name_kind kinds.Raw w h known = absurd (cc)
name_kind kinds.OptionLine w h known = absurd (cc)
name_kind kinds.Mark w h known = absurd (apart _ h (no_mark_is_name w))
name_kind kinds.Other w h known = absurd (cc)

-- The number of the terminal of a token whose kind is that of its spelling.
spelled_terminal : (x : Token) (k : IsKnown x) → k.kind ≡ kind_of x.text → x.terminal ≡ number_of (terminal_by (kind_of x.text) x.text)
spelled_terminal x k e = k.terminal ∙ ap (λ (c : TokenKind). number_of (terminal_by c x.text)) e

-- A token that is a name.
pub name_known : (x : Token) → is_name (terminal_of x) ≡ true → IsKnown x → IsName x.text
name_known x h k =
    let known = name_kind k.kind x.text (ap is_name (sym (token_terminal x (terminal_by k.kind x.text) k.terminal)) ∙ h) k.known in
    (known.1, ap is_name (sym (like_terminal x x.text (spelled_terminal x k known.0, refl))) ∙ h)

body_kind : (k : TokenKind) (w : List ℕ) → is_in_body (terminal_by k w) ≡ true → IsKnownAs k w → (k ≡ kind_of w) × IsWritten w
body_kind kinds.Name w h known = (sym known.0, known.1)
body_kind kinds.Number w h known = (sym known.0, known.1)
body_kind kinds.Quoted w h known = absurd (cc)
body_kind kinds.Raw w h known = absurd (cc)
body_kind kinds.OptionLine w h known = absurd (cc)
body_kind kinds.Mark w h known = (sym known.0, known.1)
body_kind kinds.Other w h known = absurd (cc)

-- A token of a body.
pub body_known : (x : Token) → is_in_body (terminal_of x) ≡ true → IsKnown x → (x.terminal ≡ number_of (terminal_by (kind_of x.text) x.text)) × IsWritten x.text
body_known x h k =
    let known = body_kind k.kind x.text (ap is_in_body (sym (token_terminal x (terminal_by k.kind x.text) k.terminal)) ∙ h) k.known in
    (spelled_terminal x k known.0, known.1)
