-- Tests over all terminals of JDF, and what they imply.
use Rattle.std.proofs.Common.{◌≡◌, ℕ, zero, suc, Bool, true, false, List, [], ◌∷◌, get_or, refl, subst}
use Rattle.std.specs.Prelude.{◌&&◌, ◌||◌, not}
use Rattle.std.proofs.lemmas.Bool.{and_parts, not-true}
use Rattle.jdf_lex.specs.declared.terminal.Terminal.{Terminal}
use Rattle.jdf_lex.specs.declared.terminal.Terminal.TheVariants.{Name, TypeWord, Int, If, Else, For, Trap, Number}
use Rattle.jdf_lex.specs.declared.terminal.Terminal.TheVariants.{Quoted, Raw, OptionLine, Other, Extern, Body, End}
use Rattle.jdf_lex.specs.declared.terminal.Terminal.TheVariants.{Read, Write, Rw, Ctl, New, Null, LeftParen, RightParen}
use Rattle.jdf_lex.specs.declared.terminal.Terminal.TheVariants.{LeftBracket, RightBracket, LeftBrace, RightBrace}
use Rattle.jdf_lex.specs.declared.terminal.Terminal.TheVariants.{Comma, Semicolon, Colon, Question, Assign, Dots}
use Rattle.jdf_lex.specs.declared.terminal.Terminal.TheVariants.{Inward, Outward, Plus, Minus, Star, Slash, Percent}
use Rattle.jdf_lex.specs.declared.terminal.Terminal.TheVariants.{Equal, NotEqual, Less, AtMost, Greater, AtLeast, And}
use Rattle.jdf_lex.specs.declared.terminal.Terminal.TheVariants.{AndAnd, Or, OrOr, Not}
use Rattle.jdf_lex.specs.Terminals.{number_of, all_terminals}

-- Is each terminal of the list in the set?
abbrev pub all_are : (Terminal → Bool) → List Terminal → Bool
all_are p [] = true
all_are p (k ∷ ks) = p k && all_are p ks

-- Is no terminal in both sets?
abbrev pub are_disjoint : (Terminal → Bool) → (Terminal → Bool) → Bool
are_disjoint a b = all_are (λ k. not (a k && b k)) all_terminals

-- Is the first set within the second?
abbrev pub is_within : (Terminal → Bool) → (Terminal → Bool) → Bool
is_within a b = all_are (λ k. not (a k) || b k) all_terminals

listed : (k : Terminal) → get_or all_terminals (number_of k) Not ≡ k
listed Name = refl
listed TypeWord = refl
listed Int = refl
listed If = refl
listed Else = refl
listed For = refl
listed Trap = refl
listed Number = refl
listed Quoted = refl
listed Raw = refl
listed OptionLine = refl
listed Other = refl
listed Extern = refl
listed Body = refl
listed End = refl
listed Read = refl
listed Write = refl
listed Rw = refl
listed Ctl = refl
listed New = refl
listed Null = refl
listed LeftParen = refl
listed RightParen = refl
listed LeftBracket = refl
listed RightBracket = refl
listed LeftBrace = refl
listed RightBrace = refl
listed Comma = refl
listed Semicolon = refl
listed Colon = refl
listed Question = refl
listed Assign = refl
listed Dots = refl
listed Inward = refl
listed Outward = refl
listed Plus = refl
listed Minus = refl
listed Star = refl
listed Slash = refl
listed Percent = refl
listed Equal = refl
listed NotEqual = refl
listed Less = refl
listed AtMost = refl
listed Greater = refl
listed AtLeast = refl
listed And = refl
listed AndAnd = refl
listed Or = refl
listed OrOr = refl
listed Not = refl

all_get : (p : Terminal → Bool) (ks : List Terminal) (d : Terminal) (i : ℕ) → p d ≡ true → all_are p ks ≡ true → p (get_or ks i d) ≡ true
all_get p [] d i e h = e
all_get p (k ∷ ks) d zero e h = (and_parts (p k) (all_are p ks) h).0
all_get p (k ∷ ks) d (suc i) e h = all_get p ks d i e (and_parts (p k) (all_are p ks) h).1

-- the last terminal of a list that begins with k
abbrev last : Terminal → List Terminal → Terminal
last k [] = k
last k (x ∷ xs) = last x xs

all_last : (p : Terminal → Bool) (k : Terminal) (ks : List Terminal) → all_are p (k ∷ ks) ≡ true → p (last k ks) ≡ true
all_last p k [] h = (and_parts (p k) true h).0
all_last p k (x ∷ xs) h = all_last p x xs (and_parts (p k) (all_are p (x ∷ xs)) h).1

abbrev others : List Terminal
others = TypeWord ∷ Int ∷ If ∷ Else ∷ For ∷ Trap ∷ Number ∷ Quoted ∷ Raw ∷ OptionLine ∷ Other ∷ Extern ∷ Body ∷ End ∷
    Read ∷ Write ∷ Rw ∷ Ctl ∷ New ∷ Null ∷ LeftParen ∷ RightParen ∷ LeftBracket ∷ RightBracket ∷ LeftBrace ∷ RightBrace
    ∷ Comma ∷ Semicolon ∷ Colon ∷ Question ∷ Assign ∷ Dots ∷ Inward ∷ Outward ∷ Plus ∷ Minus ∷ Star ∷ Slash ∷ Percent ∷
    Equal ∷ NotEqual ∷ Less ∷ AtMost ∷ Greater ∷ AtLeast ∷ And ∷ AndAnd ∷ Or ∷ OrOr ∷ Not ∷ []

pub all_at : (p : Terminal → Bool) → all_are p all_terminals ≡ true → (k : Terminal) → p k ≡ true
all_at p h k = subst (λ (x : Terminal). p x ≡ true) (listed k) (all_get p all_terminals Not (number_of k) (all_last p Name others h) h)

pub disjoint_at : (a b : Terminal → Bool) → are_disjoint a b ≡ true → (k : Terminal) → a k ≡ true → b k ≡ false
disjoint_at a b h k x = go (a k) (b k) x (all_at (λ y. not (a y && b y)) h k)
  where
    go : (s t : Bool) → s ≡ true → not (s && t) ≡ true → t ≡ false
    go true t x e = not-true t e
    go false t x e = absurd cc

pub within_at : (a b : Terminal → Bool) → is_within a b ≡ true → (k : Terminal) → a k ≡ true → b k ≡ true
within_at a b h k x = go (a k) (b k) x (all_at (λ y. not (a y) || b y) h k)
  where
    go : (s t : Bool) → s ≡ true → (not s || t) ≡ true → t ≡ true
    go true t x e = e
    go false t x e = absurd cc
