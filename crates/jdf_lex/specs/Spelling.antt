-- How blanks, comments and tokens are spelled, according to the JDF documentation, with the marks of its expressions,
-- ranges, dependences and bodies. The first bytes at a position decide which lexical unit begins there; which words
-- are spelled as that unit depends on the words alone.
-- Carried by: `tokens`; laws `one_list_of_tokens`, `text_laws::units_as_written` and the others of `text_laws`.
-- Tested by: `token_lists.txt`, `tokens.txt`, `unclosed.txt`, `long_texts.txt`.
use Rattle.std.specs.Prelude.{ℕ, Bool, true, false, not, ◌&&◌, ◌||◌, ◌==◌, nat_le, nat_eq, List, [], ◌∷◌, drop, codes, if◌then◌else◌, Option, Some, None}
use Rattle.std.specs.List.{list_any, list_all, starts_with}
use Rattle.jdf_lex.specs.declared.lexical_unit.LexicalUnit.{LexicalUnit}
use Rattle.jdf_lex.specs.declared.lexical_unit.LexicalUnit.TheVariants.{Blank, LineComment, BlockComment, TokenOf}
pub use Rattle.ptg_base.specs.Decimal.{is_digit}
pub use Rattle.ptg_base.specs.Names.{is_letter, is_part}
use Rattle.jdf_lex.specs.declared.kind.TokenKind.TheVariants.{Name, Number, Quoted, Raw, OptionLine, Mark, Other}

-- whether a byte is a space, a tab, CR or LF
abbrev pub is_blank : ℕ → Bool
is_blank b = list_any (λ c. c == b) (32 ∷ 9 ∷ 13 ∷ 10 ∷ [])

-- whether a byte is not LF
abbrev pub is_not_lf : ℕ → Bool
is_not_lf b = not (b == 10)

-- Whether a byte continues a character: in UTF-8 a character is a byte and the bytes from 128 to 191 that follow it.
abbrev pub continues_character : ℕ → Bool
continues_character b = nat_le 128 b && nat_le b 191

-- the marks of one byte, each a byte of this list
abbrev pub short_marks : List ℕ
short_marks = codes "()[]{},;:?=+-*/%<>&|!"

-- the marks of two bytes: `..` `<-` `->` `==` `!=` `<=` `>=` `&&` `||`
abbrev pub long_marks : List (ℕ × ℕ)
long_marks = (46, 46) ∷ (60, 45) ∷ (45, 62) ∷ (61, 61) ∷ (33, 61) ∷ (60, 61) ∷ (62, 61) ∷ (38, 38) ∷ (124, 124) ∷ []

-- whether a word is one of the marks
abbrev pub is_mark : List ℕ → Bool
is_mark (a ∷ []) = list_any (λ m. m == a) short_marks
is_mark (a ∷ b ∷ []) = list_any (λ (first, second). (first == a) && (second == b)) long_marks
is_mark _ = false

-- whether a mark is at the front
abbrev pub begins_mark : List ℕ → Bool
begins_mark [] = false
begins_mark (a ∷ []) = is_mark (a ∷ [])
begins_mark (a ∷ b ∷ rest) = is_mark (a ∷ b ∷ []) || is_mark (a ∷ [])

-- whether a text begins with a byte that may continue a name
abbrev pub begins_part : List ℕ → Bool
begins_part [] = false
begins_part (b ∷ bs) = is_part b

-- whether `%option` is at the front, and no letter, digit or `_` follows it
abbrev pub begins_option : List ℕ → Bool
begins_option rest = starts_with nat_eq rest (codes "%option") && not (begins_part (drop 7 rest))

-- the unit that begins with the byte `b` before `rest`, if it is not a comment, a raw block or an option line
abbrev pub plain_unit : ℕ → List ℕ → LexicalUnit
plain_unit b rest =
    if b == 34 then TokenOf Quoted
    else (if is_blank b then Blank
    else (if is_letter b then TokenOf Name
    else (if is_digit b then TokenOf Number
    else (if begins_mark (b ∷ rest) then TokenOf Mark
    else TokenOf Other))))

-- The unit that begins with the byte `b` before `rest`. `//`, `/*`, `%{` and `"` always begin a comment, a raw block or
-- a quoted text, even if the text does not end it.
abbrev pub first_unit : ℕ → List ℕ → LexicalUnit
first_unit b rest =
    if starts_with nat_eq (b ∷ rest) (codes "//") then LineComment
    else (if starts_with nat_eq (b ∷ rest) (codes "/*") then BlockComment
    else (if starts_with nat_eq (b ∷ rest) (codes "%{") then TokenOf Raw
    else (if begins_option (b ∷ rest) then TokenOf OptionLine
    else plain_unit b rest)))

-- the lexical unit that begins a text, decided by its first bytes
abbrev pub unit_at : List ℕ → Option LexicalUnit
unit_at [] = None
unit_at (b ∷ bs) = Some (first_unit b bs)

-- Whether the byte continues a unit that has no closing mark, after its first byte. A blank is one byte.
abbrev pub continues : LexicalUnit → ℕ → Bool
continues LineComment b = is_not_lf b
continues (TokenOf OptionLine) b = is_not_lf b
continues (TokenOf Name) b = is_part b
continues (TokenOf Number) b = is_part b
continues (TokenOf Other) b = continues_character b
continues _ b = false

-- Whether the byte ends a unit that has a closing mark. `affected`: the byte before it is a `*` in a comment, a `%` in
-- a raw block, or a backslash that escapes this byte.
abbrev pub ends_unit : LexicalUnit → Bool → ℕ → Bool
ends_unit BlockComment affected b = affected && (b == 47)
ends_unit (TokenOf Raw) affected b = affected && (b == 125)
ends_unit (TokenOf Quoted) affected b = not affected && (b == 34)
ends_unit _ affected b = false

-- whether the byte escapes the next byte, or may begin a closing mark with it
abbrev pub affects_next : LexicalUnit → Bool → ℕ → Bool
affects_next BlockComment affected b = b == 42
affects_next (TokenOf Raw) affected b = b == 37
affects_next (TokenOf Quoted) affected b = not affected && (b == 92)
affects_next _ affected b = false

-- whether a list is empty
abbrev pub is_empty : List ℕ → Bool
is_empty [] = true
is_empty (b ∷ bs) = false

-- whether the bytes after the opening of a unit end with the first byte that ends the unit
abbrev pub is_closed : LexicalUnit → Bool → List ℕ → Bool
is_closed unit affected [] = false
is_closed unit affected (b ∷ bs) =
    if ends_unit unit affected b then is_empty bs else is_closed unit (affects_next unit affected b) bs

-- Whether a word is spelled as a unit, if the unit begins with it. A block comment, a raw block and a quoted text end
-- where their closing mark first does. A mark is one of the marks. Any other unit is a byte and bytes that continue it.
-- The law `UnitsAsWritten` says the same in terms of the written form of each unit.
abbrev pub is_spelling : LexicalUnit → List ℕ → Bool
is_spelling unit [] = false
is_spelling BlockComment (b ∷ bs) = is_closed BlockComment false (drop 1 bs)
is_spelling (TokenOf Raw) (b ∷ bs) = is_closed (TokenOf Raw) false (drop 1 bs)
is_spelling (TokenOf Quoted) (b ∷ bs) = is_closed (TokenOf Quoted) false bs
is_spelling (TokenOf Mark) (b ∷ bs) = is_mark (b ∷ bs)
is_spelling LineComment (b ∷ bs) = list_all (continues LineComment) bs
is_spelling Blank (b ∷ bs) = list_all (continues Blank) bs
is_spelling (TokenOf kind) (b ∷ bs) = list_all (continues (TokenOf kind)) bs
