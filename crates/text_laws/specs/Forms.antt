-- The written form of each lexical unit, and the law that the lexical units of a text are those of these forms.
-- Source: the JDF documentation; where it is silent, this project's own choice.
-- Carried by: law `units_as_written`.
use Rattle.std.specs.Prelude.{◌≡◌, ℕ, ◌||◌, ◌==◌, Bool, List, [], ◌∷◌, ◌++◌, codes, Some, IsTrue, IsFalse}
use Rattle.std.specs.List.{list_all}
use Rattle.jdf_lex.specs.declared.lexical_unit.LexicalUnit.{LexicalUnit}
use Rattle.jdf_lex.specs.declared.lexical_unit.LexicalUnit.TheVariants.{Blank, LineComment, BlockComment, TokenOf}
use Rattle.jdf_lex.specs.declared.kind.TokenKind.TheVariants.{Name, Number, Quoted, Raw, OptionLine, Mark, Other}
use Rattle.jdf_lex.specs.Spelling.{is_letter, is_digit, is_part, is_blank, is_not_lf, continues_character, is_mark, begins_part, unit_at}
use Rattle.jdf_lex.specs.Tokens.{IsUnit}

-- The mark does not occur within the word.
abbrev pub IsFreeOf : List ℕ → List ℕ → Type 0
IsFreeOf mark word = (before after : List ℕ) → word ≡ before ++ (mark ++ after) → ⊥

-- Items of a quoted text, one after the other: each is a backslash with any byte, or a byte that is neither a quote nor
-- a backslash.
pub data IsQuotedItems : List ℕ → Type 0 where
  none : IsQuotedItems []
  escaped : (b : ℕ) (items : List ℕ) → IsQuotedItems items → IsQuotedItems (92 ∷ b ∷ items)
  plain : (b : ℕ) (items : List ℕ) → IsFalse (b == 34) → IsFalse (b == 92) → IsQuotedItems items
      → IsQuotedItems (b ∷ items)

-- Whether the byte is a quote, a blank, a letter, a digit or a mark.
abbrev pub begins_other_unit : ℕ → Bool
begins_other_unit b = (b == 34) || (is_blank b || (is_letter b || (is_digit b || is_mark (b ∷ []))))

-- The word has the written form of the unit.
pub data HasForm : LexicalUnit → List ℕ → Type 0 where
  -- a space, a tab, CR or LF
  blank : (b : ℕ) → IsTrue (is_blank b) → HasForm Blank (b ∷ [])
  -- `//`, then bytes without LF
  line_comment : (w : List ℕ) → IsTrue (list_all is_not_lf w) → HasForm LineComment (codes "//" ++ w)
  -- `/*`, then bytes without `*/`, then `*/`
  block_comment : (w : List ℕ) → IsFreeOf (codes "*/") w → HasForm BlockComment (codes "/*" ++ (w ++ codes "*/"))
  -- a letter or `_`, then letters, digits and `_`
  name : (b : ℕ) (w : List ℕ) → IsTrue (is_letter b) → IsTrue (list_all is_part w) → HasForm (TokenOf Name) (b ∷ w)
  -- a digit, then letters, digits and `_`
  number : (b : ℕ) (w : List ℕ) → IsTrue (is_digit b) → IsTrue (list_all is_part w) → HasForm (TokenOf Number) (b ∷ w)
  -- a quote, then items, then a quote
  quoted : (items : List ℕ) → IsQuotedItems items → HasForm (TokenOf Quoted) (34 ∷ (items ++ 34 ∷ []))
  -- `%{`, then bytes without `%}`, then `%}`
  raw : (w : List ℕ) → IsFreeOf (codes "%}") w → HasForm (TokenOf Raw) (codes "%{" ++ (w ++ codes "%}"))
  -- `%option`, then bytes without LF; the first one is not a letter, a digit or `_`
  option_line : (w : List ℕ) → IsFalse (begins_part w) → IsTrue (list_all is_not_lf w)
      → HasForm (TokenOf OptionLine) (codes "%option" ++ w)
  -- one of the marks
  mark : (w : List ℕ) → IsTrue (is_mark w) → HasForm (TokenOf Mark) w
  -- any other byte, then the bytes that continue its UTF-8 character
  other : (b : ℕ) (w : List ℕ) → IsFalse (begins_other_unit b) → IsTrue (list_all continues_character w)
      → HasForm (TokenOf Other) (b ∷ w)

-- The word, followed by `left`, has the form of the unit that begins there, and no longer word has it.
pub record IsWrittenUnit (unit : LexicalUnit) (word left : List ℕ) : Type 0 where
  pub begins : unit_at (word ++ left) ≡ Some unit
  pub form : HasForm unit word
  pub longest : (more after : List ℕ) → left ≡ more ++ after → HasForm unit (word ++ more) → more ≡ []

-- The lexical units of a text are those of the written forms.
abbrev pub UnitsAsWritten : Type 0
UnitsAsWritten =
    (unit : LexicalUnit) (word left : List ℕ)
    → (IsUnit unit word left → IsWrittenUnit unit word left) × (IsWrittenUnit unit word left → IsUnit unit word left)
