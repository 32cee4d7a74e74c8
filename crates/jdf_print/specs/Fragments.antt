-- A text as fragments: tokens, and the blanks between them.
-- Carried by: `print`; law `print_laws::reads_back`.
-- Tested by: `spelling.txt`, `expressions.txt`.
use Rattle.std.specs.Prelude.{ℕ, ◌+◌, List, [], ◌∷◌, ◌++◌, flat_map, codes}

-- a fragment of a text
pub data Fragment : Type 0 where
  -- the bytes of a token
  token : List ℕ → Fragment
  -- blanks
  blank : List ℕ → Fragment

-- the bytes of a fragment
abbrev pub bytes_of : Fragment → List ℕ
bytes_of (token word) = word
bytes_of (blank bytes) = bytes

-- The text of a list of fragments.
abbrev pub text : List Fragment → List ℕ
text fragments = flat_map bytes_of fragments

-- one space
abbrev pub space : Fragment
space = blank (32 ∷ [])

-- one LF
abbrev pub newline : Fragment
newline = blank (10 ∷ [])

-- A line: its fragments and then LF.
abbrev pub line : List Fragment → List Fragment
line fragments = fragments ++ newline ∷ []

-- A mark with a space on each side.
abbrev pub between : List ℕ → List Fragment
between mark = space ∷ token mark ∷ space ∷ []

-- The lists one after the other, with `separator` between each two neighbours.
abbrev pub separated : List Fragment → List (List Fragment) → List Fragment
separated separator [] = []
separated separator (x ∷ []) = x
separated separator (x ∷ y ∷ xs) = x ++ (separator ++ separated separator (y ∷ xs))

-- a comma with a space after it
abbrev pub comma : List Fragment
comma = token (codes ",") ∷ space ∷ []

-- The lists with commas between them.
abbrev pub with_commas : List (List Fragment) → List Fragment
with_commas xs = separated comma xs

-- How many of the fragments are tokens.
abbrev pub token_count : List Fragment → ℕ
token_count [] = 0
token_count (token word ∷ fragments) = 1 + token_count fragments
token_count (blank bytes ∷ fragments) = token_count fragments
