-- Texts that are cut before the first byte with a given value. This is how rows and their fields are found.
-- Carried by: inside `read_rows`.
-- Tested by: `trace_spelling.txt`.
use Rattle.std.specs.Prelude.{◌≡◌, ◌==◌, ℕ, Bool, true, not, IsTrue, List, [], ◌∷◌, ◌++◌}
use Rattle.std.specs.List.{list_all}

-- whether none of these bytes is c
abbrev pub is_free_of : ℕ → List ℕ → Bool
is_free_of c bytes = list_all (λ b. not (b == c)) bytes

-- whether a text is empty or begins with c
abbrev pub opens_with : ℕ → List ℕ → Bool
opens_with c [] = true
opens_with c (b ∷ bs) = b == c

-- a text is cut before its first byte c, or at its end if it has none
pub record IsCut (c : ℕ) (text front rest : List ℕ) : Type 0 where
  pub split : text ≡ front ++ rest
  pub free : IsTrue (is_free_of c front)
  pub next : IsTrue (opens_with c rest)
