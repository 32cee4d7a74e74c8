-- Whole numbers as indices, of tiles and of their elements.
-- Carried by: `index_in`.
-- Tested by: `data_codes.txt`, `traps.txt`.
use Rattle.std.specs.Prelude.{ℕ, ℤ, pos, negsuc, nat_lt, Option, Some, None, if◌then◌else◌}

-- a number as an index into a list of this many elements, if it is one
abbrev pub index_in : ℕ → ℤ → Option ℕ
index_in len (pos n) = if nat_lt n len then Some n else None
index_in len (negsuc n) = None
