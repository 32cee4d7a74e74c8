-- Counts of failed reads and writes.
-- Carried by: `load`, `write_all`.
-- Tested by: `unread.txt`, `unwritten.txt`.
use Rattle.std.specs.Prelude.{◌≡◌, ◌⊎◌, ℕ, ◌+◌, ◌<◌, min}

-- the last value of a count of faults, at which it stays: 2^64 - 1
abbrev pub last_count : ℕ
last_count = 18446744073709551615

-- a count of faults rose: it is greater than before, or has reached its last value
abbrev pub Rose : ℕ → ℕ → Type 0
Rose old new = (old < new) ⊎ (new ≡ last_count)

-- a count after one more fault: it stays at its last value
abbrev pub one_more : ℕ → ℕ
one_more count = min (count + 1) last_count
