-- The contents of files by their names, and reads of them piece by piece. Source of reads: POSIX's pread.
-- Carried by: `load`.
-- Tested by: `unread.txt`.
use Rattle.std.specs.Prelude.{◌≡◌, ℕ, ◌<◌, ◌≤◌, List, length, take, drop, Option, Some}
use Rattle.std.specs.Str.{bytes_eq}
use Rattle.std.specs.Map.{lookup}

-- files by name: each a name and its bytes
abbrev pub NamedFiles : Type 0
NamedFiles = List (List ℕ × List ℕ)

-- the bytes of the first file with this name
abbrev pub file_of : NamedFiles → List ℕ → Option (List ℕ)
file_of files name = lookup (λ (n : List ℕ). bytes_eq n name) files

-- A read of a file with these bytes, from an offset on, gave n bytes: the buffer begins with the n bytes from there on.
-- It gave none only at or past the end.
pub record IsPiece (bytes : List ℕ) (from n : ℕ) (buffer : List ℕ) : Type 0 where
  pub piece : take n buffer ≡ take n (drop from bytes)
  pub end : n ≡ 0 → length bytes ≤ from

-- a read of n bytes of the file with this name, which exists
abbrev pub ReadsPiece : NamedFiles → List ℕ → ℕ → ℕ → List ℕ → Type 0
ReadsPiece files name from n buffer = (bytes : List ℕ) × (file_of files name ≡ Some bytes) × IsPiece bytes from n buffer

-- the file with this name exists and has more bytes than this
abbrev pub IsLonger : NamedFiles → List ℕ → ℕ → Type 0
IsLonger files name limit = (bytes : List ℕ) × (file_of files name ≡ Some bytes) × (limit < length bytes)
