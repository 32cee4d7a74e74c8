-- Reads of one file in turn, up to its end or past a limit.
-- Carried by: `load`.
-- Tested by: `unread.txt`.
use Rattle.std.specs.Prelude.{◌≡◌, ◌<◌, ◌≤◌, ◌+◌, ℕ, List, [], ◌∷◌, length, take, Option, Some, sum}
use Rattle.ptg_io.specs.Files.{NamedFiles, file_of}

-- the bytes read so far are the first ones of the file with this name, if the contents of the files are known and it is
-- among them
abbrev pub IsReadSoFar : Option NamedFiles → List ℕ → List ℕ → Type 0
IsReadSoFar contents name bytes =
    (files : NamedFiles) (file : List ℕ) →
    contents ≡ Some files → file_of files name ≡ Some file → bytes ≡ take (length bytes) file

-- Reads of one file, each from where the previous one ended, lead from one state of the files to another. The list has
-- the number of bytes that each read gave, the last read first.
abbrev pub ReadsInTurn : {Files : Type 0} → (Files → List ℕ → ℕ → ℕ → Files → Type 0) → List ℕ → Files → List ℕ → Files
    → Type 0
ReadsInTurn gives name start [] end = start ≡ end
ReadsInTurn {Files} gives name start (n ∷ counts) end =
    (before : Files) × ReadsInTurn gives name start counts before × gives before name (sum counts) n end

-- reads of one file in turn, which gave this many bytes together
pub record HasRead {Files : Type 0} (gives : Files → List ℕ → ℕ → ℕ → Files → Type 0)
    (name : List ℕ) (start : Files) (size : ℕ) (end : Files) : Type 0 where
  pub counts : List ℕ
  pub reads : ReadsInTurn gives name start counts end
  pub together : sum counts ≡ size

-- Reads of one file in turn. The last one is the first that goes past this many bytes.
pub record StopsPast {Files : Type 0} (gives : Files → List ℕ → ℕ → ℕ → Files → Type 0)
    (name : List ℕ) (limit : ℕ) (start end : Files) : Type 0 where
  pub last : ℕ
  pub earlier : List ℕ
  pub reads : ReadsInTurn gives name start (last ∷ earlier) end
  pub within : sum earlier ≤ limit
  pub past : limit < sum earlier + last

-- reads of one file in turn, which gave at most this many bytes together, and then a failed one from where they ended
pub record FailsWithin {Files : Type 0} (gives : Files → List ℕ → ℕ → ℕ → Files → Type 0)
    (fails : Files → List ℕ → ℕ → Files → Type 0)
    (name : List ℕ) (limit : ℕ) (start end : Files) : Type 0 where
  pub size : ℕ
  pub before : Files
  pub reads : HasRead gives name start size before
  pub within : size ≤ limit
  pub failed : fails before name size end
