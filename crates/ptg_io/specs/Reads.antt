-- What reads of files gave, if they did not fail, and the files that they loaded.
-- Carried by: `Files::read`, `load`, `ptg_top::ptg_main` (`HasLoaded`; `exact`, `complete`, `unread`, `cut`); laws
-- `top_laws::loads_are_files`, `top_laws::reads_determine_the_loads`.
-- Tested by: all rows, `unread.txt`.
use Rattle.std.specs.Prelude.{◌≡◌, ◌⊎◌, ◌<◌, ◌≤◌, ◌+◌, ℕ, List, [], ◌∷◌, ◌++◌, length, Option, Some}
use Rattle.std.specs.List.{AllByRecursion, concat}
use Rattle.ptg_base.specs.Limits.{most_bytes}
use Rattle.ptg_io.specs.Files.{NamedFiles, IsPiece, file_of}

-- a read that did not fail: the name of the file, the offset, and the bytes that it gave, none at the end
pub record Read : Type 0 where
  pub name : List ℕ
  pub from : ℕ
  pub piece : List ℕ

-- the reads of one file from an offset on that gave these pieces, each from where the previous one ended
abbrev pub reads_in_turn : List ℕ → ℕ → List (List ℕ) → List Read
reads_in_turn name from [] = []
reads_in_turn name from (piece ∷ pieces) =
    record { name = name; from = from; piece = piece } ∷ reads_in_turn name (from + length piece) pieces

-- a read was added to a list: of the file with this name, from an offset, that gave this piece
abbrev pub AddsRead : List ℕ → ℕ → List ℕ → List Read → List Read → Type 0
AddsRead name from piece old new = new ≡ old ++ record { name = name; from = from; piece = piece } ∷ []

-- Reads of one file in turn, from its start on, were added to a list. Together they gave these bytes, and each gave at
-- least one.
pub record HaveGiven (name bytes : List ℕ) (old new : List Read) : Type 0 where
  pub pieces : List (List ℕ)
  pub reads : new ≡ old ++ reads_in_turn name 0 pieces
  pub together : concat pieces ≡ bytes
  pub nonempty : AllByRecursion (λ piece. 0 < length piece) pieces

-- after reads that gave these bytes, no read was added to a list, or one that gave more bytes, at most 16 MiB in all
abbrev pub AddsAtMostOne : List ℕ → List ℕ → List Read → List Read → Type 0
AddsAtMostOne name bytes old new =
    (new ≡ old)
    ⊎ ((more : List ℕ) × (0 < length more) × AddsRead name (length bytes) more old new
    × (length bytes + length more ≤ most_bytes))

-- a load of a file was begun: its reads so far gave at most 16 MiB, and none has met the end
pub record HaveBegun (name : List ℕ) (old new : List Read) : Type 0 where
  pub bytes : List ℕ
  pub reads : HaveGiven name bytes old new
  pub within : length bytes ≤ most_bytes

-- a load: the name of a file, and the text that reads of it gave
pub record Load : Type 0 where
  pub name : List ℕ
  pub text : List ℕ

-- The reads of a load were added to a list: reads in turn that gave at most 16 MiB together, and then a last one. The
-- last one gave no bytes, at the end of the file, or it made the text longer than 16 MiB.
pub record IsLoaded (load : Load) (old new : List Read) : Type 0 where
  pub earlier : List ℕ
  pub last : List ℕ
  pub before : List Read
  pub reads : HaveGiven load.name earlier old before
  pub within : length earlier ≤ most_bytes
  pub ended : AddsRead load.name (length earlier) last before new
  pub text : load.text ≡ earlier ++ last
  pub whole : (last ≡ []) ⊎ (most_bytes < length load.text)

-- exactly the reads of these loads, one load after another, were added to a list
abbrev pub Gave : List Read → List Read → List Load → Type 0
Gave old new [] = new ≡ old
Gave old new (load ∷ loads) = (middle : List Read) × IsLoaded load old middle × Gave middle new loads

-- the read gave a piece of the file with its name, which exists
abbrev pub IsPieceOf : NamedFiles → Read → Type 0
IsPieceOf files r =
    (bytes : List ℕ) × (file_of files r.name ≡ Some bytes) × IsPiece bytes r.from (length r.piece) r.piece

-- each read that was added to a list gave a piece of its file, if the contents of the files are known
abbrev pub AddsPieces : Option NamedFiles → List Read → List Read → Type 0
AddsPieces contents old new =
    (files : NamedFiles) → contents ≡ Some files
    → (added : List Read) × (new ≡ old ++ added) × AllByRecursion (IsPieceOf files) added
