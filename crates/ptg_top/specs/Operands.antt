-- What the file operands of a command hold: known files, or the texts that were loaded.
-- Carried by: `ptg_main` (`PrintsLoaded`; `exact`, `complete`, `unread`, `cut`).
-- Tested by: all rows, `unread.txt`.
use Rattle.std.specs.Prelude.{◌≡◌, ℕ, zero, suc, List, [], ◌∷◌, Option, None, Some}
use Rattle.ptg_io.specs.Files.{file_of}
pub use Rattle.ptg_io.specs.Files.{NamedFiles}
pub use Rattle.ptg_io.specs.Reads.{Load, Read}

-- what each file operand of a command holds, by its index and its name; None if it is missing
abbrev pub Operands : Type 0
Operands = ℕ → List ℕ → Option (List ℕ)

-- each operand holds the file of its name
abbrev pub in_files : NamedFiles → Operands
in_files files index name = file_of files name

-- the text of the load at an index
abbrev pub text_at : List Load → ℕ → Option (List ℕ)
text_at [] index = None
text_at (load ∷ loads) zero = Some load.text
text_at (load ∷ loads) (suc index) = text_at loads index

-- the k-th operand holds the text of the k-th load, whatever its name; operands without a load are missing
abbrev pub in_loads : List Load → Operands
in_loads loads index name = text_at loads index

-- the loads are of the first of these names, in order
abbrev pub AreOf : List Load → List (List ℕ) → Type 0
AreOf [] names = Unit {0}
AreOf (load ∷ loads) [] = ⊥
AreOf (load ∷ loads) (name ∷ names) = (load.name ≡ name) × AreOf loads names

-- the load of this name with this text
abbrev pub load_of : List ℕ → List ℕ → Load
load_of name text = record { name = name; text = text }
