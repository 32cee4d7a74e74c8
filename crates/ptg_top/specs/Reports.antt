-- The verdicts on a command, and on the arguments, from the files that were loaded, if reads may fail. `old` and `new`
-- are the reads before and after; `failed` and `failed_since` count, before and after, the failed reads of each name.
-- Carried by: `ptg_main` (`exact`, `complete`, `unread`, `cut`).
-- Tested by: all rows, `unread.txt`, `unwritten.txt`.
use Rattle.std.specs.Prelude.{◌≡◌, ◌⊎◌, ℕ, List}
use Rattle.ptg_io.specs.Faults.{Rose}
use Rattle.ptg_io.specs.Reads.{Gave, HaveBegun}
use Rattle.ptg_words.specs.declared.order.Order.{Order}
use Rattle.ptg_words.specs.Laws.{files_of}
use Rattle.ptg_words.specs.Words.{Orders}
use Rattle.ptg_top.specs.Denotation as verdicts
use Rattle.ptg_top.specs.Denotation.{Denotation}
use Rattle.ptg_top.specs.Operands.{AreOf, Load, Operands, Read, in_loads}
use Rattle.ptg_top.specs.Meaning.{AreFirstOperands, CommandDenotes, Denotes, IsNoCommand}

-- the verdict is on what was read: it is neither usage nor a file that could not be read
abbrev pub IsOfTexts : Denotation → Type 0
IsOfTexts verdicts.Usage = ⊥
IsOfTexts (verdicts.Unread name) = ⊥
IsOfTexts (verdicts.Job job) = Unit {0}
IsOfTexts (verdicts.Ran P finding) = Unit {0}
IsOfTexts (verdicts.Spelling text) = Unit {0}
IsOfTexts verdicts.PreloadTooLarge = Unit {0}
IsOfTexts (verdicts.TraceRefused fault) = Unit {0}

-- no read failed
abbrev pub NoneFailed : (List ℕ → ℕ) → (List ℕ → ℕ) → Type 0
NoneFailed failed failed_since = (name : List ℕ) → failed_since name ≡ failed name

-- These loads were made. Then a load of the file with this name was begun, and the count of its failed reads rose.
abbrev pub FailedAfter : List Read → List Read → List Load → List ℕ → (List ℕ → ℕ) → (List ℕ → ℕ) → Type 0
FailedAfter old new loads name failed failed_since =
    (middle : List Read) × Gave old middle loads × HaveBegun name middle new × Rose (failed name) (failed_since name)

-- Either the verdict is that a file could not be read: its load was begun after these loads, and its count of failed
-- reads rose. Or the verdict is on what was read: these loads were made, and no read failed.
abbrev pub EndsAfter : List Read → List Read → List Load → (List ℕ → ℕ) → (List ℕ → ℕ) → Denotation → Type 0
EndsAfter old new loads failed failed_since v =
    ((name : List ℕ) × (v ≡ verdicts.Unread name) × FailedAfter old new loads name failed failed_since)
    ⊎ (IsOfTexts v × Gave old new loads × NoneFailed failed failed_since)

-- How steps end whose file operands have these names: their verdict is what the operands denote by `Denoted` if the
-- first of them hold what was loaded and the others count as missing.
pub record EndsWith (old new : List Read) (failed failed_since : List ℕ → ℕ) (names : List (List ℕ))
    (Denoted : Operands → Denotation → Type 0) (v : Denotation) : Type 0 where
  pub loads : List Load
  pub operands : AreOf loads names
  pub denoted : Denoted (in_loads loads) v
  pub reads : EndsAfter old new loads failed failed_since v

-- the verdict on a command
abbrev pub IsVerdictOnCommand : List Read → List Read → (List ℕ → ℕ) → (List ℕ → ℕ) → Order → Denotation → Type 0
IsVerdictOnCommand old new failed failed_since command v =
    EndsWith old new failed failed_since (files_of command) (λ operands. CommandDenotes operands command) v

-- A verdict on the arguments. If they form no command it is usage, and nothing was read; otherwise it is the verdict on
-- the command.
abbrev pub IsVerdictOnWords : List (List ℕ) → List Read → List Read → (List ℕ → ℕ) → (List ℕ → ℕ) → Denotation
    → Type 0
IsVerdictOnWords words old new failed failed_since v =
    (IsNoCommand words × (v ≡ verdicts.Usage) × (new ≡ old) × NoneFailed failed failed_since)
    ⊎ ((command : Order) × Orders words command × IsVerdictOnCommand old new failed failed_since command v)

-- exactly these loads were made, of the first file operands of the command
abbrev pub HasLoaded : List (List ℕ) → List Read → List Read → List Load → Type 0
HasLoaded words old new loads = AreFirstOperands words loads × Gave old new loads

-- The file with this name could not be read: its load was begun after these loads, with which the arguments denote that
-- it is unread.
pub record IsUnread (words : List (List ℕ)) (old new : List Read) (failed failed_since : List ℕ → ℕ)
    (name : List ℕ) : Type 0 where
  pub loads : List Load
  pub operands : AreFirstOperands words loads
  pub denoted : Denotes words (in_loads loads) (verdicts.Unread name)
  pub reads : FailedAfter old new loads name failed failed_since
