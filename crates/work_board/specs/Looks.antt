-- What the results of the looks at the live word and at the halt word say.
-- Carried by: `Board::see_quiet` (`QuietAnswers`), `Board::halted` (`HaltAnswers`), `Board::halt`, `Board::stamp`.
use Rattle.std.specs.Prelude.{◌≡◌, ◌≢◌, ℕ, ◌+◌, Bool, true, false, List, [], ◌∷◌, ◌++◌, ◌⊎◌}
use Rattle.ptg_base.specs.Task.{Task}
use Rattle.work_board.specs.declared.record.PassRecord.{PassRecord}
use Rattle.work_board.specs.Records.{FoundBusy, IsStill, KeepsDone}
use Rattle.work_board.specs.Word.{Halt, Live, Word}
use Rattle.work_board.specs.Stamps.{StampedTask}

-- In its one look the pass found 0 in a word.
pub record FoundZero (word : Word) (v w : PassRecord) : Type 0 where
  pub look : w.look ≡ (word, 0)
  pub looks : w.looks ≡ v.looks + 1
  pub last : w.last ≡ v.last

-- The pass has seen quiet: it found 0 in the live word. Nothing else changes but its looks.
pub record HasSeenQuiet (v w : PassRecord) : Type 0 where
  pub found : FoundZero Live v w
  pub quiet : w.quiet ≡ true
  pub names : w.names ≡ v.names
  pub turns : w.turns ≡ v.turns
  pub halts : w.halts ≡ v.halts
  pub credit : w.credit ≡ v.credit
  pub running : w.running ≡ v.running
  pub done : KeepsDone v w

-- what the result of a look for quiet says: false means that the live word was not 0
abbrev pub QuietAnswers : Bool → PassRecord → PassRecord → Type 0
QuietAnswers true v w = HasSeenQuiet v w
QuietAnswers false v w = FoundBusy Live v w

-- The pass found 0 in the halt word, and nothing changed but its looks.
pub record FoundRunning (v w : PassRecord) : Type 0 where
  pub found : FoundZero Halt v w
  pub still : IsStill v w

-- what the result of a look at the halt word says: true if and only if it was not 0
abbrev pub HaltAnswers : Bool → PassRecord → PassRecord → Type 0
HaltAnswers true v w = FoundBusy Halt v w
HaltAnswers false v w = FoundRunning v w

-- The pass raised the halt word. All else stays, also its looks.
pub record HasHalted (v w : PassRecord) : Type 0 where
  pub halts : w.halts ≡ true
  pub names : w.names ≡ v.names
  pub turns : w.turns ≡ v.turns
  pub last : w.last ≡ v.last
  pub quiet : w.quiet ≡ v.quiet
  pub look : w.look ≡ v.look
  pub looks : w.looks ≡ v.looks
  pub credit : w.credit ≡ v.credit
  pub running : w.running ≡ v.running
  pub done : KeepsDone v w

-- The pass knows that the board is halted: it raised the halt word, or its last look was at that word and found it not
-- 0.
abbrev pub KnowsHalted : PassRecord → Type 0
KnowsHalted v = (v.halts ≡ true) ⊎ ((v.look.0 ≡ Halt) × (v.look.1 ≢ 0))

-- the task t has this stamp, and it is the last one that the pass drew
pub record HasStamp (v : PassRecord) (t : Task) (stamp : ℕ) : Type 0 where
  pub earlier : List StampedTask
  pub is_last : v.stamps ≡ earlier ++ (t, stamp) ∷ []
