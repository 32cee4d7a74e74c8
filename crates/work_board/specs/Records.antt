-- The record of a pass (`work_board/src/record.rt`), and how it grows.
-- Carried by: every call of `Board`.
use Rattle.std.specs.Prelude.{◌≡◌, ◌≢◌, ℕ, ◌+◌, List, [], ◌∷◌, ◌++◌}
use Rattle.ptg_base.specs.Lists.{IsIn}
use Rattle.ptg_base.specs.Task.{Task}
use Rattle.dep_shard.specs.Content.{Content}
use Rattle.flow_meaning.specs.Machine.{IsLater, MachineState}
use Rattle.work_board.specs.declared.record.PassRecord.{PassRecord}
use Rattle.work_board.specs.Word.{Word, Turn}
use Rattle.work_board.specs.Stamps.{StampedTask}
use Rattle.work_board.specs.Handed.{HandedTask}

-- what one pass did, as a state of the event machine: its claims and its sends
abbrev pub done_by : PassRecord → MachineState
done_by v = record { claims = v.claims; sends = v.sends }

-- The pass holds no turn, owes the live word nothing, and each of its claims has a stamp.
-- Carried by: `Board`, law `clean`.
pub record IsClean (v : PassRecord) : Type 0 where
  pub no_turn : v.turns ≡ []
  pub no_credit : v.credit ≡ 0
  pub stamped : (t : Task) → IsIn t v.claims → (stamp : ℕ) × IsIn (t, stamp) v.stamps

-- The names, the turns, the two marks (quiet and halt) and the credit stay.
pub record KeepsNamesAndMarks (v w : PassRecord) : Type 0 where
  pub names : w.names ≡ v.names
  pub turns : w.turns ≡ v.turns
  pub quiet : w.quiet ≡ v.quiet
  pub halts : w.halts ≡ v.halts
  pub credit : w.credit ≡ v.credit

-- All that the pass did stays: its claims with their stamps and what was handed out with them, and its sends.
pub record KeepsDone (v w : PassRecord) : Type 0 where
  pub claims : w.claims ≡ v.claims
  pub stamps : w.stamps ≡ v.stamps
  pub handed : w.handed ≡ v.handed
  pub sends : w.sends ≡ v.sends

-- Nothing changes but, at most, the looks and the shard taken last.
pub record IsStill (v w : PassRecord) : Type 0 where
  pub kept : KeepsNamesAndMarks v w
  pub done : KeepsDone v w
  pub running : w.running ≡ v.running

-- The pass took the turn of shard k, which had the content y then: in its one look it found 0 in the turn word.
pub record TookShard (k : ℕ) (y : Content) (v w : PassRecord) : Type 0 where
  pub look : w.look ≡ (Turn k, 0)
  pub looks : w.looks ≡ v.looks + 1
  pub last : w.last ≡ (k, y) ∷ []

-- In its one look the pass found that a word was not 0, and nothing changed but its looks.
pub record FoundBusy (looked_at : Word) (v w : PassRecord) : Type 0 where
  pub word : w.look.0 ≡ looked_at
  pub taken : w.look.1 ≢ 0
  pub looks : w.looks ≡ v.looks + 1
  pub last : w.last ≡ v.last
  pub still : IsStill v w

-- The pass took the turn of a shard and gave it back without an event.
pub record OnlyTook (k : ℕ) (v w : PassRecord) : Type 0 where
  pub shard : Content
  pub took : TookShard k shard v w
  pub still : IsStill v w

-- Nothing that the pass did is undone, and its names stay: each list has what it had, and maybe more after it.
pub record IsLaterRecord (v w : PassRecord) : Type 0 where
  pub more_stamps : List StampedTask
  pub more_handed : List HandedTask
  pub names : w.names ≡ v.names
  pub done : IsLater (done_by v) (done_by w)
  pub stamps : w.stamps ≡ v.stamps ++ more_stamps
  pub handed : w.handed ≡ v.handed ++ more_handed
