-- The rule of the table, part by part, with the spares of a preloaded table: it holds between any two steps of its
-- passes.
-- Carried by: laws of `table_rule`.
use Rattle.std.specs.Prelude.{◌≡◌, ℕ, ◌<◌, ◌≤◌, true, List, length, slice_index}
use Rattle.ptg_base.specs.Limits.{most_shards}
use mathlib.Core.Option.{Option}
use Rattle.atomic_table.specs.Table.{State}
use Rattle.dep_iter.specs.Consistent.{IsConsistent}
use Rattle.dep_shard.specs.Content.{Content}
use Rattle.flow_meaning.specs.Sound.{IsSoundState}
use Rattle.shard_meaning.specs.Calm.{AreFinished}
use Rattle.shard_meaning.specs.Moment.{Moment}
use Rattle.shard_meaning.specs.Reserve.{HasReserve}
use Rattle.shard_meaning.specs.Share.{IsShardOf, Placement}
use Rattle.work_board.specs.Handed.{WereHandedInputs}
use Rattle.work_board.specs.declared.record.PassRecord.{PassRecord}
use Rattle.table_rule.specs.declared.table_job.TableJob.{TableJob}
use Rattle.table_rule.specs.Live.{AreLive}
use Rattle.table_rule.specs.Owning.{AreOwned}
use Rattle.shard_meaning.specs.Placing.{shard_of}
use Rattle.table_rule.specs.Quiet.{IsQuieted}
use Rattle.table_rule.specs.Records.{AreRecordsOf, Each}
use Rattle.table_rule.specs.Turns.{AreHeld, AreInSlots, AreTurns}
use Rattle.table_rule.specs.Words.{halt_word, live_word, stamp_word, word_count}

-- the table as plain data: its words, the shards in their slots, and the records of its passes
abbrev pub Table : Type 0
Table = State Content PassRecord

-- which shard of its table a task of the job belongs to
abbrev pub placement_of : TableJob → Placement
placement_of j = shard_of j.matched j.shards

-- the shard k has the content y, and that is its part of the moment
abbrev pub Share : TableJob → Moment → ℕ → Content → Type 0
Share j R k y = IsShardOf j.matched j.given (placement_of j) k R y

-- the shard k, with the content y, has spares for all that is due there
abbrev pub Reserve : TableJob → Moment → ℕ → Content → Type 0
Reserve j R k y = HasReserve j.matched (placement_of j) k R y

-- a pass was handed the inputs of each task that it claimed
abbrev pub WasHandedInputs : TableJob → PassRecord → Type 0
WasHandedInputs j v = WereHandedInputs j.matched j.given v.claims v.handed

-- a preloaded table: the halt word is 0, and each shard has its spares, in its slot or when its turn was taken
pub record IsReserved (j : TableJob) (R : Moment) (halted : ℕ)
    (words : List ℕ) (slots : List (Option Content)) (vs : List PassRecord) : Type 0 where
  pub halt : halted ≡ 0
  pub in_slots : AreInSlots (Reserve j R) words slots
  pub held : AreHeld (Reserve j R) vs

-- the rule at this moment of the run, part by part
pub record Parts (j : TableJob) (s : Table) (R : Moment) : Type 0 where
  -- the job is consistent, there are 1 to 256 shards, and the words for them
  pub consistent : IsConsistent j.matched
  pub some_shards : 0 < j.shards
  pub shards_at_most : j.shards ≤ most_shards
  pub slots : length s.homes ≡ j.shards
  pub words : length s.words ≡ word_count j.shards
  -- the moment is what all passes did together, and it is sound
  pub records : AreRecordsOf R s.views
  pub sound : IsSoundState j.matched j.given R.state
  -- each pass works for its own claims, and the names of the passes are in order
  pub owned : AreOwned s.views
  -- each pass was handed the inputs of each task that it claimed
  pub handed : Each (WasHandedInputs j) s.views
  -- a claimed task that no pass runs has trapped, or all its items were sent
  pub finished : AreFinished j.matched j.given R
  -- a shard in its slot holds its part of the moment
  pub in_slots : AreInSlots (Share j R) s.words s.homes
  -- a turn word is not 0 if and only if one pass holds that turn; the shard had its part when the turn was taken
  pub turns : AreTurns s.words s.homes s.views
  pub held : AreHeld (Share j R) s.views
  -- quiet, and the halt word
  pub quieted : IsQuieted j.matched R (slice_index s.words (halt_word j.shards)) s.views
  -- the live word, and the stamps
  pub live : AreLive j.matched R (slice_index s.words (live_word j.shards)) (slice_index s.words (stamp_word j.shards))
      s.views
  -- the spares of a preloaded table
  pub reserved : j.preloaded ≡ true → IsReserved j R (slice_index s.words (halt_word j.shards)) s.words s.homes s.views

-- there is a moment of the run at which all parts hold. Two such moments differ only in the order of their lists
abbrev pub Rule : TableJob → Table → Type 0
Rule j s = (R : Moment) × Parts j s R
