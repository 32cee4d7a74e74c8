-- A turn that a pass holds.
-- Carried by: calls of `DepTable` and `Turn`.
use Rattle.std.specs.Prelude.{◌≡◌, ℕ, ◌<◌, [], ◌∷◌, length}
use Rattle.ptg_base.specs.Task.{Task}
use Rattle.dep_shard.specs.Content.{Content, IsUnchanged, KeepsSpares}
use Rattle.work_board.specs.Looks.{HasStamp}
use Rattle.work_board.specs.Records.{IsClean}
use Rattle.work_board.specs.declared.record.PassRecord.{PassRecord}
use Rattle.table_rule.specs.Changes.{with_turn}
use Rattle.table_rule.specs.Plays.{Seated, WasSeen}
use Rattle.dep_table.specs.declared.turn.Turn.{Turn}
use Rattle.dep_table.specs.Tables.{id_of, job_of}

-- The turn of a pass that was clean and had the record v when the turn was taken. Some table that meets the rule has
-- that record and y₀ in this shard. The shard has y now, and at most its spares have grown since.
pub record IsTurnOf (t : Turn) (v : PassRecord) (y₀ y : Content) : Type 0 where
  pub of : t.pass.now.table ≡ id_of t.table.now
  pub within : t.shard < (job_of t.table.now).shards
  pub me : t.pass.now.me ≡ (with_turn v t.shard y₀, (t.shard, y) ∷ [])
  pub same : IsUnchanged y₀ y
  pub spares : KeepsSpares y₀.spare y.spare
  pub seen : WasSeen (job_of t.table.now) t.shard v y₀
  pub clean : IsClean v
  pub one_name : length v.names ≡ 1
  pub stamp : (u : Task) → v.running ≡ u ∷ [] → HasStamp v u t.pass.now.stamp

-- the turn of some pass that was clean when it was taken
abbrev pub IsTurn : Turn → Type 0
IsTurn t = (v : PassRecord) × (y₀ : Content) × (y : Content) × IsTurnOf t v y₀ y

-- the pass looked into the shard k, whose turn it holds: nothing changed but spares of the shard that grew
pub record HasLooked (k : ℕ) (before : Content) (m n : Seated) : Type 0 where
  pub after : Content
  pub me : n ≡ (m.0, (k, after) ∷ [])
  pub same : IsUnchanged before after
  pub spares : KeepsSpares before.spare after.spare
