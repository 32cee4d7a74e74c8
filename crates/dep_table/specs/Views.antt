-- A pass as contracts see it.
-- Carried by: calls of `DepTable` and `Turn`.
use Rattle.std.specs.Prelude.{ℕ}
use Rattle.work_board.specs.declared.record.PassRecord.{PassRecord}
use Rattle.table_rule.specs.Plays.{Seated}
use Rattle.table_rule.specs.Seats.{TableId}

-- the table that it belongs to, its record with the shards that it holds, and the stamp that it drew last
pub record PassView : Type 0 where
  pub table : TableId
  pub me : Seated
  pub stamp : ℕ

-- its record
abbrev pub shown : PassView → PassRecord
shown p = p.me.0
