-- Clean passes: a worker's pass is clean between two calls.
-- Carried by: calls of `DepTable` and `Turn`.
use Rattle.std.specs.Prelude.{◌≡◌, [], ◌∷◌, length}
use Rattle.table_rule.specs.Seats.{TableId}
use Rattle.ptg_base.specs.Task.{Task}
use Rattle.work_board.specs.Looks.{HasStamp}
use Rattle.work_board.specs.Records.{IsClean}
use Rattle.table_rule.specs.Changes.{first_pass}
use Rattle.table_rule.specs.Plays.{Seated}
use Rattle.dep_table.specs.Views.{PassView, shown}

-- a pass holds no shard and no turn, owes the live word nothing, has one name, and each of its claims has a stamp
pub record IsCleanSeat (m : Seated) : Type 0 where
  pub no_shard : m.1 ≡ []
  pub clean : IsClean m.0
  pub one_name : length m.0.names ≡ 1

-- a clean pass of this table. If it runs a task, the stamp of that task is the one that it drew last
pub record IsPassOf (table : TableId) (p : PassView) : Type 0 where
  pub of : p.table ≡ table
  pub clean : IsCleanSeat p.me
  pub stamp : (t : Task) → (shown p).running ≡ t ∷ [] → HasStamp (shown p) t p.stamp

-- the first pass of this table: it has done nothing, and no pass was split off it
abbrev pub IsFirstPassOf : TableId → PassView → Type 0
IsFirstPassOf table p = IsPassOf table p × (p.me.0 ≡ first_pass)
