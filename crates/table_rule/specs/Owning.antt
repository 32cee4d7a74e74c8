-- Owners: a pass works only for its own claims.
-- Carried by: laws of `table_rule`.
use Rattle.std.specs.Prelude.{◌≡◌, ◌≤◌, ℕ, List, []}
use Rattle.ptg_base.specs.Lists.{IsIn}
use Rattle.ptg_base.specs.Task.{Task}
use Rattle.list_lemmas.specs.Counting.{weigh}
use Rattle.flow_meaning.specs.Machine.{SentItem, sender}
use Rattle.work_board.specs.declared.record.PassRecord.{PassRecord}
use Rattle.table_rule.specs.Names.{AreNames}
use Rattle.table_rule.specs.Records.{Each}

-- a pass that has claimed, sent and run nothing, and holds nothing
pub record IsEmpty (v : PassRecord) : Type 0 where
  pub claims : v.claims ≡ []
  pub sends : v.sends ≡ []
  pub running : v.running ≡ []
  pub turns : v.turns ≡ []
  pub credit : v.credit ≡ 0
  pub stamps : v.stamps ≡ []

-- what a pass runs and sent belongs to tasks that it claimed
pub record OwnsWork (v : PassRecord) : Type 0 where
  -- the tasks that it runs are among its claims, each at most as often as it was claimed
  pub running : (f : Task → ℕ) → weigh f v.running ≤ weigh f v.claims
  -- each item that it sent belongs to a task that it claimed
  pub sends : (x : SentItem) → IsIn x v.sends → IsIn (sender x.item) v.claims
  -- a pass without a name was joined to another, which took over what it had
  pub nameless : v.names ≡ [] → IsEmpty v

-- the passes of a table: each owns its work, and their names are in order
pub record AreOwned (vs : List PassRecord) : Type 0 where
  pub each : Each OwnsWork vs
  pub names : AreNames vs
