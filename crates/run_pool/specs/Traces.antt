-- What a traced run returns besides its closed table. Source: the usual topological order.
-- Carried by: `run_traced`.
use Rattle.std.specs.Prelude.{List}
use Rattle.ptg_base.specs.Task.{Task}
use Rattle.table_rule.specs.Records.{joined}
use Rattle.dep_table.specs.ClosedTables.{ClosedView}
use Rattle.dep_table.specs.StampOrders.{AreInStampOrder, IsClaimOrder, joined_stamps}

-- the tasks are the claims of all passes of this closed table, in the order of their stamps: a legal order
pub record IsTraceOf (t : ClosedView) (ts : List Task) : Type 0 where
  pub order : AreInStampOrder (joined_stamps t.records) ts
  pub legal : IsClaimOrder t.job.matched (joined t.records).state ts
