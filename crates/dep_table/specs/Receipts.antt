-- A receipt as contracts see it.
-- Carried by: `Closed::outcome`, `Receipt::matched`.
use Rattle.std.specs.Prelude.{ℕ, Bool}
use Rattle.plan_core.specs.declared.plan.Plan.{Plan}
use Rattle.coll_data.specs.Data.{Data}
use Rattle.flow_meaning.specs.declared.outcome.Outcome.{Outcome}
use Rattle.dep_table.specs.ClosedTables.{ClosedView}

-- The plan and the data of the job that was run, the numbers of shards and of passes, and the answer that was read from
-- the table. It also says whether all memory was reserved before the first step.
pub record ReceiptView : Type 0 where
  pub plan : Plan
  pub given : Data
  pub shards : ℕ
  pub passes : ℕ
  pub preloaded : Bool
  pub outcome : Outcome

-- the receipt of a closed table from which this answer was read
abbrev pub receipt_of : ClosedView → Outcome → ReceiptView
receipt_of t outcome =
    record {
      plan = t.job.matched;
      given = t.job.given;
      shards = t.job.shards;
      passes = t.passes;
      preloaded = t.job.preloaded;
      outcome = outcome;
    }
