-- The usual settings, the run of a job by a table, and the receipt of a job.
-- Carried by: `ptg_main` (`receipt`).
use Rattle.std.specs.Prelude.{◌≡◌, false}
use Rattle.ptg_base.specs.Limits.{usual_shards, usual_workers}
use Rattle.coll_data.specs.Data.{Data}
use Rattle.plan_core.specs.declared.plan.Plan.{Plan}
use Rattle.dep_table.specs.Receipts.{ReceiptView}
use Rattle.flow_meaning.specs.Answer.{answer}
use Rattle.flow_meaning.specs.declared.outcome.Outcome.{Outcome}
use Rattle.run_pool.specs.declared.settings.Settings.{Settings}

-- the settings of a command that has no options for them
abbrev pub usual_settings : Settings
usual_settings = record { workers = usual_workers; shards = usual_shards; preload = false }

-- the receipt is of a table with these settings: with as many shards, a pass for each worker, and a preload if one is
-- asked for
abbrev pub ShowsSettings : Settings → ReceiptView → Type 0
ShowsSettings s r = (r.shards ≡ s.shards) × (r.passes ≡ s.workers) × (r.preloaded ≡ s.preload)

-- the receipt is of this job: it shows the job's plan, its data, and as the outcome its answer
abbrev pub IsReceiptOf : Plan → Data → ReceiptView → Type 0
IsReceiptOf P given r = (r.plan ≡ P) × (r.given ≡ given) × (r.outcome ≡ answer P given)

-- a table with these settings ran the job of this plan on these data; this is its receipt, and this the job's answer
pub record IsTableAnswer (s : Settings) (P : Plan) (given : Data) (r : ReceiptView) (outcome : Outcome) : Type 0 where
  pub settings : ShowsSettings s r
  pub job : IsReceiptOf P given r
  pub answered : outcome ≡ answer P given
