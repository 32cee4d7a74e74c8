-- A run that was made ready, as contracts see it, and when a preload is too large.
-- Carried by: `prepare`, `run`, `ptg_top::ptg_main` (`CommandDenotes`).
-- Tested by: `preload.txt`, `preload_limit.txt`, every row of `run`, at three settings if it sets neither workers nor
-- shards.
use Rattle.std.specs.Prelude.{ℕ, Bool, Option, None, is_some, nat_lt, if◌then◌else◌}
use Rattle.std.specs.Bool.{then_some}
use Rattle.ptg_base.specs.Limits.{most_preload_bytes}
use Rattle.plan_core.specs.declared.plan.Plan.{Plan}
use Rattle.coll_data.specs.Data.{Data}
use Rattle.table_rule.specs.declared.table_job.TableJob.{TableJob}
use Rattle.run_pool.specs.declared.settings.Settings.{Settings}
use Rattle.run_pool.specs.Bytes.{preload_bytes}

-- its job and its number of workers
pub record Run : Type 0 where
  pub job : TableJob
  pub workers : ℕ

-- the run of this job with these settings
abbrev pub run_of : Plan → Data → Settings → Run
run_of P G s =
    record { job = record { matched = P; given = G; shards = s.shards; preloaded = s.preload }; workers = s.workers }

-- the bytes of a preload that is asked for, if they are over the limit
abbrev pub too_large_preload : Settings → Plan → Option ℕ
too_large_preload s P =
    if s.preload
    then then_some (nat_lt most_preload_bytes (preload_bytes P s.workers)) (preload_bytes P s.workers)
    else None

-- whether a preload is asked for and too large
abbrev pub is_too_large : Settings → Plan → Bool
is_too_large s P = is_some (too_large_preload s P)
