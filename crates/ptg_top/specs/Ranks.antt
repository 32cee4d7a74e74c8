-- What `ranks` denotes: the answer of a job that ranks run, and how many messages they send one another, whatever the
-- seed.
-- Carried by: `ptg_main` (`CommandDenotes`).
-- Tested by: `ranks.txt`.
use Rattle.std.specs.Prelude.{◌≡◌, ℕ}
use Rattle.coll_data.specs.Data.{Data}
use Rattle.plan_core.specs.declared.plan.Plan.{Plan}
use Rattle.flow_meaning.specs.Answer.{answer}
use Rattle.rank_core.specs.Sound.{message_count}
use Rattle.ptg_top.specs.declared.verdict.Finding.TheVariants.{Ranked}
use Rattle.ptg_top.specs.Denotation as verdicts
use Rattle.ptg_top.specs.Denotation.{Denotation}

-- the verdict of `ranks` on a consistent job: the number of edges between two ranks whose source has outputs, as the
-- number of messages, and the answer of the job
abbrev pub IsRanked : ℕ → Plan → Data → Denotation → Type 0
IsRanked r P given v =
    v ≡ verdicts.Ran P (Ranked (record { ranks = r; messages = message_count P given r; outcome = answer P given }))
