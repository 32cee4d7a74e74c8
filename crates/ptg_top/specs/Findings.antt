-- What a command finds of a job that was run, the text that is printed of it, and the exit status.
-- Carried by: `ptg_main`.
-- Tested by: all rows of `run`, `demo`, `trace`, `replay`, `certify`, `ranks`.
use Rattle.std.specs.Prelude.{ℕ, List}
use Rattle.plan_core.specs.declared.plan.Plan.{Plan}
use Rattle.flow_meaning.specs.declared.outcome.Outcome.{Outcome}
use Rattle.flow_meaning.specs.declared.outcome.Outcome.TheVariants as outcomes
use Rattle.report_text.specs.Found.{chain_text, cycle_text, summary_text}
use Rattle.report_text.specs.Printed.{outcome_text}
use Rattle.report_text.specs.Ranked.{ranked_text}
use Rattle.ptg_top.specs.declared.status.Status.{Status}
use Rattle.ptg_top.specs.declared.status.Status.TheVariants as status
use Rattle.ptg_top.specs.declared.verdict.Finding.{Finding}
use Rattle.ptg_top.specs.declared.verdict.Finding.TheVariants.{Answer, Summary, Chain, Cycle, Trace, Ranked}

-- what is printed of a finding of a job with this plan
abbrev pub finding_text : Plan → Finding → List ℕ
finding_text P (Answer outcome) = outcome_text P outcome
finding_text P (Summary found) = summary_text found
finding_text P (Chain found) = chain_text P found
finding_text P (Cycle found) = cycle_text P found
finding_text P (Trace text) = text
finding_text P (Ranked found) = ranked_text P found

-- the status of a run with this outcome
abbrev pub status_of_outcome : Outcome → Status
status_of_outcome (outcomes.Complete count given) = status.Complete
status_of_outcome (outcomes.Trapped rows) = status.Trapped
status_of_outcome (outcomes.Stalled ran total rows) = status.Stalled

-- the status of a run with this finding
abbrev pub status_of_finding : Finding → Status
status_of_finding (Answer outcome) = status_of_outcome outcome
status_of_finding (Summary found) = status.Complete
status_of_finding (Chain found) = status.Complete
status_of_finding (Cycle found) = status.Stalled
status_of_finding (Trace text) = status.Complete
status_of_finding (Ranked found) = status_of_outcome found.outcome
