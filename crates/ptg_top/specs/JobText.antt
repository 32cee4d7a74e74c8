-- What is printed for a checked job, and the exit status.
-- Carried by: `ptg_main`.
-- Tested by: `check.txt`, `examples.txt`.
use Rattle.std.specs.Prelude.{ℕ, List, length}
use Rattle.plan_core.specs.NamesByNumber.{class_name, flow_name}
use Rattle.dep_iter.specs.Tasks.{all_tasks}
use Rattle.dep_iter.specs.Consistent.{all_in, all_writes}
use Rattle.report_text.specs.Printed.{consistent_text}
use Rattle.report_text.specs.Refusal.{inconsistent_line, refusal_text}
use Rattle.report_text.specs.declared.refusal_line.Line.TheVariants as line_of
use Rattle.job_stages.specs.declared.verdict.JobVerdict.{JobVerdict}
use Rattle.job_stages.specs.declared.verdict.JobVerdict.TheVariants as jobs
use Rattle.ptg_top.specs.declared.status.Status.{Status}
use Rattle.ptg_top.specs.declared.status.Status.TheVariants.{Complete, JdfRefused, DataRefused, Inconsistent}

-- What is printed for a checked job: its refusal, or its numbers of tasks, of edges (also those of CTL flows) and of
-- write-backs. An inconsistency comes with the name of its class and of its flow, if it is at a flow.
abbrev pub job_text : JobVerdict → List ℕ
job_text (jobs.Jdf fault) = refusal_text (line_of.Jdf fault)
job_text (jobs.Data fault) = refusal_text (line_of.Data fault)
job_text (jobs.Inconsistent P fault) =
    inconsistent_line fault (class_name P fault.class) (flow_name P fault.class fault.flow)
job_text (jobs.Consistent P given) = consistent_text (length (all_tasks P)) (length (all_in P)) (length (all_writes P))

-- the exit status of a checked job
abbrev pub status_of_job : JobVerdict → Status
status_of_job (jobs.Jdf fault) = JdfRefused
status_of_job (jobs.Data fault) = DataRefused
status_of_job (jobs.Inconsistent P fault) = Inconsistent
status_of_job (jobs.Consistent P given) = Complete
