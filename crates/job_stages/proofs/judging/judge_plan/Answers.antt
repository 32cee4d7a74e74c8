use Rattle.job_stages.proofs.Judged.{unmatched}
use Rattle.job_stages.proofs.judging.judge_plan.Goals as goal

-- the fault is that of the plan that was passed in
pub returns-in-Fault-clause-found : goal.returns-in-Fault-clause-found
returns-in-Fault-clause-found c job has same =
    unmatched job c.args.plan c.in-Err.plan c.in-Fault.fault has c.in-Err.ensures.back (c.match_edges.ensures.fault c.in-Fault.fault c.in-Err.plan (cc))
