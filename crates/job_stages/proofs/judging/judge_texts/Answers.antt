use Rattle.std.proofs.Common.{Err, ap}
use Rattle.job_stages.proofs.Judged.{only_verdict, fault_judged, only_fault}
use Rattle.job_stages.proofs.judging.judge_texts.Goals as goal

-- the verdict on the tree is the only one
pub returns-in-Ok-clause-only : goal.returns-in-Ok-clause-only
returns-in-Ok-clause-only c v h =
    only_verdict c.args.jdf_text.now c.args.data_text.now c.judge_data.result v (c.judge_data.ensures.found c.args.jdf_text.now c.in-Ok.ensures.found) h

-- a fault of the JDF's text is the verdict, and the only one
pub returns-in-Err-Fault-clause-found : goal.returns-in-Err-Fault-clause-found
returns-in-Err-Fault-clause-found c =
    fault_judged c.args.jdf_text.now c.args.data_text.now c.in-Err-Fault.fault _ c.in-Err-Fault.fault-is
    (c.in-Err-Fault.ensures.fault c.in-Err-Fault.fault (ap Err c.in-Err-Fault.field-0-is))

pub returns-in-Err-Fault-clause-only : goal.returns-in-Err-Fault-clause-only
returns-in-Err-Fault-clause-only c v h =
    only_fault c.args.jdf_text.now c.args.data_text.now c.in-Err-Fault.fault _ v c.in-Err-Fault.fault-is
    (c.in-Err-Fault.ensures.fault c.in-Err-Fault.fault (ap Err c.in-Err-Fault.field-0-is)) h
