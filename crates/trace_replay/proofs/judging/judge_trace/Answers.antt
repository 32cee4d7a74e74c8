use Rattle.std.proofs.Common.{Err, ap, sym, subst, ◌∙◌}
use Rattle.trace_core.specs.Reading.{IsReading}
use Rattle.trace_replay.proofs.Judged.{only_fault, read_tasks, unread_fault, unread_only, unread_whole, verdict_answer, verdict_fault, verdict_whole}
use Rattle.trace_replay.proofs.judging.judge_trace.Goals as goal

pub returns-in-Err-clause-fault : goal.returns-in-Err-clause-fault
returns-in-Err-clause-fault c = unread_fault c.args.m.now c.args.given c.args.bytes.now c.unread.result c.in-Err.refusal
    c.unread.ensures.fault c.unread.ensures.memory (λ f e. c.read_rows.ensures.fault f
    (c.in-Err.is ∙ ap (λ x. Err x) e))

pub returns-in-Err-clause-refused : goal.returns-in-Err-clause-refused
returns-in-Err-clause-refused c = unread_only c.args.m.now c.args.given c.args.bytes.now c.unread.result
    c.in-Err.refusal c.unread.ensures.fault c.unread.ensures.memory
    (λ f e. c.read_rows.ensures.fault f (c.in-Err.is ∙ ap (λ x. Err x) e))

pub returns-in-Err-clause-whole : goal.returns-in-Err-clause-whole
returns-in-Err-clause-whole c = (unread_whole c.args.m.now c.args.given c.args.bytes.now c.unread.result
    c.in-Err.refusal c.unread.ensures.fault c.unread.ensures.memory).0

pub returns-in-Err-clause-answer : goal.returns-in-Err-clause-answer
returns-in-Err-clause-answer c = (unread_whole c.args.m.now c.args.given c.args.bytes.now c.unread.result
    c.in-Err.refusal c.unread.ensures.fault c.unread.ensures.memory).1

pub judge_tasks-requires : goal.judge_tasks-requires
judge_tasks-requires c =
    let r = subst (λ ts. IsReading c.args.m.now c.args.bytes.now ts c.in-Ok.reading.fault) (sym c.as_slice.ensures) c.in-Ok.ensures.read in
    let p = read_tasks c.args.m.now r.entries c.as_slice.result.now c.in-Ok.reading.fault r.read in
    record { tasks = p.0; once = p.1; fit = c.requires }

pub returns-clause-fault : goal.returns-clause-fault
returns-clause-fault c =
    let r = subst (λ ts. IsReading c.args.m.now c.args.bytes.now ts c.in-Ok.reading.fault) (sym c.as_slice.ensures) c.in-Ok.ensures.read in
    verdict_fault c.args.m.now c.args.given c.plan_is_consistent.ensures c.args.bytes.now c.as_slice.result.now
    c.in-Ok.reading.fault r c.in_ok-verdict.verdict (c.in_ok-verdict.ensures r.entries r.read)

pub returns-clause-refused : goal.returns-clause-refused
returns-clause-refused c =
    let r = subst (λ ts. IsReading c.args.m.now c.args.bytes.now ts c.in-Ok.reading.fault) (sym c.as_slice.ensures) c.in-Ok.ensures.read in
    only_fault c.args.m.now c.args.given c.plan_is_consistent.ensures c.args.bytes.now c.as_slice.result.now
    c.in-Ok.reading.fault r c.in_ok-verdict.verdict (c.in_ok-verdict.ensures r.entries r.read)

pub returns-clause-whole : goal.returns-clause-whole
returns-clause-whole c =
    let r = subst (λ ts. IsReading c.args.m.now c.args.bytes.now ts c.in-Ok.reading.fault) (sym c.as_slice.ensures) c.in-Ok.ensures.read in
    verdict_whole c.args.m.now c.args.given c.plan_is_consistent.ensures c.args.bytes.now c.as_slice.result.now
    c.in-Ok.reading.fault r c.in_ok-verdict.verdict (c.in_ok-verdict.ensures r.entries r.read)

pub returns-clause-answer : goal.returns-clause-answer
returns-clause-answer c =
    let r = subst (λ ts. IsReading c.args.m.now c.args.bytes.now ts c.in-Ok.reading.fault) (sym c.as_slice.ensures) c.in-Ok.ensures.read in
    verdict_answer c.args.m.now c.args.given r.entries c.as_slice.result.now c.in_ok-verdict.verdict (c.in_ok-verdict.ensures r.entries r.read)
