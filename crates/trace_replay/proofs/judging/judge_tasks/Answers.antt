use Rattle.std.proofs.Common.{◌+◌, length, refl, subst, sym}
use Rattle.trace_core.specs.declared.fault.TraceCode.TheVariants.{Unfinished}
use Rattle.trace_core.specs.declared.fault.TraceFault.{TraceFault}
use Rattle.trace_replay.specs.Replaying.{IsEndOf, IsOfOneRank}
use Rattle.trace_replay.proofs.Judged.{at_end, ran_all, read_fault, stopped_at, stopped_early}
use Rattle.trace_replay.proofs.judging.judge_tasks.Goals as goal

pub returns-in-Some : goal.returns-in-Some
returns-in-Some c = λ es read.
    stopped_early c.args.m.now c.args.given es c.args.tasks.now c.requires.tasks c.requires.once c.args.fault read c.in-Some.index
    (stopped_at c.args.m.now c.args.given c.args.tasks.now c.in_ok-world.world c.in_ok-world.early c.in-Some.index c.in_ok-world.ensures c.in-Some.is) _ refl

pub returns-in-Some-fault : goal.returns-in-Some-fault
returns-in-Some-fault c = λ es read.
    let all = ran_all c.args.m.now c.args.given c.args.tasks.now c.in_ok-world.world c.in_ok-world.early c.in_ok-world.ensures c.in_default.is in
    read_fault c.args.m.now c.args.given es c.args.tasks.now c.requires.tasks c.requires.once c.args.fault read
    all.may_run c.in-Some-fault.fault c.in-Some-fault.is

pub judge_end-requires : goal.judge_end-requires
judge_end-requires c =
    let all = ran_all c.args.m.now c.args.given c.args.tasks.now c.in_ok-world.world c.in_ok-world.early c.in_ok-world.ensures c.in_default.is in
    subst (λ g. IsOfOneRank c.args.m.now g c.in_ok-world.world) (sym all.world.given) all.world

pub returns : goal.returns
returns c = λ es read.
    let all = ran_all c.args.m.now c.args.given c.args.tasks.now c.in_ok-world.world c.in_ok-world.early c.in_ok-world.ensures c.in_default.is in
    let unfinished : TraceFault = record { row = length c.args.tasks.now + 2; code = Unfinished } in
    at_end c.args.m.now c.args.given es c.args.tasks.now c.requires.tasks c.requires.once c.args.fault read
    c.plan_is_consistent.ensures c.in_ok-world.world.state.machine.claims all.claims all.may_run
    c.in_default-fault.is unfinished refl c.in_ok-verdict.verdict
    (subst (λ g. IsEndOf c.args.m.now g c.in_ok-world.world.state.machine.claims unfinished c.in_ok-verdict.verdict) all.world.given c.in_ok-verdict.ensures)
