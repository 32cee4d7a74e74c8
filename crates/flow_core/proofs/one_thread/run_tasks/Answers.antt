use Rattle.std.proofs.Common.{sym, ◌∙◌, arith}
use Rattle.flow_core.proofs.OneThread.{some_left}
use Rattle.flow_core.proofs.one_thread.run_tasks.Goals as goal

pub loop-t-smaller : goal.loop-t-smaller
loop-t-smaller c =
    let left = some_left c.args.m.now c.args.given.now c.loop-t.runner.run c.pop.new.self.items c.in-Some.t
    c.loop-t.invariant.between.fits (sym c.in-Some.ensures.items ∙ c.loop-t.invariant.between.running) in
    omega (arith, left, c.in_ok-run_one_task.ensures.ended)
