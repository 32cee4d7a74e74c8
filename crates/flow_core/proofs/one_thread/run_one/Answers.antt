use Rattle.flow_core.proofs.OneThread.{at_rest, idle}
use Rattle.flow_core.proofs.one_thread.run_one.Goals as goal

pub answer-requires-clause-idle : goal.answer-requires-clause-idle
answer-requires-clause-idle c = idle c.run_tasks.new.runner.run c.in_ok-run_tasks.ensures.running

pub answer-requires-clause-quiet : goal.answer-requires-clause-quiet
answer-requires-clause-quiet c = at_rest c.args.m.now c.args.given c.plan_is_consistent.ensures c.run_tasks.new.runner.run c.in_ok-run_tasks.ensures
