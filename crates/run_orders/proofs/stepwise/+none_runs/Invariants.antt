use Rattle.std.proofs.Common.{length}
use Rattle.run_orders.proofs.stepwise.+none_runs.Given as goal

abbrev pub decreases-none_runs : goal.decreases-none_runs
decreases-none_runs l = length l.tasks.now
