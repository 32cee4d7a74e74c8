use Rattle.edge_match.proofs.Parts.{stop, followed}
use Rattle.edge_match.proofs.tasks.check_task.Goals as goal

pub returns-in_err-start_task : goal.returns-in_err-start_task
returns-in_err-start_task c = stop _ c.from_residual.ensures.1 (c.in_err-start_task.ensures c.args.counted.now)

pub returns : goal.returns
returns c = followed (c.in_ok-start_task.ensures c.args.counted.now) c.check_flows.ensures
