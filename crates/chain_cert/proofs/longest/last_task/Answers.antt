use Rattle.chain_cert.proofs.Tracing.{last_is, no_row}
use Rattle.chain_cert.proofs.longest.last_task.Goals as goal

pub returns-in_default : goal.returns-in_default
returns-in_default c = no_row c.args.m.now c.args.weights.now c.args.rows.now c.requires c.in_default.ensures

pub returns : goal.returns
returns c = last_is c.args.m.now c.args.weights.now c.args.rows.now c.requires _ c.in-Some.ensures
