use Rattle.ptg_top.specs.Demo.{summed}
use Rattle.ptg_top.proofs.TableRuns.{found_of_run}
use Rattle.ptg_top.proofs.summing.sum_up.Goals as goal

pub returns-clause-summary : goal.returns-clause-summary
returns-clause-summary g c =
    found_of_run c.args.settings c.args.matched c.args.given c.in_ok-receipt.receipt c.in_ok-receipt.outcome c.in_ok-receipt.ensures
    (summed c.args.rows) c.summed.result c.summed.ensures

-- its receipt is of the job
pub returns-clause-receipt : goal.returns-clause-receipt
returns-clause-receipt g c = (c.in_ok-receipt.ensures.settings, c.in_ok-receipt.ensures.job)
