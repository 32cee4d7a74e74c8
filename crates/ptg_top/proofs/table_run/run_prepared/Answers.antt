use Rattle.ptg_top.proofs.TableRuns.{closed_is_run}
use Rattle.ptg_top.proofs.table_run.run_prepared.Goals as goal

pub returns-clause-ran : goal.returns-clause-ran
returns-clause-ran g c P given settings run =
    closed_is_run settings P given c.args.prepared c.in_ok-closed.closed c.in_ok-outcome.receipt c.in_ok-outcome.outcome run
    c.in_ok-closed.ensures.job c.in_ok-closed.ensures.passes c.in_ok-outcome.ensures.receipt c.in_ok-outcome.ensures.answer
