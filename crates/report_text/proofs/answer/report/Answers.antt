use Rattle.report_text.specs.Printed.{outcome_text}
use Rattle.report_text.proofs.Putting.{prints_all, prints_cut}
use Rattle.report_text.proofs.answer.report.Goals as goal

pub returns-in_err-put_outcome : goal.returns-in_err-put_outcome
returns-in_err-put_outcome g c =
    prints_cut (outcome_text c.args.plan.now c.args.outcome.now) c.new-out.ensures c.in_err-put_outcome.ensures c.from_residual.ensures.0

pub returns : goal.returns
returns g c =
    prints_all (outcome_text c.args.plan.now c.args.outcome.now) c.new-out.ensures c.in_ok-put_outcome.ensures c.flush.ensures.puts c.flush.ensures.empty
