use Rattle.report_text.specs.Found.{cycle_text}
use Rattle.report_text.proofs.Putting.{prints_all, prints_cut}
use Rattle.report_text.proofs.certificate.found_cycle.Goals as goal

pub returns-in_err-put_cycle : goal.returns-in_err-put_cycle
returns-in_err-put_cycle g c =
    prints_cut (cycle_text c.args.plan.now c.args.found.now) c.new-out.ensures c.in_err-put_cycle.ensures c.from_residual.ensures.0

pub returns : goal.returns
returns g c =
    prints_all (cycle_text c.args.plan.now c.args.found.now) c.new-out.ensures c.in_ok-put_cycle.ensures c.flush.ensures.puts c.flush.ensures.empty
