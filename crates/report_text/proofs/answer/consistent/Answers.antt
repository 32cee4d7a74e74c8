use Rattle.report_text.specs.Printed.{consistent_text}
use Rattle.report_text.proofs.Putting.{prints_all, prints_cut}
use Rattle.report_text.proofs.answer.consistent.Goals as goal

pub returns-in_err-put_line : goal.returns-in_err-put_line
returns-in_err-put_line g c =
    prints_cut (consistent_text c.args.tasks c.args.edges c.args.writes) c.new-out.ensures c.in_err-put_line.ensures c.from_residual.ensures.0

pub returns : goal.returns
returns g c =
    prints_all (consistent_text c.args.tasks c.args.edges c.args.writes) c.new-out.ensures c.in_ok-put_line.ensures c.flush.ensures.puts c.flush.ensures.empty
