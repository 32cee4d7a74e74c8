use Rattle.report_text.specs.Found.{summary_text}
use Rattle.report_text.proofs.Putting.{prints_all, prints_cut}
use Rattle.report_text.proofs.demo_line.summary_line.Goals as goal

pub returns-in_err-put_summary : goal.returns-in_err-put_summary
returns-in_err-put_summary g c =
    prints_cut (summary_text c.args.found.now) c.new-out.ensures c.in_err-put_summary.ensures c.from_residual.ensures.0

pub returns : goal.returns
returns g c =
    prints_all (summary_text c.args.found.now) c.new-out.ensures c.in_ok-put_summary.ensures c.flush.ensures.puts c.flush.ensures.empty
