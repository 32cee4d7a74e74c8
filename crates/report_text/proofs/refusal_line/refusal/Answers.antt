use Rattle.report_text.specs.Refusal.{refusal_text}
use Rattle.report_text.proofs.Putting.{prints_all, prints_cut}
use Rattle.report_text.proofs.refusal_line.refusal.Goals as goal

pub returns-in_err-put_refusal : goal.returns-in_err-put_refusal
returns-in_err-put_refusal g c =
    prints_cut (refusal_text c.args.line.now) c.new-out.ensures c.in_err-put_refusal.ensures c.from_residual.ensures.0

pub returns : goal.returns
returns g c =
    prints_all (refusal_text c.args.line.now) c.new-out.ensures c.in_ok-put_refusal.ensures c.flush.ensures.puts c.flush.ensures.empty
