use Rattle.report_text.specs.Found.{chain_text}
use Rattle.report_text.proofs.Putting.{prints_all, prints_cut}
use Rattle.report_text.proofs.certificate.heaviest_chain.Goals as goal

pub returns-in_err-put_chain : goal.returns-in_err-put_chain
returns-in_err-put_chain g c =
    prints_cut (chain_text c.args.plan.now c.args.found.now) c.new-out.ensures c.in_err-put_chain.ensures c.from_residual.ensures.0

pub returns : goal.returns
returns g c =
    prints_all (chain_text c.args.plan.now c.args.found.now) c.new-out.ensures c.in_ok-put_chain.ensures c.flush.ensures.puts c.flush.ensures.empty
