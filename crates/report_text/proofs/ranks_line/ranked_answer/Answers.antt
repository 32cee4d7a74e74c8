use Rattle.report_text.specs.Ranked.{ranked_text}
use Rattle.report_text.proofs.Putting.{prints_all, prints_cut}
use Rattle.report_text.proofs.ranks_line.ranked_answer.Goals as goal

pub returns-in_err-put_ranked : goal.returns-in_err-put_ranked
returns-in_err-put_ranked g c =
    prints_cut (ranked_text c.args.plan.now c.args.found.now) c.new-out.ensures c.in_err-put_ranked.ensures c.from_residual.ensures.0

pub returns : goal.returns
returns g c =
    prints_all (ranked_text c.args.plan.now c.args.found.now) c.new-out.ensures c.in_ok-put_ranked.ensures c.flush.ensures.puts c.flush.ensures.empty
