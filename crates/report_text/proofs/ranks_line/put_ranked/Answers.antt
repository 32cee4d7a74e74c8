use Rattle.std.proofs.Common.{refl}
use Rattle.report_text.specs.Printed.{outcome_text}
use Rattle.report_text.proofs.Putting.{puts_then, puts_cut}
use Rattle.report_text.proofs.ranks_line.put_ranked.Goals as goal

pub returns-in_err-put_head : goal.returns-in_err-put_head
returns-in_err-put_head g c =
    puts_cut (outcome_text c.args.plan.now c.args.found.now.outcome) _ c.in_err-put_head.ensures c.from_residual.ensures.0 refl

pub returns : goal.returns
returns g c = puts_then _ c.in_ok-put_head.ensures c.put_outcome.ensures refl
