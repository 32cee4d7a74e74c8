use Rattle.std.proofs.Common.{List, ◌++◌, ap, flat_map, refl, sym}
use Rattle.ptg_base.specs.Task.{Task}
use Rattle.report_text.specs.Found.{cycle_head, link_line}
use Rattle.report_text.proofs.Putting.{puts_then, puts_cut}
use Rattle.report_text.proofs.certificate.put_cycle.Goals as goal

pub returns-in_err-put_cycle_head : goal.returns-in_err-put_cycle_head
returns-in_err-put_cycle_head g c =
    puts_cut (flat_map (link_line c.args.plan.now) c.args.found.now.cycle) _ c.in_err-put_cycle_head.ensures c.from_residual.ensures.0 refl

pub returns : goal.returns
returns g c =
    let is = ap (λ (ts : List Task). cycle_head c.args.found.now ++ flat_map (link_line c.args.plan.now) ts) (sym c.as_slice-cycle.ensures) in
    puts_then _ c.in_ok-put_cycle_head.ensures c.put_list.ensures is
