use Rattle.std.proofs.Common.{Err, refl}
use Rattle.edge_match.proofs.Parts.{stop, followed}
use Rattle.edge_match.proofs.flows.check_flow.Goals as goal

pub returns-in_err-start_flow : goal.returns-in_err-start_flow
returns-in_err-start_flow c =
    let start = c.in_err-start_flow.ensures c.args.counted.now in
    stop _ c.from_residual.ensures.1 (stop {v = c.args.counted.now} {r = Err _} _ refl start)

pub returns-in_err-check_direction : goal.returns-in_err-check_direction
returns-in_err-check_direction c =
    let start = c.in_ok-start_flow.ensures c.args.counted.now in
    stop _ c.from_residual-in_err-check_direction.ensures.1 (followed start c.in_err-check_direction.ensures)

pub returns : goal.returns
returns c =
    let start = c.in_ok-start_flow.ensures c.args.counted.now in
    followed (followed start c.in_ok-check_direction.ensures) c.check_direction-2.ensures
