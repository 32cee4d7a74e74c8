use Rattle.std.proofs.Common.{refl}
use Rattle.dep_iter.specs.Directions.{far_task}
use Rattle.edge_match.specs.Marks.{Is, IsOfJob, counts}
use Rattle.edge_match.specs.declared.phase.Phase.TheVariants.{Connecting}
use Rattle.edge_match.proofs.Parts.{decides, followed, stop}
use Rattle.edge_match.proofs.Tallies.{counts_code, is_data-here}
use Rattle.edge_match.specs.FlowParts.{plan_of}
use Rattle.edge_match.proofs.edges.connect_edge.Goals as goal

pub returns-in_err-check_tile : goal.returns-in_err-check_tile
returns-in_err-check_tile c = λ earlier.
    stop _ c.from_residual.ensures.1 (c.in_err-check_tile.ensures Connecting c.args.counted.now)

pub returns-in_err-require : goal.returns-in_err-require
returns-in_err-require c = λ earlier.
    let s = c.args.counted.now in
    let of_job = rw c.far_task.ensures at c.is_task.ensures in
    let far = c.in_err-require.ensures.checked (Is (IsOfJob (far_task c.args.direction c.args.edge.now))) s s
    (decides (IsOfJob (far_task c.args.direction c.args.edge.now)) of_job) refl in
    followed (c.in_ok-check_tile.ensures Connecting s) (stop _ c.from_residual-in_err-require.ensures.1 far)

pub returns : goal.returns
returns c = λ earlier.
    let at = c.args.at.now in
    let P = plan_of at in
    let way = c.args.direction in
    let e = c.args.edge.now in
    let s = c.args.counted.now in
    let of_job = rw c.far_task.ensures at c.is_task.ensures in
    let far = c.in_ok-require.ensures.checked (Is (IsOfJob (far_task way e))) s s (decides (IsOfJob (far_task way e)) of_job) refl in
    let tile = is_data-here at e way c.requires.task c.requires.flow in
    let counted = c.count_edge-fits.ensures P e (rw c.is_data.ensures tile) in
    let last = c.require-2.ensures.checked (counts way e) s c.count_edge-fits.new.counted counted (counts_code way e) in
    followed (c.in_ok-check_tile.ensures Connecting s) (followed far last)
