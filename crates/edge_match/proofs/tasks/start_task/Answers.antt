use Rattle.std.proofs.Common.{refl}
use Rattle.dep_iter.specs.Hints.{affinity}
use Rattle.edge_match.specs.Marks.{Is, IsPlace}
use Rattle.edge_match.proofs.Parts.{decides, followed, stop}
use Rattle.edge_match.proofs.tasks.start_task.Goals as goal

pub returns-in_err-check_values-in-Connecting : goal.returns-in_err-check_values-in-Connecting
returns-in_err-check_values-in-Connecting c = λ s.
    rw c.in-Connecting.is (stop _ c.from_residual.ensures.1 (c.in_err-check_values-in-Connecting.ensures s))

pub returns-in_ok-check_values-in-Connecting : goal.returns-in_ok-check_values-in-Connecting
returns-in_ok-check_values-in-Connecting c = λ s.
    let P = c.args.task.now.plan.now in
    let t = c.args.task.now.task.now in
    let exists = rw c.affinity-place.ensures at c.has_place-exists.ensures in
    let place = c.require.ensures.checked P (Is (IsPlace (affinity P t))) s s (decides (IsPlace (affinity P t)) exists) refl in
    rw c.in-Connecting.is (followed (c.in_ok-check_values-in-Connecting.ensures s) place)
