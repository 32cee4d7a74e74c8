use Rattle.std.proofs.Common.{refl}
use Rattle.dep_iter.specs.Edges.{data_source}
use Rattle.edge_match.specs.Marks.{HasInput, HasSource, Is}
use Rattle.edge_match.proofs.Parts.{decides, followed, stop}
use Rattle.edge_match.specs.FlowParts.{plan_of, task_of}
use Rattle.edge_match.proofs.flows.start_flow.Goals as goal

pub returns-in_err-require-in-Connecting : goal.returns-in_err-require-in-Connecting
returns-in_err-require-in-Connecting c = λ s.
    let at = c.args.at.now in
    let x = data_source (plan_of at) (task_of at) at.number in
    let input = rw c.requires at c.has_input.ensures in
    let failed = c.in_err-require-in-Connecting.ensures.checked (Is (HasInput at.flow.now.kind x)) s s (decides (HasInput at.flow.now.kind x) input) refl in
    rw c.in-Connecting.is (stop _ c.from_residual.ensures.1 failed)

pub returns-in_ok-require-in-Connecting : goal.returns-in_ok-require-in-Connecting
returns-in_ok-require-in-Connecting c = λ s.
    let at = c.args.at.now in
    let x = data_source (plan_of at) (task_of at) at.number in
    let input = rw c.requires at c.has_input.ensures in
    let place = rw c.requires at c.has_place.ensures in
    let first = c.in_ok-require-in-Connecting.ensures.checked (Is (HasInput at.flow.now.kind x)) s s (decides (HasInput at.flow.now.kind x) input) refl in
    rw c.in-Connecting.is (followed first (c.require-in-Connecting.ensures.checked (Is (HasSource x)) s s (decides (HasSource x) place) refl))
