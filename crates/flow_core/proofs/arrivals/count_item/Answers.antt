use Rattle.std.proofs.Common.{ap, refl, ◌∙◌}
use Rattle.ptg_base.specs.TaskLaws.{same_task-decides}
use Rattle.flow_core.specs.Arrivals.{is_edge_to}
use Rattle.flow_core.proofs.arrivals.count_item.Goals as goal

pub add_one-requires-clause-at_most : goal.add_one-requires-clause-at_most
add_one-requires-clause-at_most c =
    let t = c.in-Edge.e.to in
    c.requires.at_most t (ap (is_edge_to t) c.in-Edge.is ∙ (same_task-decides t t).1 refl)
