use Rattle.edge_laws.proofs.Tasks.{ins_reached, outs_reached}
use Rattle.edge_laws.proofs.well_tasks.the_active_targets_are_those_that_are_reached.Goals as goal

pub returns : goal.returns
returns c = record {
  ins = ins_reached;
  outs = outs_reached;
}
