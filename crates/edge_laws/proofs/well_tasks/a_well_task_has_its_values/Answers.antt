use Rattle.edge_laws.proofs.Tasks.{well_iff}
use Rattle.edge_laws.proofs.well_tasks.a_well_task_has_its_values.Goals as goal

pub returns : goal.returns
returns c = well_iff
