use Rattle.edge_laws.proofs.FaultNames.{class_exists, flow_exists, outer_fewer, task_exists}
use Rattle.edge_laws.proofs.faults.a_first_fault_names_what_exists.Goals as goal

pub returns : goal.returns
returns c = record { class = class_exists; flow = flow_exists; task = task_exists; outer = λ P class values s. outer_fewer P.spaces class values s }
