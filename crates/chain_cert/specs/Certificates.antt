-- The certificate of a job: a heaviest chain with the levels of all tasks, or a cycle, or neither if a task trapped.
-- Carried by: `certify`; law `cert_check::one_certificate`.
-- Tested by: `certify.txt`, `certificate_chains.txt`, `certificate_cycles.txt`.
use Rattle.std.specs.Prelude.{◌≡◌, ◌≢◌, ℕ, List, []}
use Rattle.std.specs.Map.{keys_of}
use Rattle.ptg_base.specs.Lists.{IsIn}
use Rattle.ptg_base.specs.Task.{Task}
use Rattle.ptg_base.specs.TaskOrder.{in_task_order}
use Rattle.plan_core.specs.declared.plan.Plan.{Plan}
use Rattle.coll_data.specs.Data.{Data}
use Rattle.dep_iter.specs.Tasks.{all_tasks}
use Rattle.flow_meaning.specs.Answer.{ran, trapped}
use Rattle.chain_cert.specs.declared.certificate.Certificate.{Certificate}
use Rattle.chain_cert.specs.declared.certificate.Certificate.TheVariants.{Chain, Cycle, Trapped}
use Rattle.chain_cert.specs.Chains.{HasNoCycle}
use Rattle.chain_cert.specs.Levels.{IsLevel}
use Rattle.chain_cert.specs.Printed.{IsPrintedChain, IsPrintedCycle}

-- all tasks of a job, in task order
abbrev pub tasks_in_order : Plan → List Task
tasks_in_order P = in_task_order (λ t. t) (all_tasks P)

-- the list has each task of the job, in task order
abbrev pub HasTasksInOrder : Plan → List (Task × ℕ) → Type 0
HasTasksInOrder P levels = keys_of levels ≡ tasks_in_order P

-- the level of each task, in task order
pub record AreLevels (P : Plan) (ws : List ℕ) (levels : List (Task × ℕ)) : Type 0 where
  pub tasks : HasTasksInOrder P levels
  pub each : (t : Task) (n : ℕ) → IsIn (t, n) levels → IsLevel P ws t n

-- if no task trapped: the printed chain with the levels, if the job has no cycle, else the printed cycle
abbrev pub IsCertificate : Plan → Data → List ℕ → Certificate → Type 0
IsCertificate P G ws (Chain chain levels) =
    (trapped P G ≡ []) × HasNoCycle P × IsPrintedChain P ws chain × AreLevels P ws levels
IsCertificate P G ws (Cycle cycle) = (trapped P G ≡ []) × IsPrintedCycle P (ran P G) cycle
IsCertificate P G ws Trapped = trapped P G ≢ []
