-- The answer of a job from a quiescent state of the event machine: from how the claimed tasks end, what was written
-- back and which tasks wait.
-- Carried by: laws of `flow_meaning`.
use Rattle.std.specs.Prelude.{ℤ, List, [], ◌∷◌, length, flat_map, Bool, Option, None, if◌then◌else◌}
use Rattle.ptg_base.specs.TaskOrder.{in_task_order}
use Rattle.ptg_base.specs.declared.place.Place.{Place}
use Rattle.ptg_base.specs.declared.edge.WriteBack.{WriteBack}
use Rattle.plan_core.specs.declared.plan.Plan.{Plan}
use Rattle.coll_data.specs.Data.{Data}
use Rattle.dep_iter.specs.Tasks.{all_tasks}
use Rattle.flow_meaning.specs.declared.outcome.TrapRow.{TrapRow}
use Rattle.flow_meaning.specs.declared.outcome.Outcome.{Outcome}
use Rattle.flow_meaning.specs.Answer.{answer_from, trap_rows}
use Rattle.flow_meaning.specs.Final.{replaced_data}
use Rattle.flow_meaning.specs.Machine.{MachineState, end_in}
use Rattle.flow_meaning.specs.Table.{waiting_rows, written}

-- the claimed tasks that trap, in task order
unfoldable pub state_traps : Plan → Data → MachineState → List TrapRow
state_traps P G S = in_task_order (λ (r : TrapRow). r.task) (flat_map (λ t. trap_rows t (end_in P G S t)) S.claims)

-- the tile that came with the first of these write-backs whose place passes a test
abbrev pub first_written : (Place → Bool) → List (WriteBack × Option (List ℤ)) → Option (List ℤ)
first_written here [] = None
first_written here (w ∷ ws) = if here w.0.place then w.1 else first_written here ws

-- the data with the tile of each place replaced by what was written back to it, if anything was
unfoldable pub state_data : Data → MachineState → Data
state_data G S = replaced_data (λ here. first_written here (written S)) G

-- the answer, given the rows of the tasks that trap
abbrev pub state_answer_by : Plan → Data → MachineState → List TrapRow → Outcome
state_answer_by P G S rows =
    answer_from rows (length S.claims) (length (all_tasks P)) (waiting_rows P S) (state_data G S)

-- the answer of a job from a quiescent state
unfoldable pub state_answer : Plan → Data → MachineState → Outcome
state_answer P G S = state_answer_by P G S (state_traps P G S)
