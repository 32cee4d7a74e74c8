-- The claims of the passes of a table in the order of their stamps; a legal order of what was claimed. Source: the
-- usual topological order; the stamps are this project's own choice.
-- Carried by: `DepTable::close`; law `a_quiet_close_has_an_order_of_what_ran`.
use Rattle.std.specs.Prelude.{◌≡◌, ℕ, List}
use Rattle.std.specs.List.{flat_map}
use Rattle.std.specs.List.Sorted.{IsNonDecreasingBy}
use Rattle.std.specs.Map.{keys_of}
use Rattle.ptg_base.specs.Task.{Task}
use Rattle.plan_core.specs.declared.plan.Plan.{Plan}
use Rattle.list_lemmas.specs.Counting.{HasSameMembers}
use Rattle.flow_meaning.specs.Machine.{MachineState}
use Rattle.flow_meaning.specs.Order.{IsOrderOf}
use Rattle.work_board.specs.declared.record.PassRecord.{PassRecord}
use Rattle.work_board.specs.Stamps.{StampedTask}

-- the stamps that these passes drew, one pass after the other
abbrev pub joined_stamps : List PassRecord → List StampedTask
joined_stamps vs = flat_map (λ (v : PassRecord). v.stamps) vs

-- the stamp of a task
abbrev pub number_of : StampedTask → ℕ
number_of x = x.1

-- These are the tasks of the stamps, in the order of the stamps.
pub record AreInStampOrder (stamps : List StampedTask) (ts : List Task) : Type 0 where
  pub ordered : List StampedTask
  pub same : HasSameMembers ordered stamps
  pub rise : IsNonDecreasingBy number_of ordered
  pub tasks : ts ≡ keys_of ordered

-- These are the tasks that were claimed, in a legal order.
abbrev pub IsClaimOrder : Plan → MachineState → List Task → Type 0
IsClaimOrder P S ts = IsOrderOf P S.claims ts
