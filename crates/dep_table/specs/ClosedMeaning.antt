-- What the passes of a table have done together once a run has ended, and what all tasks send. Source: DAGuE (Parallel
-- Computing, 2012): a task runs on what its sources sent, and then satisfies its successors.
-- Carried by: law `a_quiet_close_has_the_meaning`.
use Rattle.std.specs.Prelude.{◌≡◌, List, [], map, flat_map, if◌then◌else◌}
use Rattle.ptg_base.specs.Lists.{IsIn}
use Rattle.ptg_base.specs.Task.{Task}
use Rattle.plan_core.specs.declared.plan.Plan.{Plan}
use Rattle.coll_data.specs.Data.{Data}
use Rattle.dep_iter.specs.Items.{items}
use Rattle.dep_iter.specs.Tasks.{all_tasks}
use Rattle.flow_meaning.specs.Answer.{ran}
use Rattle.flow_meaning.specs.Backward.{ended, inputs}
use Rattle.list_lemmas.specs.Counting.{HasSameMembers}
use Rattle.flow_meaning.specs.Ending.{has_outputs}
use Rattle.flow_meaning.specs.Machine.{MachineState, SentItem, sent_tile}
use Rattle.flow_meaning.specs.Sound.{with_its_tile}
use Rattle.flow_meaning.specs.Starting.{delivered_tiles}

-- what a task sends: its items with their tiles, if it has outputs
abbrev pub sent_by : Plan → Data → Task → List SentItem
sent_by P G t = if has_outputs (ended P G t) then map (with_its_tile P G) (items P t) else []

-- what all tasks send
abbrev pub all_sent : Plan → Data → List SentItem
all_sent P G = flat_map (sent_by P G) (all_tasks P)

-- The tasks that run were claimed, each once, and what all tasks send was sent, each item once. The tiles that were
-- sent to a claimed task are its inputs.
pub record HasTheMeaning (P : Plan) (G : Data) (S : MachineState) : Type 0 where
  pub claims : HasSameMembers S.claims (ran P G)
  pub sends : HasSameMembers S.sends (all_sent P G)
  pub inputs : (t : Task) → IsIn t S.claims → delivered_tiles P (sent_tile S.sends) t ≡ inputs P G t
