-- Sound worlds, and how many messages a job has.
-- Carried by: laws `a_quiet_world_has_the_meaning`, `run_laws::events_keep_worlds_sound`.
-- Tested by: `ranks.txt`.
use Rattle.std.specs.Prelude.{◌≡◌, ℕ, ◌&&◌, flat_map, IsTrue}
use Rattle.ptg_base.specs.Lists.{IsIn}
use Rattle.ptg_base.specs.Task.{Task}
use Rattle.ptg_base.specs.declared.edge.Edge.{Edge}
use Rattle.ptg_base.specs.declared.edge.Item.{Item}
use Rattle.plan_core.specs.declared.plan.Plan.{Plan}
use Rattle.coll_data.specs.Data.{Data}
use Rattle.dep_iter.specs.Consistent.{all_in}
use Rattle.list_lemmas.specs.Counting.{count}
use Rattle.flow_meaning.specs.Ending.{has_outputs}
use Rattle.flow_meaning.specs.Backward.{ended}
use Rattle.flow_meaning.specs.Machine.{is_sent}
use Rattle.flow_meaning.specs.Sound.{IsSoundState}
use Rattle.rank_core.specs.World.{WorldState, is_between, items_within, messages_by}

-- a sound world of r ranks
pub record IsSoundWorld (P : Plan) (G : Data) (r : ℕ) (w : WorldState) : Type 0 where
  -- its state of the event machine is sound
  pub state : IsSoundState P G w.machine
  -- the items within its rank of a task that ran and has outputs were sent
  pub within : (t : Task) (i : Item) → IsIn t w.machine.claims → IsTrue (has_outputs (ended P G t))
      → IsIn i (items_within P r t) → IsTrue (is_sent w.machine i)
  -- the messages are those of the tasks that ran, in the order in which they ran
  pub messages : w.messages ≡ flat_map (λ t. messages_by P r t (ended P G t)) w.machine.claims

-- how many messages a run of a job by r ranks sends: as many as there are edges between two ranks whose source has
-- outputs
unfoldable pub message_count : Plan → Data → ℕ → ℕ
message_count P G r = count (λ (e : Edge). has_outputs (ended P G e.from) && is_between P r e) (all_in P)
