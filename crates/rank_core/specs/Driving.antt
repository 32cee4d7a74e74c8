-- A world that is driven until nothing more can happen: where its events lead, and how many turns are left.
-- Carried by: `drive` (`events`).
-- Tested by: `run_orders`.
use Rattle.std.specs.Prelude.{◌≡◌, ℕ, ◌+◌, ◌-◌, List, length, not}
use Rattle.ptg_base.specs.Task.{Task}
use Rattle.plan_core.specs.declared.plan.Plan.{Plan}
use Rattle.dep_iter.specs.Tasks.{all_tasks}
use Rattle.list_lemmas.specs.Counting.{count, weigh}
use Rattle.rank_core.specs.declared.message.Message.{Message}
use Rattle.rank_core.specs.World.{HappenIn, WorldEvent, edges_between, is_delivered}
use Rattle.rank_core.specs.Views.{WorldView}

-- some events lead from a world to another one, of the same job and of as many ranks
pub record IsLaterWorld (old new : WorldView) : Type 0 where
  pub plan : new.plan ≡ old.plan
  pub given : new.given ≡ old.given
  pub ranks : new.ranks ≡ old.ranks
  pub events : List WorldEvent
  pub happen : HappenIn old.plan old.given old.ranks events old.state new.state

-- the most turns that a task takes: one to run, and one for each message that it may send
abbrev pub turns_of : Plan → ℕ → Task → ℕ
turns_of P r t = 1 + length (edges_between P r t)

-- the most turns that are left: those of the tasks that have not run, and one for each message that was not delivered
unfoldable pub turns_left : WorldView → ℕ
turns_left w =
    (weigh (turns_of w.plan w.ranks) (all_tasks w.plan) - weigh (turns_of w.plan w.ranks) w.state.machine.claims)
    + count (λ (m : Message). not (is_delivered w.state.machine m)) w.state.messages
