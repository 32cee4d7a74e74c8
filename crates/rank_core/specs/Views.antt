-- A world as contracts see it.
-- Carried by: calls of `World`.
use Rattle.std.specs.Prelude.{ℕ}
use Rattle.ptg_base.specs.Task.{Task}
use Rattle.plan_core.specs.declared.plan.Plan.{Plan}
use Rattle.coll_data.specs.Data.{Data}
use Rattle.rank_core.specs.World.{WorldState, after_delivery, after_run, opening_world}

-- the job that it runs, the number of its ranks, and what has happened
pub record WorldView : Type 0 where
  pub plan : Plan
  pub given : Data
  pub ranks : ℕ
  pub state : WorldState

-- a world of a job in which nothing has happened
abbrev pub opened : Plan → Data → ℕ → WorldView
opened P G r = record { plan = P; given = G; ranks = r; state = opening_world }

-- a world after a task has run
abbrev pub with_run : Task → WorldView → WorldView
with_run t w =
    record { plan = w.plan; given = w.given; ranks = w.ranks; state = after_run w.plan w.given w.ranks w.state t }

-- a world after the message of this number was delivered
abbrev pub with_delivery : ℕ → WorldView → WorldView
with_delivery n w = record { plan = w.plan; given = w.given; ranks = w.ranks; state = after_delivery w.state n }
