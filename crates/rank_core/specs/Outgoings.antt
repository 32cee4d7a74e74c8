-- What is added to what a task will send.
use Rattle.std.specs.Prelude.{◌≡◌, ◌+◌, ◌++◌, [], ◌∷◌}
use Rattle.ptg_base.specs.declared.edge.Edge.{Edge}
use Rattle.plan_core.specs.declared.plan.Plan.{Plan}
use Rattle.rank_core.specs.declared.message.Message.{Message}
use Rattle.rank_core.specs.declared.room.Outgoing.{Outgoing}
use Rattle.rank_core.specs.RunningTasks.{HasShape}

-- a message of this edge, with a blank tile
pub record AddsBlank (P : Plan) (e : Edge) (old new : Outgoing) : Type 0 where
  pub message : Message
  pub edge : message.edge ≡ e
  pub shape : HasShape P message
  pub messages : new.messages.items ≡ old.messages.items ++ message ∷ []
  pub within : new.within ≡ old.within

-- an edge that stays within the rank
pub record AddsWithin (old new : Outgoing) : Type 0 where
  pub messages : new.messages.items ≡ old.messages.items
  pub within : new.within ≡ old.within + 1
