-- What a pass may give a turn back with.
use Rattle.std.specs.Prelude.{◌++◌, ◌⊎◌, ◌≡◌, ℕ, ℤ, ◌<◌, List, [], ◌∷◌, Option, None}
use Rattle.ptg_base.specs.Entry.{FlowTile}
use Rattle.ptg_base.specs.Task.{Task}
use Rattle.ptg_base.specs.declared.edge.Item.{Item}
use Rattle.ptg_base.specs.declared.edge.Item.TheVariants as item
use Rattle.term_core.specs.declared.trap.Trap.{Trap}
use Rattle.plan_core.specs.declared.plan.Plan.{Plan}
use Rattle.dep_shard.specs.Content.{Content, Ends, IsUnchanged, KeepsEntriesAndWritten, KeepsSpares, Takes, Uses}
use Rattle.list_lemmas.specs.Counting.{as_number}
use Rattle.flow_meaning.specs.Machine.{sender}
use Rattle.shard_calls.specs.Taken.{TakesEdge, TakesWrite}
use Rattle.work_board.specs.Sends.{IsNext, MayEnd, MayTrap, shard_of_item}
use Rattle.table_rule.specs.declared.table_job.TableJob.{TableJob}
use Rattle.table_rule.specs.Live.{own_stamps}
use Rattle.table_rule.specs.Plays.{HasTurn, Seated, fires}
use Rattle.table_rule.specs.Rule.{placement_of}

-- a pass may give the turn of the shard k back without an event: nothing changed there but spares that grew
pub record MayGiveBack (k : ℕ) (m : Seated) : Type 0 where
  pub before : Content
  pub after : Content
  pub turn : HasTurn m k before after 0
  pub same : IsUnchanged before after
  pub spares : KeepsSpares before.spare after.spare

-- a pass may give the turn of the shard k back with a claim: the ready entry of the task was taken out
pub record MayGiveClaim (k : ℕ) (t : Task) (tiles : List FlowTile) (m : Seated) : Type 0 where
  pub before : Content
  pub after : Content
  pub turn : HasTurn m k before after 0
  pub takes : Takes before after t tiles
  pub spares : KeepsSpares before.spare after.spare

-- how an item changes its shard
abbrev pub TakesItem : Plan → Item → Option (List ℤ) → Content → Content → Type 0
TakesItem P (item.Edge e) tile old new = TakesEdge P e tile old new
TakesItem P (item.Write w) tile old new = TakesWrite P w tile old new

-- the credit that a send spends: one if its target fires, else none
abbrev pub spends : Plan → Content → Item → ℕ
spends P y (item.Edge e) = as_number (fires P y e)
spends P y (item.Write w) = 0

-- A pass may give the turn of the shard k back with a send. The shard took the pass's next item, whose sender has its
-- stamp, and the pass has the credit that the send spends.
pub record MayGiveSend (j : TableJob) (k : ℕ) (i : Item) (tile : Option (List ℤ)) (m : Seated) : Type 0 where
  pub before : Content
  pub after : Content
  pub turn : HasTurn m k before after (spends j.matched before i)
  pub next : IsNext j.matched j.given i tile m.0
  pub at : shard_of_item (placement_of j) i ≡ k
  pub stamped : 0 < own_stamps m.0 (sender i)
  pub takes : TakesItem j.matched i tile before after

-- a pass may give the turn of the shard k back with the end of its running task after all its items
pub record MayGiveEndAfterItems (j : TableJob) (k : ℕ) (t : Task) (m : Seated) : Type 0 where
  pub before : Content
  pub after : Content
  pub turn : HasTurn m k before after 0
  pub may : MayEnd j.matched j.given t m.0
  pub ends : Ends before after
  pub kept : KeepsEntriesAndWritten before after
  pub trapped : after.trapped ≡ before.trapped
  pub spares : KeepsSpares before.spare after.spare

-- a pass may give the turn of the shard k back with the end of its running task by a trap, whose row is added
pub record MayGiveEndByTrap (j : TableJob) (k : ℕ) (t : Task) (m : Seated) : Type 0 where
  pub before : Content
  pub after : Content
  pub cause : Trap
  pub turn : HasTurn m k before after 0
  pub may : MayTrap j.matched j.given t cause m.0
  pub ends : Ends before after
  pub kept : KeepsEntriesAndWritten before after
  pub trapped : after.trapped ≡ before.trapped ++ (t, cause) ∷ []
  pub spares : Uses before.spare after.spare 0 None 0 1

-- a pass may give the turn of the shard k back with the end of a task of that shard, which has its stamp
pub record MayGiveEnd (j : TableJob) (k : ℕ) (m : Seated) : Type 0 where
  pub task : Task
  pub at : placement_of j task ≡ k
  pub stamped : 0 < own_stamps m.0 task
  pub how : MayGiveEndAfterItems j k task m ⊎ MayGiveEndByTrap j k task m
