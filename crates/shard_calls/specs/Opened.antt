-- How shards are opened: they get a ready entry of each task that no edge goes into. Source: DAGuE (Parallel Computing,
-- 2012): a task without dependences may run at once.
-- Carried by: `opened_shards`, `opened_ranks`.
use Rattle.std.specs.Prelude.{◌≡◌, ℕ, ℤ, List, [], ◌∷◌, ◌++◌, length, slice_get, Some, None}
use Rattle.ptg_base.specs.Entry.{Entry}
use Rattle.ptg_base.specs.Lists.{IsIn}
use Rattle.ptg_base.specs.Task.{Task}
use Rattle.plan_core.specs.declared.plan.Plan.{Plan}
use Rattle.dep_shard.specs.Content.{Content, IsNew, KeepsAllButEntries, Updates, entry_of, fresh}
use Rattle.list_lemmas.specs.Changes.{ChangesAt}
use Rattle.shard_meaning.specs.Opening.{IsOpenedFor, IsOpeningShard}
use Rattle.shard_meaning.specs.Placing.{home_of, shard_of}
use Rattle.shard_meaning.specs.Share.{Placement}
use Rattle.shard_calls.specs.declared.placing.SharedTo.{SharedTo}
use Rattle.shard_calls.specs.declared.placing.SharedTo.TheVariants as to

-- Each shard is opened for these tasks.
abbrev pub AreOpened : Plan → Placement → List Task → List Content → Type 0
AreOpened P of ts ys = (k : ℕ) (y : Content) → slice_get ys k ≡ Some y → IsOpenedFor P of k (λ t. IsIn t ts) y

-- From old to new the shard of a task got its entry, if no edge goes into it, given that the shards had the entries of
-- the tasks before it.
pub record Opens (P : Plan) (of : Placement) (t : Task) (old new : List Content) : Type 0 where
  pub count : length new ≡ length old
  pub opened : (done : List Task) → AreOpened P of done old → AreOpened P of (done ++ t ∷ []) new

-- A ready entry of the task is entered. If the task has an entry, that one stays.
pub record EntersIn (t : Task) (priority : ℤ) (old new : Content) : Type 0 where
  pub first : entry_of old t ≡ None → Updates old.entries new.entries t (Some (fresh 0 priority))
  pub again : (e : Entry) → entry_of old t ≡ Some e → new.entries ≡ old.entries
  pub rest : KeepsAllButEntries old new

-- A ready entry of the task is entered into the shard k, and the other shards stay.
abbrev pub Enters : ℕ → Task → ℤ → List Content → List Content → Type 0
Enters k t priority old new = ChangesAt (EntersIn t priority) k old new

-- this many new shards, with tiles of these lengths
pub record AreNew (n : ℕ) (lengths : List ℕ) (ys : List Content) : Type 0 where
  pub count : length ys ≡ n
  pub each : (k : ℕ) (y : Content) → slice_get ys k ≡ Some y → IsNew y lengths

-- where a task belongs among the shards of a table, or among the ranks of a world
abbrev pub placement_by : SharedTo → Plan → ℕ → Placement
placement_by to.Shards P n = shard_of P n
placement_by to.Ranks P n = home_of P n

-- this many shards, opened: each has the ready entries of its own tasks that no edge goes into
pub record AreOpening (P : Plan) (of : Placement) (n : ℕ) (ys : List Content) : Type 0 where
  pub count : length ys ≡ n
  pub each : (k : ℕ) (y : Content) → slice_get ys k ≡ Some y → IsOpeningShard P of k y

-- the shards of a table, opened
abbrev pub AreOpeningShards : Plan → ℕ → List Content → Type 0
AreOpeningShards P n ys = AreOpening P (shard_of P n) n ys

-- the shards of ranks, opened
abbrev pub AreOpeningRanks : Plan → ℕ → List Content → Type 0
AreOpeningRanks P n ys = AreOpening P (home_of P n) n ys
