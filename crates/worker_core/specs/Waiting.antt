-- Items of a task that wait for the turn of their shard.
use Rattle.std.specs.Prelude.{◌≡◌, ℕ, List, map}
use Rattle.ptg_base.specs.Lists.{IsIn}
use Rattle.ptg_base.specs.Task.{Task}
use Rattle.ptg_base.specs.declared.edge.Item.{Item}
use Rattle.work_board.specs.Sends.{shard_of_item}
use Rattle.worker_core.specs.declared.waiting.WaitingItem.{WaitingItem}

-- the largest number of items that wait
abbrev pub most_waiting : ℕ
most_waiting = 4

-- the items that wait, the oldest first
abbrev pub items_of : List WaitingItem → List Item
items_of waiting = map (λ (x : WaitingItem). x.item) waiting

-- each item that waits has the number of the shard that handles it; `of` is the shard of each task
abbrev pub AreOfTheirShards : (Task → ℕ) → List WaitingItem → Type 0
AreOfTheirShards of waiting = (x : WaitingItem) → IsIn x waiting → x.shard ≡ shard_of_item of x.item
