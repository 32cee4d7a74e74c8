-- How many edges have arrived at each task, as a table that a run keeps. Source: DAGuE (Parallel Computing, 2012),
-- where an entry counts the dependences that have come.
use Rattle.std.specs.Prelude.{◌≡◌, ℕ, List, Bool, false, Option, None}
use Rattle.std.specs.Map.{lookup}
use Rattle.ptg_base.specs.Task.{Task}
use Rattle.ptg_base.specs.TaskComparing.{same_task}
use Rattle.ptg_base.specs.declared.edge.Item.{Item}
use Rattle.ptg_base.specs.declared.edge.Item.TheVariants as item
use Rattle.list_lemmas.specs.Counting.{count}
use Rattle.flow_meaning.specs.Ending.{Ended}
use Rattle.flow_meaning.specs.Machine.{SentItem}
use Rattle.flow_meaning.specs.Numbers.{number_for}

-- whether an item is an edge into the task
abbrev pub is_edge_to : Task → Item → Bool
is_edge_to t (item.Edge e) = same_task t e.to
is_edge_to t (item.Write w) = false

-- how many of the items that were sent are edges into the task
abbrev pub edge_count_to : Task → List SentItem → ℕ
edge_count_to t sends = count (λ (x : SentItem). is_edge_to t x.item) sends

-- the table has the number of edges that were sent to each task that is not claimed
abbrev pub CountsArrivals : List (Task × ℕ) → List (Task × Option Ended) → List SentItem → Type 0
CountsArrivals table claims sends =
    (t : Task) → lookup (same_task t) claims ≡ None → number_for table t ≡ edge_count_to t sends
