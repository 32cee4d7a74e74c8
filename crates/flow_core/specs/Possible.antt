-- What the steps of a send find and need.
use Rattle.std.specs.Prelude.{◌≡◌, ◌≤◌, Bool, false, is_some, IsTrue, Some, None, Ok}
use Rattle.ptg_base.specs.Limits.{most_edges}
use Rattle.ptg_base.specs.Lists.{IsIn}
use Rattle.ptg_base.specs.Task.{Task}
use Rattle.ptg_base.specs.declared.edge.Item.{Item}
use Rattle.ptg_base.specs.declared.edge.Item.TheVariants as item
use Rattle.plan_core.specs.declared.plan.Plan.{Plan}
use Rattle.dep_iter.specs.Items.{items}
use Rattle.flow_meaning.specs.Ending.{has_outputs}
use Rattle.flow_meaning.specs.Machine.{sender}
use Rattle.flow_core.specs.RunState.{RunState, KeepsTiles, Tiles, end_of, mark_of}
use Rattle.flow_core.specs.Arrivals.{edge_count_to, is_edge_to}

-- the task of an item has ended without a trap, and the tiles that it left are kept
pub record KeepsTilesFor (r : RunState) (i : Item) : Type 0 where
  pub tiles : Tiles
  pub end : end_of r (sender i) ≡ Some (Ok tiles)
  pub kept : KeepsTiles r (sender i) tiles

-- if an item is an edge, its target is not claimed, and no more edges were sent to it than a job may have
abbrev pub GoesToWaiting : RunState → Item → Type 0
GoesToWaiting r i = (u : Task) → IsTrue (is_edge_to u i) → (mark_of r u ≡ None) × (edge_count_to u r.sends ≤ most_edges)

-- whether an item is an edge to a claimed task
abbrev pub goes_to_claimed : RunState → Item → Bool
goes_to_claimed r (item.Edge e) = is_some (mark_of r e.to)
goes_to_claimed r (item.Write w) = false

-- an item is an output: it is one of a task that has ended without a trap
pub record IsOutputItem (P : Plan) (r : RunState) (i : Item) : Type 0 where
  pub outputs : IsTrue (has_outputs (end_of r (sender i)))
  pub is_item : IsIn i (items P (sender i))
