-- Consistent jobs: when a plan is consistent, and its counts. Source: PaRSEC (2013): each out edge has its in edge and
-- each in edge its out edge. The limits, and that no place is written twice, are this project's own choice.
-- Carried by: `Matched`, `edge_match::match_edges`.
-- Tested by: `check.txt`.
use Rattle.std.specs.Prelude.{◌≡◌, ◌≢◌, ◌≤◌, ◌↔◌, ◌==◌, ℕ, List, length, map, flat_map, filter, Bool, IsTrue, slice_get, Some}
use Rattle.std.specs.List.{AllByRecursion}
use Rattle.ptg_base.specs.Limits.{most_edges, most_prefixes, most_tasks}
use Rattle.ptg_base.specs.Lists.{IsIn, HasNoRepeats}
use Rattle.ptg_base.specs.Task.{Task}
use Rattle.ptg_base.specs.declared.place.Place.{Place}
use Rattle.ptg_base.specs.declared.edge.Edge.{Edge}
use Rattle.ptg_base.specs.declared.edge.WriteBack.{WriteBack}
use Rattle.ptg_base.specs.declared.edge.Item.{Item}
pub use Rattle.term_core.specs.Kinds.{takes_tile}
use Rattle.range_space.specs.Sound.{IsSound, prefix_total}
use Rattle.plan_core.specs.declared.flow.FlowPlan.{FlowPlan}
use Rattle.plan_core.specs.declared.plan.Plan.{Plan}
use Rattle.plan_core.specs.Kinds.{is_data, kind_of}
use Rattle.plan_core.specs.Place.{HasPlace}
use Rattle.dep_iter.specs.declared.counts.Counts.{Counts}
use Rattle.dep_iter.specs.declared.source.Source.TheVariants as source
use Rattle.dep_iter.specs.Tasks.{all_tasks, flows_of, IsTask}
use Rattle.dep_iter.specs.Edges.{data_source, goal, in_edges}
use Rattle.dep_iter.specs.Items.{item_flow, items, out_edges, write_backs}
use Rattle.dep_iter.specs.Hints.{affinity}
use Rattle.dep_iter.specs.Well.{IsWellTask}

-- what consistency requires of each task
pub record IsWellConnected (P : Plan) (t : Task) : Type 0 where
  -- each expression that it needs has a value
  pub well : IsWellTask P t
  -- each READ and RW flow has an in dependence that holds
  pub inputs : (n : ℕ) (f : FlowPlan) → slice_get (flows_of P t) n ≡ Some f → IsTrue (takes_tile f.kind)
      → data_source P t n ≢ source.Nothing
  -- each place of the affinity, of a source and of a write-back exists
  pub affinity_exists : HasPlace P.colls (affinity P t)
  pub sources_exist : (n : ℕ) (p : Place) → data_source P t n ≡ source.Place p → HasPlace P.colls p
  pub written_exist : (w : WriteBack) → IsIn w (write_backs P t) → HasPlace P.colls w.place
  -- each task of an edge is one of the job
  pub from_tasks : (e : Edge) → IsIn e (in_edges P t) → IsTask P e.from
  pub to_tasks : (e : Edge) → IsIn e (out_edges P t) → IsTask P e.to
  -- a flow whose source is `NULL` sends nothing
  pub absent_sends_nothing : (n : ℕ) (i : Item) → data_source P t n ≡ source.Null → IsIn i (items P t) → item_flow i ≢ n

-- the edges into all tasks, joined in walk order
abbrev pub all_in : Plan → List Edge
all_in P = flat_map (in_edges P) (all_tasks P)

-- the edges out of all tasks, joined in walk order
abbrev pub all_out : Plan → List Edge
all_out P = flat_map (out_edges P) (all_tasks P)

-- the items of all tasks, joined in walk order
abbrev pub all_items : Plan → List Item
all_items P = flat_map (items P) (all_tasks P)

-- the write-backs of all tasks, joined in walk order
abbrev pub all_writes : Plan → List WriteBack
all_writes P = flat_map (write_backs P) (all_tasks P)

-- whether an edge carries a tile
abbrev pub is_data_edge : Plan → Edge → Bool
is_data_edge P e = is_data (kind_of P.classes e.to.class e.in_flow)

-- the edges that carry a tile
abbrev pub all_data : Plan → List Edge
all_data P = filter (is_data_edge P) (all_in P)

-- A consistent plan. Datatypes agree in every plan already (`IsWellMade`). Both flows of a data edge have the same one,
-- and a collection has that of the flows that read or write its tiles.
pub record IsConsistent (P : Plan) : Type 0 where
  -- each definition has a value under each prefix
  pub sound : AllByRecursion IsSound P.spaces
  pub tasks_at_most : length (all_tasks P) ≤ most_tasks
  pub prefixes_at_most : prefix_total P.spaces ≤ most_prefixes
  pub connected : (t : Task) → IsTask P t → IsWellConnected P t
  -- no place is written twice
  pub written_once : HasNoRepeats (map (λ (w : WriteBack). w.place) (all_writes P))
  pub in_edges_at_most : length (all_in P) ≤ most_edges
  pub items_at_most : length (all_items P) ≤ most_edges
  -- no edge occurs twice, and each edge out of a task is an edge into a task, and the other way round
  pub no_in_edge_twice : HasNoRepeats (all_in P)
  pub no_out_edge_twice : HasNoRepeats (all_out P)
  pub same_edges : (e : Edge) → IsIn e (all_in P) ↔ IsIn e (all_out P)

-- the tasks of a list that no edge goes into
abbrev pub roots_among : Plan → List Task → List Task
roots_among P ts = filter (λ t. goal P t == 0) ts

-- the tasks of a job without an edge into them, in walk order
-- Carried by: `Matched::trusted`, `Matched::roots`.
abbrev pub roots : Plan → List Task
roots P = roots_among P (all_tasks P)

-- the counts of a job: its tasks, those without an edge into them, its edges, those that carry a tile, and its
-- write-backs
-- Carried by: `Matched::trusted`, `edge_match::match_edges`.
-- Tested by: `check.txt` for the counts that are printed.
pub record HasCounts (P : Plan) (c : Counts) : Type 0 where
  pub all_tasks : c.tasks ≡ length (all_tasks P)
  pub all_roots : c.roots ≡ length (roots P)
  pub all_edges : c.edges ≡ length (all_in P)
  pub all_data_edges : c.data_edges ≡ length (all_data P)
  pub all_writes : c.writes ≡ length (all_writes P)
