-- What is checked of a plan whose tasks are known, as one list of marks in their order. First, all tasks and their
-- edges exist; then, the edges match. Source: PaRSEC (2013), in which each edge is written at both ends; the order is
-- this project's own choice.
-- Carried by: `match_edges`; laws `a_consistent_plan_has_no_fault`, `edge_laws::a_plan_has_one_first_fault`,
-- `edge_laws::a_plan_is_consistent_or_has_a_first_fault`, `edge_laws::a_first_fault_names_what_exists`.
-- Tested by: `check_codes.txt`, `check_limits.txt`.
use Rattle.std.specs.Prelude.{◌≡◌, ◌≢◌, ◌<◌, ℕ, ℤ, List, [], ◌∷◌, ◌++◌, map, flat_map, length, IsTrue}
use Rattle.std.specs.Prelude.{Option, Some, None, unwrap_or}
use Rattle.ptg_base.specs.Limits.{most_edges}
use Rattle.ptg_base.specs.Lists.{IsIn}
use Rattle.ptg_base.specs.Task.{Task}
use Rattle.ptg_base.specs.declared.place.Place.{Place}
use Rattle.ptg_base.specs.declared.edge.Edge.{Edge}
use Rattle.ptg_base.specs.declared.edge.WriteBack.{WriteBack}
use Rattle.ptg_base.specs.declared.edge.Item.{Item}
use Rattle.ptg_base.specs.declared.edge.Item.TheVariants as item
use Rattle.term_core.specs.declared.flow.FlowKind.{FlowKind}
use Rattle.term_core.specs.declared.direction.Direction.{Direction}
use Rattle.term_core.specs.declared.direction.Direction.TheVariants.{In, Out}
use Rattle.term_core.specs.Kinds.{first_only}
use Rattle.plan_core.specs.declared.flow.DepPlan.{DepPlan}
use Rattle.plan_core.specs.declared.flow.FlowPlan.{FlowPlan}
use Rattle.plan_core.specs.declared.plan.Plan.{Plan}
use Rattle.plan_core.specs.declared.target.Target.{Target}
use Rattle.plan_core.specs.Place.{HasPlace}
use Rattle.plan_core.specs.Flows.{dependences}
use Rattle.dep_iter.specs.declared.source.Source.{Source}
use Rattle.dep_iter.specs.declared.source.Source.TheVariants as source
use Rattle.dep_iter.specs.Tasks.{all_tasks, flows_of, locals_of, IsTask}
use Rattle.dep_iter.specs.Active.{held_targets, by_number}
use Rattle.dep_iter.specs.Edges.{data_source, edges_into}
use Rattle.dep_iter.specs.Items.{items_to}
use Rattle.dep_iter.specs.Directions.{HasOtherEnd, far_task}
use Rattle.dep_iter.specs.Hints.{affinity}
use Rattle.dep_iter.specs.Well.{IsWellTask, ill_part}
use Rattle.dep_iter.specs.Consistent.{takes_tile}
use Rattle.edge_match.specs.declared.phase.Phase.{Phase}
use Rattle.edge_match.specs.declared.phase.Phase.TheVariants.{Connecting, Matching}

-- what is checked of a plan and counts nothing
pub data Fact : Type 0 where
  -- Each expression that the task needs has a value.
  HasValues : Task → Fact
  -- The place exists.
  IsPlace : Place → Fact
  -- A flow of this kind with this source has an in dependence that holds, if it must.
  HasInput : FlowKind → Source → Fact
  -- The place of the source exists, if it is one.
  HasSource : Source → Fact
  -- The task is one of the job.
  IsOfJob : Task → Fact
  -- A flow with this source has a tile to send.
  HasTile : Source → Fact
  -- The task at the other end of the edge, which goes into or out of a task, has the edge too.
  HasOther : Direction → Edge → Fact
  -- The edge is not among these earlier ones.
  IsNewEdge : List Edge → Edge → Fact

-- what is checked of a plan
pub data Check : Type 0 where
  -- A fact holds.
  Is : Fact → Check
  -- The edge into a task is counted: the limit is not reached.
  CountsIn : Edge → Check
  -- The item is counted: the limit is not reached.
  CountsItem : Item → Check
  -- The place was not written before.
  IsNewPlace : Place → Check

-- a check, and the task and the flow that its fault names
pub record Mark : Type 0 where
  pub task : Task
  pub flow : Option ℕ
  pub check : Check

-- the mark of a check at this task and this flow
abbrev pub mark : Task → Option ℕ → Check → Mark
mark t flow c = record { task = t; flow = flow; check = c }

-- the items of flow n of the task t that a target of a dependence in this direction stands for; for `In`, its edges
-- alone
abbrev pub items_at : Direction → Task → List ℤ → ℕ → Target → List Item
items_at In t env n = λ x. map item.Edge (edges_into t env n x)
items_at Out t env n = items_to t env n

-- the items that the active dependences among these, of a flow of this kind, stand for
abbrev pub held_items : Direction → Task → List ℤ → ℕ → FlowKind → List DepPlan → List Item
held_items direction t env n kind ds =
    flat_map (items_at direction t env n) (held_targets (first_only direction kind) ds env)

-- the items of flow n of the task t in one direction
abbrev pub flow_items : Direction → Plan → Task → ℕ → FlowPlan → List Item
flow_items direction P t n f = held_items direction t (locals_of P t) n f.kind (dependences direction f)

-- the mark that flow n of the task t, with this source, has a tile to send
abbrev pub tile_marks : Direction → Source → Task → ℕ → List Mark
tile_marks In s t n = []
tile_marks Out s t n = mark t (Some n) (Is (HasTile s)) ∷ []

-- the check that counts an edge of this direction, unless the limit is reached
abbrev pub counts : Direction → Edge → Check
counts In e = CountsIn e
counts Out e = CountsItem (item.Edge e)

-- the marks of an edge of flow n in each phase. In the first, its other task exists and it is counted; in the second,
-- its other task has it too, and it is new
abbrev pub edge_marks : Direction → List Edge → Edge → Phase → Source → Task → ℕ → List Mark
edge_marks direction earlier e Connecting s t n =
    tile_marks direction s t n ++ mark t (Some n) (Is (IsOfJob (far_task direction e)))
    ∷ mark t (Some n) (counts direction e) ∷ []
edge_marks direction earlier e Matching s t n =
    mark t (Some n) (Is (HasOther direction e)) ∷ mark t (Some n) (Is (IsNewEdge earlier e)) ∷ []

-- the marks of a write-back of flow n in each phase: its place exists, and it is counted and new
abbrev pub write_marks : WriteBack → Phase → Source → Task → ℕ → List Mark
write_marks w Connecting s t n =
    tile_marks Out s t n ++ mark t (Some n) (Is (IsPlace w.place)) ∷ mark t (Some n) (CountsItem (item.Write w))
    ∷ mark t (Some n) (IsNewPlace w.place) ∷ []
write_marks w Matching s t n = []

-- the marks of these items of flow n in each phase, after these earlier edges of the flow
abbrev pub item_marks : Direction → List Edge → List Item → Phase → Source → Task → ℕ → List Mark
item_marks direction earlier [] phase s t n = []
item_marks direction earlier (item.Edge e ∷ is) phase s t n =
    edge_marks direction earlier e phase s t n ++ item_marks direction (earlier ++ e ∷ []) is phase s t n
item_marks direction earlier (item.Write w ∷ is) phase s t n =
    write_marks w phase s t n ++ item_marks direction earlier is phase s t n

-- the marks of a flow itself in each phase: it has a source if it must, and the place of its source exists
abbrev pub flow_start : Phase → Plan → Task → ℕ → FlowPlan → List Mark
flow_start Connecting P t n f =
    mark t (Some n) (Is (HasInput f.kind (data_source P t n)))
    ∷ mark t (Some n) (Is (HasSource (data_source P t n))) ∷ []
flow_start Matching P t n f = []

-- the marks of the edges of a flow in one direction, with the write-backs among what it sends
abbrev pub direction_marks : Direction → Phase → Plan → Task → ℕ → FlowPlan → List Mark
direction_marks direction phase P t n f =
    item_marks direction [] (flow_items direction P t n f) phase (data_source P t n) t n

-- the marks of a flow: the flow itself, then the edges into it, then what it sends
abbrev pub flow_marks : Phase → Plan → Task → ℕ → FlowPlan → List Mark
flow_marks phase P t n f =
    flow_start phase P t n f ++ direction_marks In phase P t n f ++ direction_marks Out phase P t n f

-- the first ill flow of an ill task, if it is a flow that is ill
abbrev pub ill_flow : Plan → Task → Option ℕ
ill_flow P t = unwrap_or (ill_part P t) None

-- the marks of a task itself in each phase: its expressions have values, and the place of its affinity exists
abbrev pub task_start : Phase → Plan → Task → List Mark
task_start Connecting P t =
    mark t (ill_flow P t) (Is (HasValues t)) ∷ mark t None (Is (IsPlace (affinity P t))) ∷ []
task_start Matching P t = []

-- the marks of a task: the task itself, then its flows in the text's order
abbrev pub task_marks : Phase → Plan → Task → List Mark
task_marks phase P t = task_start phase P t ++ by_number (flow_marks phase P t) 0 (flows_of P t)

-- all marks of a phase, in walk order
abbrev pub phase_marks : Phase → Plan → List Mark
phase_marks phase P = flat_map (task_marks phase P) (all_tasks P)

-- the marks of both phases
abbrev pub marks : Plan → List Mark
marks P = phase_marks Connecting P ++ phase_marks Matching P

-- what came before a mark: the edges into tasks and the items that were counted, and the places that were written to
pub record Before : Type 0 where
  pub ins : List Edge
  pub items : List Item
  pub places : List Place

-- Nothing came before.
abbrev pub nothing : Before
nothing = record { ins = []; items = []; places = [] }

-- A fact holds of a plan.
abbrev pub Holds : Plan → Fact → Type 0
Holds P (HasValues t) = IsWellTask P t
Holds P (IsPlace p) = HasPlace P.colls p
Holds P (HasInput kind s) = IsTrue (takes_tile kind) → s ≢ source.Nothing
Holds P (HasSource s) = (p : Place) → s ≡ source.Place p → HasPlace P.colls p
Holds P (IsOfJob t) = IsTask P t
Holds P (HasTile s) = s ≢ source.Null
Holds P (HasOther direction e) = HasOtherEnd direction P e
Holds P (IsNewEdge earlier e) = IsIn e earlier → ⊥

-- A check passes, after what came before.
abbrev pub Passes : Plan → Before → Check → Type 0
Passes P b (Is f) = Holds P f
Passes P b (CountsIn e) = length b.ins < most_edges
Passes P b (CountsItem i) = length b.items < most_edges
Passes P b (IsNewPlace p) = IsIn p b.places → ⊥

-- what came before the mark after a check
abbrev pub add : Before → Check → Before
add b (Is f) = b
add b (CountsIn e) = record b { ins = b.ins ++ e ∷ [] }
add b (CountsItem i) = record b { items = b.items ++ i ∷ [] }
add b (IsNewPlace p) = record b { places = b.places ++ p ∷ [] }

-- All these marks pass, each after what came before it.
abbrev pub AllPass : Plan → Before → List Mark → Type 0
AllPass P b [] = Unit {0}
AllPass P b (m ∷ ms) = Passes P b m.check × AllPass P (add b m.check) ms

-- what came before the first mark after these
abbrev pub add_all : Before → List Mark → Before
add_all b [] = b
add_all b (m ∷ ms) = add_all (add b m.check) ms
