-- Orders in which the tasks of a job may run. Source: DAGuE (Parallel Computing, 2012): a task runs after the sources
-- of its edges.
-- Carried by: `trace_replay::replay`, `trace_replay::judge_trace`; laws `a_text_has_one_first_fault`,
-- `run_laws::the_text_of_a_whole_order_has_no_fault`.
-- Tested by: `replay.txt`.
use Rattle.std.specs.Prelude.{List, [], ◌∷◌, ◌++◌, IsTrue}
use Rattle.ptg_base.specs.Lists.{IsIn}
use Rattle.ptg_base.specs.Task.{Task}
use Rattle.ptg_base.specs.declared.edge.Edge.{Edge}
use Rattle.plan_core.specs.declared.plan.Plan.{Plan}
use Rattle.coll_data.specs.Data.{Data}
use Rattle.dep_iter.specs.Edges.{in_edges}
use Rattle.flow_meaning.specs.Backward.{ended}
use Rattle.flow_meaning.specs.Ending.{has_outputs}
use Rattle.flow_meaning.specs.Order.{MayFollow}

-- a task may run after these: it may follow them in a legal order, and no source of an edge into it traps
pub record MayRunAfter (P : Plan) (G : Data) (before : List Task) (t : Task) : Type 0 where
  pub follows : MayFollow P before t
  pub have_outputs : (e : Edge) → IsIn e (in_edges P t) → IsTrue (has_outputs (ended P G e.from))

-- each of the tasks may run after these and those that come before it
abbrev pub MayAllRunAfter : Plan → Data → List Task → List Task → Type 0
MayAllRunAfter P G before [] = Unit {0}
MayAllRunAfter P G before (t ∷ ts) = MayRunAfter P G before t × MayAllRunAfter P G (before ++ t ∷ []) ts
