-- Legal and whole orders of tasks: in a legal order, each task comes after the sources of the edges into it. Source:
-- the usual topological order, for a set of tasks that has all sources of its members.
-- Carried by: laws of `flow_meaning`.
use Rattle.std.specs.Prelude.{List, [], ◌∷◌, ◌++◌}
use Rattle.ptg_base.specs.Lists.{IsIn}
use Rattle.ptg_base.specs.Task.{Task}
use Rattle.ptg_base.specs.declared.edge.Edge.{Edge}
use Rattle.list_lemmas.specs.Counting.{HasSameMembers}
use Rattle.plan_core.specs.declared.plan.Plan.{Plan}
use Rattle.coll_data.specs.Data.{Data}
use Rattle.dep_iter.specs.Tasks.{IsTask}
use Rattle.dep_iter.specs.Edges.{in_edges}
use Rattle.flow_meaning.specs.Answer.{ran}

-- a task of the job may come after these tasks: it is none of them, and the source of each edge into it is one of them
pub record MayFollow (P : Plan) (before : List Task) (t : Task) : Type 0 where
  pub task : IsTask P t
  pub first_time : IsIn t before → ⊥
  pub after_sources : (e : Edge) → IsIn e (in_edges P t) → IsIn e.from before

-- each task of the second list may follow the first list and the tasks before it in the second
abbrev pub IsLegalAfter : Plan → List Task → List Task → Type 0
IsLegalAfter P before [] = Unit {0}
IsLegalAfter P before (t ∷ ts) = MayFollow P before t × IsLegalAfter P (before ++ t ∷ []) ts

-- each task occurs once, after the sources of all edges into it
abbrev pub IsLegalOrder : Plan → List Task → Type 0
IsLegalOrder P ts = IsLegalAfter P [] ts

-- a legal order of these members
pub record IsOrderOf (P : Plan) (members ts : List Task) : Type 0 where
  pub legal : IsLegalOrder P ts
  pub all : HasSameMembers ts members

-- a whole order: a legal order of the tasks that run
abbrev pub IsWholeOrder : Plan → Data → List Task → Type 0
IsWholeOrder P G ts = IsOrderOf P (ran P G) ts
