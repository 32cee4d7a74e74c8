-- The locals of a task, on which all expressions of the class are evaluated for the task: those of its edges, its
-- priority and its body. Source: the JDF documentation.
-- Carried by: `locals_of`; law `a_task_has_one_list_of_locals`.
-- Tested by: `edges.txt`.
use Rattle.std.specs.Prelude.{◌≡◌, ℤ, List}
use Rattle.ptg_base.specs.Lists.{IsIn}
use Rattle.term_core.specs.declared.space.ClassSpace.{ClassSpace}
use Rattle.range_space.specs.Tasks.{params_of, all_locals}

-- a full list of locals of the class, in which the parameters have these values
pub record IsLocalsOf (s : ClassSpace) (params locals : List ℤ) : Type 0 where
  pub full : IsIn locals (all_locals s)
  pub same_params : params_of s.params locals ≡ params
