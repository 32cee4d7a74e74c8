-- Greatest legal orders. Source: the usual topological order, extended for as long as some task outside has all its
-- sources in it.
-- Carried by: `order_of`; laws `a_task_outside_has_a_source_outside`, `run_laws::no_legal_order_has_more`,
-- `run_laws::a_greatest_order_has_the_tasks_that_run`.
use Rattle.std.specs.Prelude.{List}
use Rattle.ptg_base.specs.Task.{Task}
use Rattle.plan_core.specs.declared.plan.Plan.{Plan}
use Rattle.flow_meaning.specs.Order.{IsLegalOrder, MayFollow}

-- a legal order after which no task may follow
pub record IsGreatestOrder (P : Plan) (ts : List Task) : Type 0 where
  pub legal : IsLegalOrder P ts
  pub greatest : (t : Task) → MayFollow P ts t → ⊥
