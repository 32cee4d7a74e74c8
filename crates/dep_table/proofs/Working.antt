-- A worker's pass, and the targets of edges.
use Rattle.std.proofs.Common.{◌≡◌, [], ◌∷◌, sym, ◌∙◌, subst, refl}
use Rattle.ptg_base.specs.Lists.{IsIn}
use Rattle.ptg_base.specs.Task.{Task}
use Rattle.ptg_base.specs.declared.edge.Edge.{Edge}
use Rattle.ptg_base.specs.declared.edge.Item.{Item}
use Rattle.ptg_base.specs.declared.edge.Item.TheVariants as item
use Rattle.plan_core.specs.declared.plan.Plan.{Plan}
use Rattle.dep_iter.specs.Consistent.{IsConsistent}
use Rattle.dep_iter.specs.Items.{edge_of, items}
use Rattle.dep_iter.specs.Tasks.{IsTask}
use Rattle.flow_meaning.specs.Machine.{sender}
use Rattle.list_lemmas.proofs.Members.{IsIn-filter_map}
use Rattle.dep_table.specs.declared.table.DepTable.{DepTable}
use Rattle.dep_table.specs.Boards.{IsWorkerPass}
use Rattle.dep_table.specs.Passes.{IsPassOf}
use Rattle.dep_table.specs.Tables.{id_of}
use Rattle.dep_table.specs.Views.{PassView, shown}

-- the target of an edge out of a task is a task
pub target_is_task : (P : Plan) → IsConsistent P → (i : Item) (e : Edge) → i ≡ item.Edge e → IsTask P (sender i) → IsIn i (items P (sender i)) → IsTask P e.to
target_is_task P con i e is = subst (λ x. IsTask P (sender x) → IsIn x (items P (sender x)) → IsTask P e.to) (sym is)
    (λ task among. (con.connected e.from task).to_tasks e (IsIn-filter_map edge_of (items P e.from) (item.Edge e) e among refl))

-- a clean pass that runs nothing is a worker's pass
pub idle_works : (b : DepTable) (q : PassView) → IsPassOf (id_of b) q → (shown q).running ≡ [] → IsWorkerPass b q
idle_works b q of idle = record { of = of; task = λ t runs. absurd (nothing (sym idle ∙ runs)) }
  where
    nothing : {t : Task} → [] ≡ t ∷ [] → ⊥
    nothing e = cc
