-- The greatest level of rows, and the row of a task.
use Rattle.std.proofs.Common.{ℕ, ◌≤◌, List, [], ◌∷◌, ap, sym, subst, inl, inr, arith}
use Rattle.ptg_base.specs.Lists.{IsIn}
use Rattle.ptg_base.specs.Task.{Task}
use Rattle.plan_core.specs.declared.plan.Plan.{Plan}
use Rattle.list_lemmas.proofs.Members.{from_map}
use Rattle.dep_iter.specs.Tasks.{IsTask}
use Rattle.chain_cert.specs.Certificates.{HasTasksInOrder}
use Rattle.chain_cert.specs.Checked.{greatest_level}
use Rattle.chain_cert.proofs.TaskSorting.{order_task}

-- no row has more than the greatest level
pub at_most_greatest : (rows : List (Task × ℕ)) (row : Task × ℕ) → IsIn row rows → row.1 ≤ greatest_level rows
at_most_greatest [] row i = absurd i
at_most_greatest (r ∷ rs) row i = elim i [
  | inl e ↦ omega (arith, ap (λ (x : Task × ℕ). x.1) e)
  | inr later ↦ omega (arith, at_most_greatest rs row later)
]

module _ (P : Plan) (ws : List ℕ) (levels : List (Task × ℕ)) (order : HasTasksInOrder P levels) where
  -- each task has a row
  pub row_of : (t : Task) → IsTask P t → (n : ℕ) × IsIn (t, n) levels
  row_of t job =
      let p = from_map (λ (row : Task × ℕ). row.0) levels t ((order_task P levels order t).1 job) in
      (p.0.1, subst (λ (row : Task × ℕ). IsIn row levels) (λ i. (sym p.2 i, p.0.1)) p.1)
