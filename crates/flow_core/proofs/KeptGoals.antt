-- The goals that are kept, after one is added and after one is removed.
use Rattle.std.proofs.Common.{◌≡◌, ℕ, cond, List, ap, sym, ◌∙◌, Some}
use Rattle.std.specs.Map.{lookup}
use Rattle.ptg_base.specs.Task.{Task}
use Rattle.ptg_base.specs.TaskComparing.{same_task}
use Rattle.ptg_base.specs.TaskLaws.{same_task-decides}
use Rattle.list_lemmas.proofs.Truth.{by_test}
use Rattle.plan_core.specs.declared.plan.Plan.{Plan}
use Rattle.dep_iter.specs.Edges.{goal}
use Rattle.flow_core.specs.Goals.{AreGoals}

pub goal_kept : (P : Plan) (old new : List (Task × ℕ)) (key t : Task) (n : ℕ) → AreGoals P old → key ≡ t → n ≡ goal P t
    → ((u : Task) → lookup (same_task u) new ≡ cond (same_task key u) (Some n) (lookup (same_task u) old)) → AreGoals P new
goal_kept P old new key t n are same is up u k h =
    by_test (same_task key u)
    (λ q.
    let one : t ≡ u = sym same ∙ (same_task-decides key u).0 q in
    let there : Some n ≡ Some k = sym (up u ∙ ap (λ b. cond b (Some n) (lookup (same_task u) old)) q) ∙ h in
    let number : n ≡ k = cc in
    sym number ∙ is ∙ ap (goal P) one)
    (λ q. are u k (sym (up u ∙ ap (λ b. cond b (Some n) (lookup (same_task u) old)) q) ∙ h))
