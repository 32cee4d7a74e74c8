-- How many edges a table says are lacking, after an edge has come.
use Rattle.std.proofs.Common.{◌≡◌, ℕ, ◌+◌, ◌<◌, true, false, cond, List, ap, sym, ◌∙◌, Option, Some, None, arith}
use Rattle.std.proofs.lemmas.Bool.{false≢true, false_from_ne_true}
use Rattle.std.specs.Prelude.{unwrap_or}
use Rattle.std.specs.Map.{lookup, set_value}
use Rattle.ptg_base.specs.Task.{Task}
use Rattle.ptg_base.specs.TaskComparing.{same_task}
use Rattle.ptg_base.specs.TaskLaws.{same_task-decides}
use Rattle.list_lemmas.proofs.Truth.{by_test}
use Rattle.plan_core.specs.declared.plan.Plan.{Plan}
use Rattle.dep_iter.specs.Edges.{goal}
use Rattle.list_lemmas.specs.Counting.{as_number}
use Rattle.list_lemmas.proofs.Lookups.{apart, set_other, set_same, turned}
use Rattle.chain_cert.specs.Growing.{lacking}

module _ (P : Plan) where
  number_is : (table : List (Task × ℕ)) (u : Task) (o : Option ℕ) → lookup (same_task u) table ≡ o → lacking P table u ≡ unwrap_or o (goal P u)
  number_is table u o e = ap (λ x. unwrap_or x (goal P u)) e

  -- the number of a task was lowered
  pub lowered : (old new : List (Task × ℕ)) (t u : Task) (left : ℕ) → lookup (same_task t) old ≡ Some (left + 1)
      → new ≡ set_value (same_task t) old left → lacking P new u + as_number (same_task u t) ≡ lacking P old u
  lowered old new t u left was is =
      by_test (same_task u t)
      (λ k.
      let same : u ≡ t = (same_task-decides u t).0 k in
      let before : lacking P old u ≡ left + 1 = ap (lacking P old) same ∙ number_is old t (Some (left + 1)) was in
      let after : lacking P new u ≡ left = ap (lacking P new) same
      ∙ number_is new t (Some left) (ap (lookup (same_task t)) is ∙ set_same (same_task t) old (left + 1) left was)
      in
      omega (arith, before, after, ap as_number k))
      (λ k.
      let after : lacking P new u ≡ lacking P old u = ap (λ o. unwrap_or o (goal P u))
      (ap (lookup (same_task u)) is ∙ set_other (same_task t) (same_task u) (apart t u (turned u t k)) old left) in
      omega (arith, after, ap as_number k))

  -- a task was entered, with one edge fewer than go into it
  pub entered : (old new : List (Task × ℕ)) (t key u : Task) (left : ℕ) → key ≡ t → lookup (same_task t) old ≡ None
      → left + 1 ≡ goal P t → lookup (same_task u) new ≡ cond (same_task key u) (Some left) (lookup (same_task u) old)
      → lacking P new u + as_number (same_task u t) ≡ lacking P old u
  entered old new t key u left is none few up =
      by_test (same_task u t)
      (λ k.
      let same : u ≡ t = (same_task-decides u t).0 k in
      let hit : same_task key u ≡ true = (same_task-decides key u).1 (is ∙ sym same) in
      let before : lacking P old u ≡ goal P t = ap (lacking P old) same ∙ number_is old t None none in
      let after : lacking P new u ≡ left = number_is new u (Some left) (up ∙ ap (λ b. cond b (Some left) (lookup (same_task u) old)) hit) in
      omega (arith, before, after, few, ap as_number k))
      (λ k.
      let miss : same_task key u ≡ false = false_from_ne_true (same_task key u)
      (λ h. false≢true (sym k ∙ (same_task-decides u t).1 (sym ((same_task-decides key u).0 h) ∙ is))) in
      let after : lacking P new u ≡ lacking P old u = ap (λ o. unwrap_or o (goal P u)) (up ∙ ap (λ b. cond b (Some left) (lookup (same_task u) old)) miss) in
      omega (arith, after, ap as_number k))

  -- if a task without an entry lacks edges, edges go into it
  pub some_go : (old : List (Task × ℕ)) (t : Task) → lookup (same_task t) old ≡ None → 0 < lacking P old t → 0 < goal P t
  some_go old t none h = omega (arith, number_is old t None none)
