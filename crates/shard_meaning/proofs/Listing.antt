-- Members, counts and weights of lists.
use Rattle.std.proofs.Common.{◌≡◌, ℕ, ◌+◌, ◌<◌, cond, List, [], ◌∷◌, ap, arith}
use Rattle.ptg_base.specs.Task.{Task}
use Rattle.ptg_base.specs.TaskComparing.{same_task}
use Rattle.ptg_base.specs.TaskLaws.{same_task-decides}
use Rattle.list_lemmas.proofs.Truth.{by_test}
use Rattle.list_lemmas.specs.Counting.{as_number, count, weigh}
use Rattle.shard_meaning.specs.Moment.{without_task}

-- the weight of a list without one of its tasks
pub weigh-without : (f : Task → ℕ) (t : Task) (ts : List Task) → 0 < count (same_task t) ts → weigh f (without_task t ts) + f t ≡ weigh f ts
weigh-without f t [] h = absurd (omega arith)
weigh-without f t (u ∷ us) h =
    by_test (same_task t u)
    (λ k. omega (arith, ap (λ b. weigh f (cond b us (u ∷ without_task t us))) k, ap f ((same_task-decides t u).0 k)))
    (λ k. omega (arith, ap (λ b. weigh f (cond b us (u ∷ without_task t us))) k, weigh-without f t us (omega (arith, ap as_number k))))
