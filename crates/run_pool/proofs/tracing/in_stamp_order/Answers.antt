use Rattle.std.proofs.Common.{ℕ, rules}
use Rattle.std.proofs.lemmas.List.Sorted.{IsNonDecreasingBy-from_sort, answers_always}
use Rattle.ptg_base.specs.Task.{Task}
use Rattle.run_pool.proofs.Traced.{sorted_tasks}
use Rattle.run_pool.proofs.tracing.in_stamp_order.Goals as goal

pub returns : goal.returns
returns c = sorted_tasks _ _ c.args.log.items c.sort_unstable_by_key.new.self.items c.sort_unstable_by_key.ensures.permutation
    (IsNonDecreasingBy-from_sort (λ (e : ℕ × Task). e.0) _ (c.sort_unstable_by_key.ensures.sorted
    (λ (e : ℕ × Task). e.0) (answers_always _ _ _ (λ f a q g h. search rules)))) c.tasks_of.ensures
