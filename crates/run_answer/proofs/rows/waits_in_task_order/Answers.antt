use Rattle.std.proofs.Common.{rules, ◌∙◌}
use Rattle.flow_meaning.specs.declared.outcome.WaitRow.{WaitRow}
use Rattle.run_answer.proofs.Sorting.{sorted_from_sort_by}
use Rattle.run_answer.proofs.rows.waits_in_task_order.Goals as goal

pub returns : goal.returns
returns c =
    c.of.ensures
    ∙ sorted_from_sort_by (λ (r : WaitRow). r.task) c.args.waits.items c.sort_unstable_by.new.self.items
    c.sort_unstable_by.ensures.sorted c.sort_unstable_by.ensures.permutation c.requires (λ f a r g h. search rules)
