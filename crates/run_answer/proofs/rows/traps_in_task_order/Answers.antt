use Rattle.std.proofs.Common.{rules, ◌∙◌}
use Rattle.flow_meaning.specs.declared.outcome.TrapRow.{TrapRow}
use Rattle.run_answer.proofs.Sorting.{sorted_from_sort_by}
use Rattle.run_answer.proofs.rows.traps_in_task_order.Goals as goal

pub returns : goal.returns
returns c =
    c.of.ensures
    ∙ sorted_from_sort_by (λ (r : TrapRow). r.task) c.args.traps.items c.sort_unstable_by.new.self.items
    c.sort_unstable_by.ensures.sorted c.sort_unstable_by.ensures.permutation c.requires (λ f a r g h. search rules)
