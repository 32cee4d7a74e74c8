use Rattle.std.proofs.Common.{rules, ◌&&◌, ◌||◌, ap, sym, ◌∙◌, int_eq}
use Rattle.std.specs.BinaryHeap.{heap_items}
use Rattle.std.specs.List.{list_any}
use Rattle.ptg_base.specs.TaskComparing.{same_task}
use Rattle.dep_shard.specs.Queue.{QueueContent, is_candidate}
use Rattle.dep_shard.proofs.Searches.{adds_pushed, unrefused}
use Rattle.dep_shard.proofs.queue.Queue.add.Goals as goal

pub returns-else-is_err : goal.returns-else-is_err
returns-else-is_err c on = (
  sym (ap (λ (q : QueueContent). q.listed) c.self.view_is) ∙ on,
  λ p t.
      adds_pushed _ (heap_items c.self.inside.heap) (heap_items c.push.new.self) c.args.priority c.args.task.now
      (unrefused _ (sym c.is_err.ensures.value ∙ c.if-is_err.false) c.push.ensures.permutation) (search rules) c.copy.ensures p t
      ∙ (λ i. int_eq p c.args.priority && same_task t c.args.task.now || list_any (is_candidate p t) (c.self.view_is i).candidates),
)
