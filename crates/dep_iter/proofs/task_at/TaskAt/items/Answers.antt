use Rattle.std.proofs.Common.{refl}
use Rattle.term_core.specs.declared.direction.Direction.TheVariants.{Out}
use Rattle.dep_iter.specs.Items.{items}
use Rattle.dep_iter.proofs.task_at.TaskAt.items.Goals as goal

pub returns : goal.returns
unfolding items
returns c =
    let at = c.args.self.now in
    let targets = c.start.ensures.targets Out at.locals.now in
    rw (c.none.ensures, targets, c.flows.ensures.flows, at.are_locals) refl
