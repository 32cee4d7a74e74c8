use Rattle.std.proofs.Common.{rules, ◌≡◌, sym, subst}
use Rattle.ptg_base.specs.TaskComparing.{task_cmp, ComparesInTaskOrder}
use Rattle.ptg_base.specs.TaskLaws.{task_cmp-compares}
use Rattle.ptg_base.proofs.task.TaskIdOrd.cmp.Goals as goal

pub returns-clause-task_order : goal.returns-clause-task_order
returns-clause-task_order c =
    let is : c.then_with.result ≡ task_cmp c.args.self.now c.args.other.now = search rules in
    subst (ComparesInTaskOrder c.args.self.now c.args.other.now) (sym is) (task_cmp-compares c.args.self.now c.args.other.now)
