use Rattle.std.proofs.Common.{◌≡◌, refl, sym}
use Rattle.std.proofs.lemmas.Bool.{false_from_ne_true}
use Rattle.std.specs.declared.cmp.Ordering.TheVariants.{Less, Equal, Greater}
use Rattle.ptg_base.specs.TaskOrder.{task_before}
use Rattle.chain_cert.proofs.tasks.is_before.Goals as goal

pub returns-in-Less : goal.returns-in-Less
returns-in-Less c = sym (c.in-Less.ensures.task_order.before.0 refl)

pub returns-in-Equal : goal.returns-in-Equal
returns-in-Equal c = sym (false_from_ne_true (task_before c.args.t.now c.args.u.now)
    (λ h. let e : Equal ≡ Less = c.in-Equal.ensures.task_order.before.1 h in cc))

pub returns-in-Greater : goal.returns-in-Greater
returns-in-Greater c = sym (false_from_ne_true (task_before c.args.t.now c.args.u.now)
    (λ h. let e : Greater ≡ Less = c.in-Greater.ensures.task_order.before.1 h in cc))
