use Rattle.std.proofs.Common.{[], Some, refl}
use Rattle.type_rules.specs.Contexts.{job_of}
use Rattle.type_rules.proofs.Tasks.{task_at}
use Rattle.type_rules.proofs.target.task.Goals as goal

pub returns : goal.returns
returns c =
    task_at (job_of c.args.context.now) c.args.flow.now c.args.name.now c.args.count c.in-Some.number c.len.result c.get-class.result.now c.join.result
    c.in-Some.ensures.number c.get-class.ensures.value c.len.ensures
    (c.join.ensures _ _ _ _ (c.and_rules-known.ensures (Some c.in-Some.number) [] _ (refl, refl) c.fault_if.ensures) c.flow_number.ensures)
