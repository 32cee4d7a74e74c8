use Rattle.std.proofs.Common.{rules, ◌≡◌, ◌∙◌, sym}
use Rattle.ptg_base.specs.TaskComparing.{same_task}
use Rattle.ptg_base.specs.TaskLaws.{same_task-decides}
use Rattle.ptg_base.proofs.task.TaskIdPartialEq.eq.Goals as goal

pub returns-then-class-clause-same : goal.returns-then-class-clause-same
returns-then-class-clause-same c =
    let is : c.eq.result ≡ same_task c.args.self.now c.args.other.now = search rules in
    let decides = same_task-decides c.args.self.now c.args.other.now in
    (λ h. decides.0 (sym is ∙ h), λ h. is ∙ decides.1 h)
