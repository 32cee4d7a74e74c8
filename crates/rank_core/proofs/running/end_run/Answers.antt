use Rattle.std.proofs.Common.{◌≡◌, ap, subst, Some, Err, Result, IfErr}
use Rattle.term_core.specs.declared.trap.Trap.{Trap}
use Rattle.flow_meaning.specs.Backward.{ended}
use Rattle.rank_core.specs.RunningTasks.{data_of, plan_of, task_of}
use Rattle.flow_meaning.specs.Ending.{has_outputs}
use Rattle.rank_core.proofs.Outgoings.{trap_mail}
use Rattle.rank_core.proofs.running.end_run.Goals as goal

pub returns-in-Err-clause-mail : goal.returns-in-Err-clause-mail
returns-in-Err-clause-mail c = trap_mail c.args.at.now c.requires.runs
    (ap has_outputs (subst (λ (r : Result (Unit {0}) Trap). IfErr r
    (λ cause. ended (plan_of c.args.at.now) (data_of c.args.at.now) (task_of c.args.at.now) ≡ Some (Err cause)))
    c.in-Err.is c.requires.trap)) c.args.mail.now c.requires.mail
