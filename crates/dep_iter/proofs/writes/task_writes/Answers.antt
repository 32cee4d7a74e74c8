use Rattle.std.proofs.Common.{sym, ◌∙◌}
use Rattle.dep_iter.specs.Tasks.{flows_of, locals_of}
use Rattle.dep_iter.specs.WalkLocals.{walk_locals}
use Rattle.dep_iter.proofs.Joining.{write_backs-targets}
use Rattle.dep_iter.proofs.Writing.{flows_writes}
use Rattle.dep_iter.proofs.writes.task_writes.Goals as goal

pub returns : goal.returns
returns c =
    let P = c.args.plan.now in
    let t = c.args.t.now in
    let writes = c.start_writes.ensures.writes t (walk_locals c.args.locals) in
    rw (c.copy.ensures, writes, c.flows_of.ensures.flows, c.requires.locals)
    (sym (flows_writes t (locals_of P t) 0 (flows_of P t)) ∙ write_backs-targets P t)
