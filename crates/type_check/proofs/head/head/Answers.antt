use Rattle.std.proofs.Common.{Ok, Err}
use Rattle.type_rules.specs.Contexts.{job_of}
use Rattle.type_rules.proofs.CallerLemmas.{of_both, still_err}
use Rattle.type_check.specs.Classes.{head_from}
use Rattle.type_check.proofs.Heads.{head_at}
use Rattle.type_check.proofs.head.head.Goals as goal

pub returns-in-Ok : goal.returns-in-Ok
returns-in-Ok c =
    head_at (job_of c.args.context.now) c.args.class.now c.args.context.now.seen.now c.as_slice.result.now
    c.as_slice-2.result.now (Ok (head_from c.in-Ok.place c.in-Ok.rest)) c.requires.seen c.as_slice.ensures
    c.as_slice-2.ensures
    (of_both head_from c.in-Ok.place c.in-Ok.rest _ _ _
    (c.in-Ok.ensures _ _ _ _ (c.join-place.ensures _ _ _ _ c.space.ensures c.element.ensures)
    (c.join-rest.ensures _ _ _ _ c.flows.ensures c.option_term.ensures)))

pub returns-in-Err : goal.returns-in-Err
returns-in-Err c =
    head_at (job_of c.args.context.now) c.args.class.now c.args.context.now.seen.now c.as_slice.result.now
    c.as_slice-2.result.now (Err c.in-Err.refusal) c.requires.seen c.as_slice.ensures c.as_slice-2.ensures
    (still_err c.in-Err.refusal _ _ _
    (c.in-Err.ensures _ _ _ _ (c.join-place.ensures _ _ _ _ c.space.ensures c.element.ensures)
    (c.join-rest.ensures _ _ _ _ c.flows.ensures c.option_term.ensures)))
