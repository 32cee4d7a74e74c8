use Rattle.std.proofs.Common.{◌≡◌, ◌++◌, IsOk, ap, sym, ◌∙◌, subst, arith}
use Rattle.std.proofs.lemmas.Bool.{false≢true}
use Rattle.flow_meaning.specs.declared.outcome.TrapRow.{TrapRow}
use Rattle.run_answer.specs.Rows.{AreOfDifferentTasks}
use Rattle.shard_answer.specs.Parts.{all_traps}
use Rattle.shard_answer.proofs.Traps.{rows_differ}
use Rattle.shard_answer.proofs.Answering.{few_all_traps}
use Rattle.shard_answer.proofs.answer.trap_rows.Goals as goal

pub returns-in_err-push_traps-clause-succeeds : goal.returns-in_err-push_traps-clause-succeeds
returns-in_err-push_traps-clause-succeeds c room =
    let few = few_all_traps c.args.m.now c.args.given.now c.plan_is_consistent.ensures c.args.shards.now c.requires.end in
    absurd (false≢true (subst IsOk c.in_err-push_traps.was (c.push_traps.ensures.succeeds (omega (arith, few, room, c.requires.empty.1)))))

pub traps_in_task_order-requires : goal.traps_in_task_order-requires
traps_in_task_order-requires c =
    let are : c.push_traps.new.rows.items ≡ all_traps c.args.shards.now = c.in_ok-push_traps.ensures.ok
    ∙ ap (λ l. l ++ all_traps c.args.shards.now) c.requires.empty.0 in
    subst (AreOfDifferentTasks (λ (r : TrapRow). r.task)) (sym are)
    (rows_differ c.args.m.now c.args.given.now c.plan_is_consistent.ensures c.args.shards.now c.requires.end)
