use Rattle.std.proofs.Common.{◌≡◌, ◌++◌, IsOk, length, refl, ap, sym, ◌∙◌, subst, arith}
use Rattle.ptg_base.specs.TaskOrder.{in_task_order}
use Rattle.dep_iter.specs.Tasks.{all_tasks}
use Rattle.std.proofs.lemmas.Bool.{false≢true}
use Rattle.flow_meaning.specs.declared.outcome.Outcome.TheVariants.{Stalled}
use Rattle.flow_meaning.specs.declared.outcome.TrapRow.{TrapRow}
use Rattle.flow_meaning.specs.declared.outcome.WaitRow.{WaitRow}
use Rattle.run_answer.specs.Rows.{AreOfDifferentTasks}
use Rattle.shard_answer.specs.Parts.{all_traps, all_waits}
use Rattle.shard_answer.proofs.Answering.{complete_answer, ended_are, ended_at_most, few_waits, stalled_answer, waits_apart}
use Rattle.shard_answer.proofs.answer.stall.Goals as goal

pub ended_of-ran-requires : goal.ended_of-ran-requires
ended_of-ran-requires c = ended_at_most c.args.m.now c.args.given.now c.plan_is_consistent.ensures c.requires.known
    c.data_are_well_made.ensures c.args.shards.now c.requires.end

pub returns-then-ran-all-clause-answer : goal.returns-then-ran-all-clause-answer
returns-then-ran-all-clause-answer c =
    let P = c.args.m.now in
    let G = c.args.given.now in
    let ys = c.args.shards.now in
    let ended = ended_are P G c.plan_is_consistent.ensures c.requires.known c.data_are_well_made.ensures ys c.requires.end in
    complete_answer P G c.plan_is_consistent.ensures c.requires.known c.data_are_well_made.ensures ys c.requires.end
    (in_task_order (λ (r : TrapRow). r.task) (all_traps ys)) refl c.requires.none
    (sym ended ∙ sym c.ended_of-ran.ensures ∙ c.if-ran-all.true ∙ c.tasks-all.ensures)

pub returns-in_err-push_waits-clause-succeeds : goal.returns-in_err-push_waits-clause-succeeds
returns-in_err-push_waits-clause-succeeds c room =
    let few = few_waits c.args.m.now c.args.given.now c.plan_is_consistent.ensures c.requires.known
    c.data_are_well_made.ensures c.args.shards.now c.requires.end c.entries_are_distinct.ensures in
    absurd (false≢true (subst IsOk c.in_err-push_waits.was (c.push_waits.ensures.succeeds (omega (arith, few, room, c.requires.empty.1)))))

pub waits_in_task_order-requires : goal.waits_in_task_order-requires
waits_in_task_order-requires c =
    let are : c.push_waits.new.rows.items ≡ all_waits c.args.shards.now = c.in_ok-push_waits.ensures.ok
    ∙ ap (λ l. l ++ all_waits c.args.shards.now) c.requires.empty.0 in
    subst (AreOfDifferentTasks (λ (r : WaitRow). r.task)) (sym are)
    (waits_apart c.args.m.now c.args.given.now c.plan_is_consistent.ensures c.requires.known
    c.data_are_well_made.ensures c.args.shards.now c.requires.end c.entries_are_distinct.ensures)

pub returns-clause-answer : goal.returns-clause-answer
returns-clause-answer c =
    let P = c.args.m.now in
    let G = c.args.given.now in
    let ys = c.args.shards.now in
    let are : c.push_waits.new.rows.items ≡ all_waits ys = c.in_ok-push_waits.ensures.ok ∙ ap (λ l. l ++ all_waits ys) c.requires.empty.0 in
    let found : c.waits_in_task_order.result ≡ in_task_order (λ (r : WaitRow). r.task)
    (all_waits ys) = c.waits_in_task_order.ensures ∙ ap (in_task_order (λ (r : WaitRow). r.task)) are in
    let ended = ended_are P G c.plan_is_consistent.ensures c.requires.known c.data_are_well_made.ensures ys c.requires.end in
    let ran : c.ended_of-ran.result ≡ length c.requires.end.moment.state.claims = c.ended_of-ran.ensures ∙ ended in
    let all : c.tasks-all.result ≡ length (all_tasks P) = c.tasks-all.ensures in
    (λ i. Stalled (ran i) (all i) c.waits_in_task_order.result)
    ∙ stalled_answer P G c.plan_is_consistent.ensures c.requires.known c.data_are_well_made.ensures ys c.requires.end
    (in_task_order (λ (r : TrapRow). r.task) (all_traps ys)) refl c.requires.none
    c.entries_are_distinct.ensures (λ e. c.if-ran-all.false (ran ∙ e ∙ sym all)) c.waits_in_task_order.result found
