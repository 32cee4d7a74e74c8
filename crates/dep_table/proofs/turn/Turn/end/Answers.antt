use Rattle.std.proofs.Common.{ap, sym, ◌∙◌, subst}
use Rattle.table_rule.specs.Seats.{rest, seat_table, seated}
use Rattle.table_rule.specs.Changes.{without_credit}
use Rattle.table_rule.specs.Plays.{Seated}
use Rattle.work_board.specs.Sends.{MayEnd}
use Rattle.dep_table.specs.Tables.{job_of}
use Rattle.dep_table.specs.Views.{PassView}
use Rattle.dep_table.proofs.Claiming.{held_is}
use Rattle.dep_table.proofs.Ending.{end_bound, end_last, end_pass, end_running, ends_task, has_ended}
use Rattle.dep_table.proofs.Jobs.{end_for}
use Rattle.dep_table.proofs.turn.Turn.end.Goals as goal

pub end_task-requires-clause-running : goal.end_task-requires-clause-running
end_task-requires-clause-running c = let h = c.requires.turn in end_running _ _ _ _ h.3 _
    (sym (ap (λ (m : Seated). m.0.running) h.3.me) ∙ c.requires.task.runs) c.requires.shard _
    (held_is _ _ _ _ h.3 _ c.pass.view_is _ _ _ c.shard_mut-held.ensures.value)

pub end_task-requires-clause-bound : goal.end_task-requires-clause-bound
end_task-requires-clause-bound c = let h = c.requires.turn in end_bound _ _ _ _ h.3 _
    (sym (ap (λ (m : Seated). m.0.running) h.3.me) ∙ c.requires.task.runs) c.requires.shard _
    (held_is _ _ _ _ h.3 _ c.pass.view_is _ _ _ c.shard_mut-held.ensures.value)

pub give_end-requires-clause-ends : goal.give_end-requires-clause-ends
give_end-requires-clause-ends c =
    let h = c.requires.turn in
    let e = c.end_task.ensures in
    let j = job_of c.args.self.table.now in
    let runs = sym (ap (λ (m : Seated). m.0.running) h.3.me) ∙ c.requires.task.runs in
    end_for _ _ _ _ c.args.self.table.now.of_job
    (ends_task _ _ _ _ h.3 _ runs _ c.pass.view_is c.requires.shard
    (subst (λ (p : PassView). MayEnd j.matched j.given c.args.t.now p.me.0) (sym c.pass.view_is) (record {
      runs = c.requires.task.runs;
      outputs = c.requires.task.outputs;
      sent = c.requires.task.sent;
    })) _ _ (held_is _ _ _ _ h.3 _ c.pass.view_is _ _ _ c.shard_mut-held.ensures.value) e.ends e.rest e.trapped
    e.spare)

pub returns-clause-pass : goal.returns-clause-pass
returns-clause-pass c = let h = c.requires.turn in end_pass _ _ _ _ h.3 _
    (sym (ap (λ (m : Seated). m.0.running) h.3.me) ∙ c.requires.task.runs) _ c.pass.view_is _ _
    (c.lower_live.ensures.me ∙ (λ k. (without_credit (c.give_end.ensures.me k).0, (c.give_end.ensures.me k).1)))
    (c.lower_live.ensures.of ∙ c.give_end.ensures.of) (ap (λ (p : PassView). rest p.me.1) c.pass.view_is ∙ ap (λ (m : Seated). rest m.1) h.3.me)

pub returns-clause-ended : goal.returns-clause-ended
returns-clause-ended c = λ v y z h. has_ended _ v y z h _ (sym (ap (λ (m : Seated). m.0.running) h.me)
    ∙ c.requires.task.runs) _ c.pass.view_is (record {
      table = seat_table c.lower_live.new.seat;
      me = seated
          c.lower_live.new.seat;
      stamp = c.pass.inside.stamp;
    }) _ (c.lower_live.ensures.me
    ∙ (λ k. (without_credit (c.give_end.ensures.me k).0, (c.give_end.ensures.me k).1)))

pub returns-clause-last : goal.returns-clause-last
returns-clause-last c = λ v y z h. end_last _ v y z h _ (sym (ap (λ (m : Seated). m.0.running) h.me)
    ∙ c.requires.task.runs) _ c.pass.view_is (record {
      table = seat_table c.lower_live.new.seat;
      me = seated
          c.lower_live.new.seat;
      stamp = c.pass.inside.stamp;
    }) _ (c.lower_live.ensures.me
    ∙ (λ k. (without_credit (c.give_end.ensures.me k).0, (c.give_end.ensures.me k).1)))
