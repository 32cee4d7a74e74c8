use Rattle.std.proofs.Common.{ap, sym, ◌∙◌, refl, subst, IsOk, OnErr, OnOk}
use Rattle.std.proofs.lemmas.Bool.{false≢true}
use Rattle.table_rule.specs.Seats.{rest}
use Rattle.dep_shard.specs.Content.{Content}
use Rattle.table_rule.specs.Changes.{without_credit}
use Rattle.table_rule.specs.Plays.{Seated}
use Rattle.work_board.specs.Records.{OnlyTook}
use Rattle.work_board.specs.Sends.{HasEnded, MayTrap}
use Rattle.work_board.specs.declared.record.PassRecord.{PassRecord}
use Rattle.dep_table.specs.declared.turn.Turn.{Turn}
use Rattle.dep_table.specs.Passes.{IsPassOf}
use Rattle.dep_table.specs.Tables.{job_of}
use Rattle.dep_table.specs.Turns.{IsTurnOf}
use Rattle.dep_table.specs.Views.{PassView, shown}
use Rattle.dep_table.proofs.Claiming.{held_is}
use Rattle.dep_table.proofs.Ending.{end_bound, end_last, end_pass, end_running, has_ended, trap_spare, traps_task}
use Rattle.dep_table.proofs.Jobs.{end_for}
use Rattle.dep_table.proofs.Turns.{left_last, left_pass, only_took}
use Rattle.dep_table.proofs.turn.Turn.trap.Goals as goal
use Rattle.dep_table.proofs.turn.Turn.trap.Goals.{in-Err, in-Ok}

pub trap-requires-clause-running : goal.trap-requires-clause-running
trap-requires-clause-running c = let h = c.requires.turn in end_running _ _ _ _ h.3 _
    (sym (ap (λ (m : Seated). m.0.running) h.3.me) ∙ c.requires.task.runs) c.requires.shard _
    (held_is _ _ _ _ h.3 _ c.pass.view_is _ _ _ c.shard_mut-held.ensures.value)

pub trap-requires-clause-bound : goal.trap-requires-clause-bound
trap-requires-clause-bound c = let h = c.requires.turn in end_bound _ _ _ _ h.3 _
    (sym (ap (λ (m : Seated). m.0.running) h.3.me) ∙ c.requires.task.runs) c.requires.shard _
    (held_is _ _ _ _ h.3 _ c.pass.view_is _ _ _ c.shard_mut-held.ensures.value)

pub give_end-requires-clause-ends : goal.give_end-requires-clause-ends
give_end-requires-clause-ends c =
    let h = c.requires.turn in
    let e = c.in-Ok.ensures in
    let j = job_of c.args.self.table.now in
    let runs = sym (ap (λ (m : Seated). m.0.running) h.3.me) ∙ c.requires.task.runs in
    end_for _ _ _ _ c.args.self.table.now.of_job
    (traps_task _ _ _ _ h.3 _ runs _ c.pass.view_is c.args.cause c.requires.shard
    (subst (λ (p : PassView). MayTrap j.matched j.given c.args.t.now c.args.cause p.me.0) (sym c.pass.view_is)
    (record { runs = c.requires.task.runs; traps = c.requires.task.traps })) _ _
    (held_is _ _ _ _ h.3 _ c.pass.view_is _ _ _ c.shard_mut-held.ensures.value) e.ends e.rest e.ok e.spare)

pub returns-clause-pass : goal.returns-clause-pass
returns-clause-pass c = let h = c.requires.turn in elim c.match-trap.branch [
  | in-Ok w ↦ subst (IsPassOf _) (sym w.pass-is) (end_pass _ _ _ _ h.3 _
      (sym (ap (λ (m : Seated). m.0.running) h.3.me) ∙ c.requires.task.runs) _ c.pass.view_is _ _
      (w.lower_live.ensures.me ∙ (λ k. (without_credit (w.give_end.ensures.me k).0, (w.give_end.ensures.me k).1)))
      (w.lower_live.ensures.of ∙ w.give_end.ensures.of) (ap (λ (p : PassView). rest p.me.1) c.pass.view_is ∙ ap (λ (m : Seated). rest m.1) h.3.me))
  | in-Err w ↦ subst (IsPassOf _) (sym w.pass-is) (left_pass _ _ _ _ h.3 _ _ c.pass.view_is w.give.ensures.of refl w.give.ensures.me)
]

abbrev EndedAs : Turn → PassView → Type 0
EndedAs t q = (v : PassRecord) → (y z : Content) → IsTurnOf t v y z → HasEnded t.shard v (shown q)

abbrev LeftAs : Turn → PassView → Type 0
LeftAs t q = (v : PassRecord) → (y z : Content) → IsTurnOf t v y z → OnlyTook t.shard v (shown q)

pub returns-clause-ended : goal.returns-clause-ended
returns-clause-ended c = elim c.match-trap.branch [
  | in-Ok w ↦ subst (λ o. OnOk o (EndedAs c.args.self c.match-trap.pass)) (sym w.result-is)
      (λ v y z h. has_ended _ v y z h _ (sym (ap (λ (m : Seated). m.0.running) h.me) ∙ c.requires.task.runs) _
      c.pass.view_is c.match-trap.pass _
      (ap (λ (p : PassView). p.me) w.pass-is ∙ w.lower_live.ensures.me ∙ (λ k. (without_credit (w.give_end.ensures.me k).0, (w.give_end.ensures.me k).1))))
  | in-Err w ↦ subst (λ o. OnOk o (EndedAs c.args.self c.match-trap.pass)) (sym w.result-is) tt
]

pub returns-clause-left : goal.returns-clause-left
returns-clause-left c = elim c.match-trap.branch [
  | in-Ok w ↦ subst (λ o. OnErr o (LeftAs c.args.self c.match-trap.pass)) (sym w.result-is) tt
  | in-Err w ↦ subst (λ o. OnErr o (LeftAs c.args.self c.match-trap.pass)) (sym w.result-is)
      (λ v y z h. only_took _ v y z h _ c.match-trap.pass c.pass.view_is
      (ap (λ (p : PassView). p.table) w.pass-is ∙ w.give.ensures.of) (ap (λ (p : PassView). p.stamp) w.pass-is)
      (ap (λ (p : PassView). p.me) w.pass-is ∙ w.give.ensures.me))
]

pub returns-clause-preloaded : goal.returns-clause-preloaded
returns-clause-preloaded c = λ pre. let h = c.requires.turn in elim c.match-trap.branch [
  | in-Ok w ↦ subst IsOk (sym w.result-is) refl
  | in-Err w ↦ absurd (false≢true (subst IsOk w.in-Err.is (c.trap.ensures.succeeds
      (trap_spare _ _ _ _ h.3 _ (sym (ap (λ (m : Seated). m.0.running) h.3.me) ∙ c.requires.task.runs) c.requires.shard
      pre _ (held_is _ _ _ _ h.3 _ c.pass.view_is _ _ _ c.shard_mut-held.ensures.value)))))
]

pub returns-clause-last : goal.returns-clause-last
returns-clause-last c = λ v y z h. elim c.match-trap.branch [
  | in-Ok w ↦ end_last _ v y z h _ (sym (ap (λ (m : Seated). m.0.running) h.me) ∙ c.requires.task.runs) _ c.pass.view_is c.match-trap.pass _
      (ap (λ (p : PassView). p.me) w.pass-is ∙ w.lower_live.ensures.me ∙ (λ k. (without_credit (w.give_end.ensures.me k).0, (w.give_end.ensures.me k).1)))
  | in-Err w ↦ left_last _ v y z h _ c.match-trap.pass c.pass.view_is
      (ap (λ (p : PassView). p.table) w.pass-is ∙ w.give.ensures.of) (ap (λ (p : PassView). p.stamp) w.pass-is)
      (ap (λ (p : PassView). p.me) w.pass-is ∙ w.give.ensures.me)
]
