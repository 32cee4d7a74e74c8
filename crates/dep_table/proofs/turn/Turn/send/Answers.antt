use Rattle.std.proofs.Common.{ℤ, List, Option, ap, sym, ◌∙◌, refl, subst, IsOk, OnErr}
use Rattle.std.proofs.lemmas.Bool.{false≢true}
use Rattle.std.specs.Option.{option_copied}
use Rattle.std.specs.Result.{IfOk}
use Rattle.table_rule.specs.Seats.{rest}
use Rattle.ptg_base.specs.declared.edge.Item.{Item}
use Rattle.dep_shard.specs.Content.{Content}
use Rattle.table_rule.specs.Plays.{Seated, after_send}
use Rattle.work_board.specs.Records.{OnlyTook}
use Rattle.work_board.specs.Sends.{HasSent}
use Rattle.work_board.specs.declared.answers.Sent.{Sent as Answer}
use Rattle.work_board.specs.declared.record.PassRecord.{PassRecord}
use Rattle.dep_table.specs.declared.turn.Turn.{Turn}
use Rattle.dep_table.specs.Passes.{IsPassOf}
use Rattle.dep_table.specs.Tables.{job_of}
use Rattle.dep_table.specs.Turns.{IsTurnOf}
use Rattle.dep_table.specs.Views.{PassView, shown}
use Rattle.dep_table.proofs.Claiming.{held_is}
use Rattle.dep_table.proofs.Jobs.{send_for}
use Rattle.dep_table.proofs.SendingTurn.{has_sent, refused, send_last, send_may, send_named, send_pass, send_room, send_spare, sends_item}
use Rattle.dep_table.proofs.Turns.{left_last, left_pass, only_took}
use Rattle.dep_table.proofs.turn.Turn.send.Goals as goal
use Rattle.dep_table.proofs.turn.Turn.send.Goals.{in-Err, in-Ok}

pub take_item-requires : goal.take_item-requires
take_item-requires c = let h = c.requires.turn in send_may _ _ _ _ h.3 _ _ c.requires.item c.requires.shard _
    (held_is _ _ _ _ h.3 _ c.pass.view_is _ _ _ c.shard_mut-held.ensures.value)

pub raise_for-requires-clause-room : goal.raise_for-requires-clause-room
raise_for-requires-clause-room c = let h = c.requires.turn in send_room _ _ _ _ h.3 _ _ c.requires.item c.requires.shard _ c.pass.view_is

pub raise_for-requires-clause-named : goal.raise_for-requires-clause-named
raise_for-requires-clause-named c = let h = c.requires.turn in send_named _ _ _ _ h.3 _ _ c.requires.item c.requires.shard _ c.pass.view_is

pub give_send-requires-clause-sends : goal.give_send-requires-clause-sends
give_send-requires-clause-sends c =
    let h = c.requires.turn in
    send_for _ _ _ _ _ _ c.args.self.table.now.of_job
    (sends_item _ _ _ _ h.3 _ _ c.requires.item c.requires.shard _ c.pass.view_is c.in-Ok.answer _ _
    (held_is _ _ _ _ h.3 _ c.pass.view_is _ _ _ c.shard_mut-held.ensures.value) c.in-Ok.ensures.answer
    c.in-Ok.ensures.takes _ c.raise_for.ensures.me)

pub give-requires-clause-leaves : goal.give-requires-clause-leaves
give-requires-clause-leaves c = let h = c.requires.turn in refused _ _ _ _ h.3 _ c.pass.view_is _ _
    (held_is _ _ _ _ h.3 _ c.pass.view_is _ _ _ c.shard_mut-held.ensures.value) c.in-Err.ensures.same
    c.in-Err.ensures.kept

pub returns-clause-pass : goal.returns-clause-pass
returns-clause-pass c = let h = c.requires.turn in elim c.match-take_item.branch [
  | in-Ok w ↦ subst (IsPassOf _) (sym w.pass-is) (send_pass _ _ _ _ h.3 _ _ c.requires.item c.requires.shard _ c.pass.view_is w.in-Ok.answer _ _
      (w.give_send.ensures.me ∙ ap (after_send record { item = c.args.item.now; tile = option_copied c.args.tile }) w.raise_for.ensures.me)
      (w.give_send.ensures.of ∙ w.raise_for.ensures.of) refl (ap (λ (p : PassView). rest p.me.1) c.pass.view_is ∙ ap (λ (m : Seated). rest m.1) h.3.me))
  | in-Err w ↦ subst (IsPassOf _) (sym w.pass-is) (left_pass _ _ _ _ h.3 _ _ c.pass.view_is w.give.ensures.of refl w.give.ensures.me)
]

-- what the send, or its refusal, says of the pass after it
abbrev SentBy : Turn → Item → Option (List ℤ) → PassView → Answer → Type 0
SentBy t i tile q a = (v : PassRecord) → (y z : Content) → IsTurnOf t v y z → HasSent (job_of t.table.now).matched t.shard i tile a v (shown q)

abbrev LeftAs : Turn → PassView → Type 0
LeftAs t q = (v : PassRecord) → (y z : Content) → IsTurnOf t v y z → OnlyTook t.shard v (shown q)

pub returns-clause-sent : goal.returns-clause-sent
returns-clause-sent c = elim c.match-take_item.branch [
  | in-Ok w ↦ subst (λ o. IfOk o (SentBy c.args.self c.args.item.now (option_copied c.args.tile)
      c.match-take_item.pass)) (sym w.result-is) (λ v y z h. has_sent _ v y z h _ _ c.requires.item c.requires.shard _
      c.pass.view_is w.in-Ok.answer c.match-take_item.pass _
      (ap (λ (p : PassView). p.me) w.pass-is ∙ w.give_send.ensures.me
      ∙ ap (after_send record { item = c.args.item.now; tile = option_copied c.args.tile }) w.raise_for.ensures.me)
      _ (held_is _ _ _ _ h _ c.pass.view_is _ _ _ c.shard_mut-held.ensures.value) w.in-Ok.ensures.answer)
  | in-Err w ↦ subst (λ o. IfOk o (SentBy c.args.self c.args.item.now (option_copied c.args.tile) c.match-take_item.pass)) (sym w.result-is) tt
]

pub returns-clause-left : goal.returns-clause-left
returns-clause-left c = elim c.match-take_item.branch [
  | in-Ok w ↦ subst (λ o. OnErr o (LeftAs c.args.self c.match-take_item.pass)) (sym w.result-is) tt
  | in-Err w ↦ subst (λ o. OnErr o (LeftAs c.args.self c.match-take_item.pass)) (sym w.result-is)
      (λ v y z h. only_took _ v y z h _ c.match-take_item.pass c.pass.view_is
      (ap (λ (p : PassView). p.table) w.pass-is ∙ w.give.ensures.of) (ap (λ (p : PassView). p.stamp) w.pass-is)
      (ap (λ (p : PassView). p.me) w.pass-is ∙ w.give.ensures.me))
]

pub returns-clause-preloaded : goal.returns-clause-preloaded
returns-clause-preloaded c = λ pre. let h = c.requires.turn in elim c.match-take_item.branch [
  | in-Ok w ↦ subst IsOk (sym w.result-is) refl
  | in-Err w ↦ absurd (false≢true (subst IsOk w.in-Err.is (c.take_item.ensures.succeeds
      (send_spare _ _ _ _ h.3 _ _ c.requires.item c.requires.shard pre _
      (held_is _ _ _ _ h.3 _ c.pass.view_is _ _ _ c.shard_mut-held.ensures.value)))))
]

pub returns-clause-last : goal.returns-clause-last
returns-clause-last c = λ v y z h. elim c.match-take_item.branch [
  | in-Ok w ↦ send_last _ v y z h _ _ c.requires.item c.requires.shard _ c.pass.view_is w.in-Ok.answer c.match-take_item.pass _
      (ap (λ (p : PassView). p.me) w.pass-is ∙ w.give_send.ensures.me
      ∙ ap (after_send record { item = c.args.item.now; tile = option_copied c.args.tile }) w.raise_for.ensures.me)
  | in-Err w ↦ left_last _ v y z h _ c.match-take_item.pass c.pass.view_is
      (ap (λ (p : PassView). p.table) w.pass-is ∙ w.give.ensures.of) (ap (λ (p : PassView). p.stamp) w.pass-is)
      (ap (λ (p : PassView). p.me) w.pass-is ∙ w.give.ensures.me)
]
