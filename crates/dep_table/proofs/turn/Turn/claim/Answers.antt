use Rattle.std.proofs.Common.{ap, sym, ◌∙◌, refl, subst}
use Rattle.std.specs.Option.{IfNone, IfSome}
use Rattle.table_rule.specs.Seats.{rest}
use Rattle.work_board.specs.Claims.{FoundGone, HasClaimed}
use Rattle.table_rule.specs.Changes.{with_stamp}
use Rattle.table_rule.specs.Live.{own_stamps}
use Rattle.table_rule.specs.Plays.{Seated}
use Rattle.ptg_base.specs.Task.{Task}
use Rattle.dep_shard.specs.declared.arrivals.Arrivals.{Arrivals}
use Rattle.dep_shard.specs.Content.{Content}
use Rattle.work_board.specs.declared.record.PassRecord.{PassRecord}
use Rattle.dep_table.specs.declared.turn.Turn.{Turn}
use Rattle.dep_table.specs.Tables.{job_of}
use Rattle.dep_table.specs.Turns.{IsTurnOf}
use Rattle.dep_table.specs.Passes.{IsPassOf}
use Rattle.dep_table.specs.Views.{PassView, shown}
use Rattle.dep_table.proofs.Claiming.{claim_done, claim_last, claim_pass, held_is, entry_numbers, gone, gone_last, unstamped}
use Rattle.dep_table.proofs.Jobs.{starts_of}
use Rattle.dep_table.proofs.Turns.{left_pass}
use Rattle.dep_table.proofs.turn.Turn.claim.Goals as goal
use Rattle.dep_table.proofs.turn.Turn.claim.Goals.{in-None, in-Some}

pub take_ready-requires : goal.take_ready-requires
take_ready-requires c = let h = c.requires.turn in λ e at. entry_numbers _ _ _ _ h.3 _
    (held_is _ _ _ _ h.3 _ c.pass.view_is _ _ _ c.shard_mut-held.ensures.value) _ e at

pub draw_stamp-pass-inside-requires-clause-none_yet : goal.draw_stamp-pass-inside-requires-clause-none_yet
draw_stamp-pass-inside-requires-clause-none_yet c = let h = c.requires.turn in
    ap (λ (m : Seated). own_stamps m.0 c.args.t.now) c.give_claim.ensures.me
    ∙ (ap (λ (p : PassView). own_stamps p.me.0 c.args.t.now) c.pass.view_is
    ∙ (ap (λ (m : Seated). own_stamps m.0 c.args.t.now) h.3.me
    ∙ unstamped _ _ _ _ h.3 _ _ (held_is _ _ _ _ h.3 _ c.pass.view_is _ _ _ c.shard_mut-held.ensures.value) _ _ c.in-Some.ensures.some))

pub returns-clause-pass : goal.returns-clause-pass
returns-clause-pass c = let h = c.requires.turn in elim c.match-take_ready.branch [
  | in-Some w ↦ subst (IsPassOf _) (sym w.pass-is) (claim_pass _ _ _ _ h.3 _ _ c.pass.view_is _ _ _ _
      (w.draw_stamp-pass-inside.ensures.me ∙ (λ k. (
        with_stamp (w.give_claim.ensures.me k).0 c.args.t.now
            w.draw_stamp-pass-inside.result,
        (w.give_claim.ensures.me k).1,
      )))
      (sym (ap (λ (m : Seated). m.0.running) h.3.me) ∙ c.requires.idle)
      (w.draw_stamp-pass-inside.ensures.of ∙ w.give_claim.ensures.of) refl
      (ap (λ (p : PassView). rest p.me.1) c.pass.view_is ∙ ap (λ (m : Seated). rest m.1) h.3.me))
  | in-None w ↦ subst (IsPassOf _) (sym w.pass-is) (left_pass _ _ _ _ h.3 _ _ c.pass.view_is w.give.ensures.of refl w.give.ensures.me)
]

-- what the claim, or its refusal, says of the pass after it
abbrev Claimed : Turn → Task → PassView → Arrivals → Type 0
Claimed t u q tiles = (v : PassRecord) → (y z : Content) → IsTurnOf t v y z
    → HasClaimed (job_of t.table.now).matched (job_of t.table.now).given t.shard u tiles v (shown q)

abbrev Gone : Turn → Task → PassView → Type 0
Gone t u q = (v : PassRecord) → (y z : Content) → IsTurnOf t v y z → FoundGone t.shard u v (shown q)

pub returns-clause-some : goal.returns-clause-some
returns-clause-some c = elim c.match-take_ready.branch [
  | in-Some w ↦ subst (λ o. IfSome o (Claimed c.args.self c.args.t.now c.match-take_ready.pass)) (sym w.result-is)
      (λ v y z h. claim_done _ v y z h _ c.match-take_ready.pass c.pass.view_is _ _ _ _
      (ap (λ (p : PassView). p.me) w.pass-is ∙ w.draw_stamp-pass-inside.ensures.me
      ∙ (λ k. (
        with_stamp (w.give_claim.ensures.me k).0 c.args.t.now w.draw_stamp-pass-inside.result,
        (w.give_claim.ensures.me k).1,
      )))
      (sym (ap (λ (m : Seated). m.0.running) h.me) ∙ c.requires.idle) _ _
      (held_is _ _ _ _ h _ c.pass.view_is _ _ _ c.shard_mut-held.ensures.value) w.in-Some.ensures.some
      (starts_of _ _ _ _ _ c.args.self.table.now.of_job w.give_claim.ensures.starts))
  | in-None w ↦ subst (λ o. IfSome o (Claimed c.args.self c.args.t.now c.match-take_ready.pass)) (sym w.result-is) tt
]

pub returns-clause-none : goal.returns-clause-none
returns-clause-none c = elim c.match-take_ready.branch [
  | in-Some w ↦ subst (λ o. IfNone o (Gone c.args.self c.args.t.now c.match-take_ready.pass)) (sym w.result-is) tt
  | in-None w ↦ subst (λ o. IfNone o (Gone c.args.self c.args.t.now c.match-take_ready.pass)) (sym w.result-is) (λ v y z h.
      gone _ v y z h _ c.match-take_ready.pass c.pass.view_is _
      (held_is _ _ _ _ h _ c.pass.view_is _ _ _ c.shard_mut-held.ensures.value) _ w.in-None.ensures.none _
      (ap (λ (p : PassView). p.me) w.pass-is ∙ w.give.ensures.me))
]

pub returns-clause-last : goal.returns-clause-last
returns-clause-last c = λ v y z h. elim c.match-take_ready.branch [
  | in-Some w ↦ claim_last _ v y z h _ c.match-take_ready.pass c.pass.view_is _ _ _ _
      (ap (λ (p : PassView). p.me) w.pass-is ∙ w.draw_stamp-pass-inside.ensures.me
      ∙ (λ k. (
        with_stamp (w.give_claim.ensures.me k).0 c.args.t.now w.draw_stamp-pass-inside.result,
        (w.give_claim.ensures.me k).1,
      )))
      (sym (ap (λ (m : Seated). m.0.running) h.me) ∙ c.requires.idle)
  | in-None w ↦ gone_last _ v y z h _ c.match-take_ready.pass c.pass.view_is _ (ap (λ (p : PassView). p.me) w.pass-is ∙ w.give.ensures.me)
]
