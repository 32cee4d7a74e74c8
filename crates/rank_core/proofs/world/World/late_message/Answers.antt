use Rattle.std.proofs.Common.{◌≡◌, true, false, Some, slice_get, sym, ◌∙◌, subst, arith}
use Rattle.ptg_base.specs.Lists.{IsIn}
use Rattle.std.proofs.lemmas.List.{nil_from_length}
use Rattle.rank_core.specs.declared.message.Message.{Message}
use Rattle.rank_core.specs.World.{is_delivered}
use Rattle.rank_core.specs.Views.{WorldView}
use Rattle.rank_core.proofs.Keeping.{empty_all_delivered, under_way_some}
use Rattle.rank_core.proofs.world.World.late_message.Goals as goal

pub returns-then-late-eq0-clause-none : goal.returns-then-late-eq0-clause-none
returns-then-late-eq0-clause-none c =
    let i = c.self.inside in
    let none = nil_from_length i.mail.under_way.entries (omega (arith, c.len-late.ensures.len, c.if-late-eq0.true)) in
    subst (λ (w : WorldView). (m : Message) → IsIn m w.state.messages → is_delivered w.state.machine m ≡ true)
    c.self.view_is
    (empty_all_delivered i.history.state.machine i.history.state.messages i.mail.under_way.entries
    c.self.invariant.mail.under_way none)

pub returns-clause-some : goal.returns-clause-some
returns-clause-some c =
    let i = c.self.inside in
    let n = c.in-Some.number.now in
    let is = under_way_some i.history.state.machine (slice_get i.history.state.messages c.in-Some.number.now)
    c.in-Some._message.now (sym c.in-Some.ensures.value ∙ c.self.invariant.mail.under_way c.in-Some.number.now) in
    subst (λ (w : WorldView). (m : Message) × (slice_get w.state.messages c.in-Some.number.now ≡ Some m)
    × (is_delivered w.state.machine m ≡ false)) c.self.view_is (c.in-Some._message.now, is.0, is.1)
