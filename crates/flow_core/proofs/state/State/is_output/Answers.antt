use Rattle.std.proofs.Common.{◌≡◌, ap, sym, subst, ◌∙◌, true, false, IsTrue, ◌↔◌}
use Rattle.std.proofs.lemmas.Bool.{false≢true}
use Rattle.ptg_base.specs.Lists.{IsIn}
use Rattle.dep_iter.specs.Tasks.{IsTask}
use Rattle.dep_iter.specs.Items.{items}
use Rattle.flow_meaning.specs.Ending.{has_outputs}
use Rattle.flow_meaning.specs.Machine.{sender}
use Rattle.flow_core.specs.RunState.{end_of}
use Rattle.flow_core.proofs.Fitting.{sender_task}
use Rattle.flow_core.proofs.state.State.is_output.Goals as goal

pub returns-then-not-has_outputs-clause-output : goal.returns-then-not-has_outputs-clause-output
returns-then-not-has_outputs-clause-output c =
    let none : has_outputs (end_of c.args.self.now (sender c.args.item.now))
    ≡ false = ap (λ t. has_outputs (end_of c.args.self.now t)) (sym c.sender.ensures)
    ∙ sym c.if-not-has_outputs.ensures in
    (λ k. absurd (false≢true k), λ output. absurd (false≢true (sym none ∙ output.outputs)))

pub is_item-requires : goal.is_item-requires
is_item-requires c =
    let left : has_outputs (end_of c.args.self.now (sender c.args.item.now))
    ≡ true = ap (λ t. has_outputs (end_of c.args.self.now t)) (sym c.sender.ensures)
    ∙ sym c.if-not-has_outputs.ensures in
    subst (λ P. IsTask P (sender c.args.item.now)) (sym c.plan-plan.ensures.same)
    (sender_task c.args.m.now c.requires.fits.0 c.plan-plan.ensures.consistent c.args.self.now c.requires.fits.1 c.args.item.now left)

pub returns-clause-output : goal.returns-clause-output
returns-clause-output c =
    let left : has_outputs (end_of c.args.self.now (sender c.args.item.now))
    ≡ true = ap (λ t. has_outputs (end_of c.args.self.now t)) (sym c.sender.ensures)
    ∙ sym c.if-not-has_outputs.ensures in
    let member : IsTrue c.is_item.result ↔ IsIn c.args.item.now (items c.args.m.now (sender c.args.item.now)) =
    subst (λ P. IsTrue c.is_item.result ↔ IsIn c.args.item.now (items P (sender c.args.item.now))) c.plan-plan.ensures.same c.is_item.ensures in
    (λ k. record { outputs = left; is_item = member.0 k }, λ output. member.1 output.is_item)
