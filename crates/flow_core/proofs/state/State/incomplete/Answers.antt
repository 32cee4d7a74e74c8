use Rattle.std.proofs.Common.{◌≡◌, length, refl, ◌∙◌, [], Option}
use Rattle.std.proofs.lemmas.Bool.{false≢true}
use Rattle.std.proofs.lemmas.Result.{IfOk-weaker}
use Rattle.std.specs.Prelude.{unwrap_or}
use Rattle.coll_data.specs.Data.{Data}
use Rattle.dep_iter.specs.Tasks.{all_tasks}
use Rattle.flow_meaning.specs.declared.outcome.Outcome.{Outcome}
use Rattle.flow_meaning.specs.declared.outcome.Outcome.TheVariants.{Complete}
use Rattle.flow_meaning.specs.StateAnswer.{state_answer, state_answer_by, state_data}
use Rattle.flow_core.specs.RunState.{machine}
use Rattle.flow_core.specs.Fits.{Fits}
use Rattle.flow_core.proofs.Rows.{answer_trapped, answer_untrapped, traps_are}
use Rattle.flow_core.proofs.state.State.incomplete.Goals as goal

pub returns-then-not-is_empty : goal.returns-then-not-is_empty
returns-then-not-is_empty c = λ G fits.
    let P = c.args.m.now in
    let r = c.args.self.now in
    let traps = traps_are P G c.requires.consistent r fits c.requires.idle c.in_ok-traps.traps c.in_ok-traps.ensures in
    answer_trapped P G (machine r) c.in_ok-traps.traps traps (λ e. false≢true (c.if-not-is_empty.ensures.1 e))

pub returns : goal.returns
returns c =
    let P = c.args.m.now in
    let r = c.args.self.now in
    IfOk-weaker c.stall.result
    (λ (found : Option Outcome). (G : Data) → unwrap_or found (Complete (length (all_tasks P)) (state_data G (machine r))) ≡ state_answer_by P G (machine r) [])
    (λ (found : Option Outcome). (G : Data) → Fits P G r → unwrap_or found
    (Complete (length (all_tasks P)) (state_data G (machine r))) ≡ state_answer P G (machine r))
    (λ found h G fits.
    let traps = traps_are P G c.requires.consistent r fits c.requires.idle c.in_ok-traps.traps c.in_ok-traps.ensures in
    h G ∙ answer_untrapped P G (machine r) c.in_ok-traps.traps traps (c.if-not-is_empty.ensures.0 refl))
    c.stall.ensures

pub traps-requires : goal.traps-requires
traps-requires c t = c.requires.fits.1.sound.claimed_once t
