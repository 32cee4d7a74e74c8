use Rattle.std.proofs.Common.{◌≡◌, length, sym, ◌∙◌, Option}
use Rattle.std.proofs.lemmas.Result.{IfOk-weaker}
use Rattle.std.specs.Prelude.{unwrap_or}
use Rattle.coll_data.specs.Data.{Data}
use Rattle.dep_iter.specs.Tasks.{all_tasks}
use Rattle.flow_meaning.specs.Answer as meaning
use Rattle.flow_meaning.specs.declared.outcome.Outcome.{Outcome}
use Rattle.flow_meaning.specs.declared.outcome.Outcome.TheVariants.{Complete}
use Rattle.flow_meaning.specs.StateAnswer.{state_answer, state_data}
use Rattle.flow_core.specs.RunState.{machine}
use Rattle.flow_core.specs.Fits.{Fits}
use Rattle.flow_core.proofs.state.State.answer.Goals as goal

pub returns : goal.returns
returns c =
    let P = c.args.m.now in
    let G = c.args.given in
    let r = c.args.self in
    let meant = sym (c.a_quiescent_state_has_the_meaning.ensures.answer P G (machine r) c.plan_is_consistent.ensures c.requires.fits.sound c.requires.quiet) in
    c.complete_unless.ensures (meaning.answer P G)
    (IfOk-weaker c.incomplete-found.result
    (λ (found : Option Outcome). (G : Data) → Fits P G r → unwrap_or found
    (Complete (length (all_tasks P)) (state_data G (machine r))) ≡ state_answer P G (machine r))
    (λ (found : Option Outcome). unwrap_or found (Complete (length (all_tasks P)) (state_data G (machine r))) ≡ meaning.answer P G)
    (λ found h. h G c.requires.fits ∙ meant)
    c.incomplete-found.ensures)
