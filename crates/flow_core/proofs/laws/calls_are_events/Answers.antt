use Rattle.flow_core.proofs.Fitting.{claim_event, end_event, send_event}
use Rattle.flow_core.proofs.laws.calls_are_events.Goals as goal

pub returns : goal.returns
returns c = record {
  claim = claim_event;
  end = end_event;
  send = λ P G r i con fits now. send_event P G con r fits i now;
}
