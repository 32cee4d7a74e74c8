use Rattle.std.proofs.Common.{refl}
use Rattle.std.proofs.lemmas.Bool.{false≢true}
use Rattle.flow_core.proofs.Fitting.{output_before}
use Rattle.flow_core.proofs.state.State.send.Goals as goal

pub returns-then-not-is_output-clause-exact : goal.returns-then-not-is_output-clause-exact
returns-then-not-is_output-clause-exact c = λ G fits. (
  λ k. absurd (false≢true k),
  λ now. c.if-not-is_output.ensures.output.1
      (output_before c.args.m.now G c.if-not-is_output.ensures.consistent c.args.self.now fits c.args.item.now now),
)

pub send_output-requires-clause-output : goal.send_output-requires-clause-output
send_output-requires-clause-output c = c.if-not-is_output.ensures.output.0 refl
