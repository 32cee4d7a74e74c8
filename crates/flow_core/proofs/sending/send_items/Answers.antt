use Rattle.std.proofs.Common.{ap, sym, subst, ◌∙◌}
use Rattle.dep_iter.specs.Tasks.{IsTask}
use Rattle.flow_meaning.specs.Ending.{has_outputs}
use Rattle.flow_core.specs.RunState.{end_of}
use Rattle.flow_core.proofs.sending.send_items.Goals as goal

pub of-at-requires : goal.of-at-requires
of-at-requires c = subst (λ P. IsTask P c.args.t.now) (sym c.plan.ensures.same) c.requires.task

pub send_all-requires : goal.send_all-requires
send_all-requires c = record {
  plan = c.of-at.ensures.plan ∙ c.plan.ensures.same;
  outputs = ap (λ t. has_outputs (end_of c.args.runner.now.run t)) c.of-at.ensures.task ∙ c.requires.outputs;
  fits = c.requires.fits;
  running = c.requires.running;
  goals = c.requires.goals;
}

pub returns-clause-done : goal.returns-clause-done
returns-clause-done c = rw c.of-at.ensures.task at c.send_all.ensures.done
