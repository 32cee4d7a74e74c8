use Rattle.ready_deques.specs.Hands.{SameWorker}
use Rattle.worker_core.proofs.stealing.steal_among.Given as goal

abbrev pub invariant-loop-from : goal.invariant-loop-from
invariant-loop-from g l = SameWorker l.fn.hands l.hands
