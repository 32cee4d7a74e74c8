use Rattle.ready_deques.specs.Hands.{SameWorker}
use Rattle.ptg_measure.proofs.deques.steal_all.Given as goal

abbrev pub invariant-loop : goal.invariant-loop
invariant-loop g l =
    (goal.iterator-loop g).can_next l.iterator' × (goal.iterator-loop g).is_finite l.iterator' × SameWorker l.initial.hands l.hands
