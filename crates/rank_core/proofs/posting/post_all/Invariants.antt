use Rattle.rank_core.proofs.Outgoings.{PostedSoFar}
use Rattle.rank_core.proofs.posting.post_all.Given as goal

abbrev pub invariant-loop-message : goal.invariant-loop-message
invariant-loop-message l = record {
  can_next : (goal.iterator-loop-message).can_next l.message-iterator;
  is_finite : (goal.iterator-loop-message).is_finite l.message-iterator;
  so_far : PostedSoFar l.at l.bench.tiles l.message-iterator.rest.items l.mail;
}
