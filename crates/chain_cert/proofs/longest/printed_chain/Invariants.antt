use Rattle.std.proofs.Common.{◌-◌, length}
use Rattle.dep_iter.specs.Tasks.{all_tasks}
use Rattle.chain_cert.proofs.Tracing.{IsTracing}
use Rattle.chain_cert.proofs.longest.printed_chain.Given as goal

abbrev pub invariant-loop-next : goal.invariant-loop-next
invariant-loop-next l = IsTracing l.m l.weights l.back.items l.next

abbrev pub decreases-loop-next : goal.decreases-loop-next
decreases-loop-next l = length (all_tasks l.m) - length l.back.items
