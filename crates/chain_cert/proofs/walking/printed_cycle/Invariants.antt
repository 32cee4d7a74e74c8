use Rattle.std.proofs.Common.{◌-◌, List, length}
use Rattle.ptg_base.specs.Task.{Task}
use Rattle.dep_iter.specs.Tasks.{all_tasks}
use Rattle.chain_cert.specs.Finding.{LacksTasks}
use Rattle.chain_cert.proofs.WalkingBack.{IsWalking}
use Rattle.chain_cert.proofs.walking.printed_cycle.Given as goal

abbrev pub invariant-loop-next : goal.invariant-loop-next
invariant-loop-next l = (order : List Task) → LacksTasks l.m order l.table.entries → IsWalking l.m order l.met.keys l.next

abbrev pub decreases-loop-next : goal.decreases-loop-next
decreases-loop-next l = length (all_tasks l.m) - length l.met.keys
