use Rattle.std.proofs.Common.{◌-◌, ◌≤◌, length, take}
use Rattle.dep_iter.specs.Tasks.{all_tasks}
use Rattle.chain_cert.specs.Growing.{HasGrown, edges_of}
use Rattle.chain_cert.proofs.order.order_of.Given as goal

abbrev pub invariant-loop-at : goal.invariant-loop-at
invariant-loop-at l = record {
  within : l.at ≤ length l.builder.order.items;
  grown : HasGrown l.m (edges_of l.m (take l.at l.builder.order.items)) l.builder.order.items l.builder.lacking.entries;
}

-- in each turn, the edges out of one more task come
abbrev pub decreases-loop-at : goal.decreases-loop-at
decreases-loop-at l = length (all_tasks l.m) - l.at
