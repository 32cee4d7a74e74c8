use Rattle.std.proofs.Common.{◌≤◌, vec_len}
use Rattle.dep_shard.proofs.stock.make_nodes.Given as goal

abbrev pub invariant-loop-i : goal.invariant-loop-i
invariant-loop-i l = record {
  count : l._i ≤ vec_len l.nodes;
  more : vec_len l.initial.nodes ≤ vec_len l.nodes;
}
