use Rattle.std.proofs.Common.{refl}
use Rattle.rank_core.proofs.Kept.{new_keeps}
use Rattle.rank_core.proofs.world.World.new.Goals as goal

pub invariant_of-result : goal.invariant_of-result
invariant_of-result c =
    new_keeps c.args.m.now c.args.given c.args.ranks c.in_ok-shards.shards.items c.new-3.result.state
    c.in_ok-bench.bench (record { under_way = c.new-2.result; sent = 0 }) c.plan_is_consistent.ensures
    c.requires.fit c.requires.ranks.0 c.requires.ranks.1
    c.in_ok-shards.ensures c.new-3.ensures c.in_ok-bench.ensures c.new-2.ensures.empty refl
