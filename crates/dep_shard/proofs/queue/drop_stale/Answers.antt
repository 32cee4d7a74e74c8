use Rattle.std.proofs.Common.{rules, sym}
use Rattle.std.specs.BinaryHeap.{heap_items}
use Rattle.dep_shard.proofs.Candidates.{Pops, popped}
use Rattle.dep_shard.proofs.queue.drop_stale.Goals as goal

pub loop-first-preserved : goal.loop-first-preserved
loop-first-preserved c =
    let pops : Pops (heap_items c.loop-first.heap) (heap_items c.pop-stale.new.self) c.pop-stale.result = record {
      top = c.pop-stale.ensures.top;
      moves = c.pop-stale.ensures.permutation;
      heap = c.pop-stale.ensures.heap_order;
      none = search rules;
    } in
    let both = popped _ _ _ _ _ pops c.in-Some.ensures.lookup c.loop-first.invariant.heap c.loop-first.invariant.ready (sym c.if-is_live.ensures) in
    record { heap = both.0; ready = both.1 }
