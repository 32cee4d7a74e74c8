use Rattle.std.specs.BinaryHeap.{IsHeap, heap_items, heap_len}
use Rattle.dep_shard.specs.Queue.{HasEveryReady, order}
use Rattle.dep_shard.proofs.queue.drop_stale.Given as goal

abbrev pub invariant-loop-first : goal.invariant-loop-first
invariant-loop-first l = record {
  heap : IsHeap order (heap_items l.heap);
  ready : HasEveryReady l.table.entries (heap_items l.heap);
}

abbrev pub decreases-loop-first : goal.decreases-loop-first
decreases-loop-first l = heap_len l.heap
