use Rattle.std.specs.BinaryHeap.{IsHeap, heap_items}
use Rattle.dep_shard.specs.Queue.{order}
use Rattle.dep_shard.proofs.Searches.{HasReadyBelow}
use Rattle.dep_shard.proofs.queue.list_ready.Given as goal

abbrev pub invariant-loop-index : goal.invariant-loop-index
invariant-loop-index l = record {
  heap : IsHeap order (heap_items l.heap);
  below : HasReadyBelow l.table.entries l.index (heap_items l.heap);
}
