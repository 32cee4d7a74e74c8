use Rattle.std.proofs.Common.{arith, ◌≡◌, ◌+◌, ◌∙◌, sym, subst, length, List}
use Rattle.std.specs.BinaryHeap.{IsHeap, heap_items}
use Rattle.dep_shard.specs.Queue.{Candidate, order}
use Rattle.dep_shard.proofs.Searches.{HasReadyBelow, lists_some, lists_none, lists_all, unrefused}
use Rattle.dep_shard.proofs.queue.list_ready.Goals as goal
use Rattle.dep_shard.proofs.queue.list_ready.Goals.{in-Some+else-is_err, in_default}

pub loop-index-preserved : goal.loop-index-preserved
loop-index-preserved c =
    let es = c.args.table.now.entries in
    let n = c.loop-index.index in
    let before : List Candidate = heap_items c.loop-index.heap in
    elim c.match-candidate_at.branch [
      | in-Some+else-is_err w ↦
          let ok = sym w.is_err.ensures.value ∙ w.if-is_err.false in
          let heap : IsHeap order (heap_items w.push.new.self) = unrefused _ ok w.push.ensures.heap_order c.loop-index.invariant.heap in
          let below : HasReadyBelow es (n + 1) (heap_items w.push.new.self) =
          lists_some es n w.in-Some.candidate before (heap_items w.push.new.self) c.loop-index.invariant.below
          (sym w.in-Some.is ∙ c.candidate_at.ensures) (unrefused _ ok w.push.ensures.permutation) in
          record {
            heap = subst (λ (cs : List Candidate). IsHeap order cs) (λ i. heap_items (sym w.heap-is i)) heap;
            below = subst (λ (cs : List Candidate). HasReadyBelow es (n + 1) cs) (λ i. heap_items (sym w.heap-is i)) below;
          }
      | in_default w ↦
          let below : HasReadyBelow es (n + 1) before = lists_none es n before c.loop-index.invariant.below (sym w.in_default.is ∙ c.candidate_at.ensures) in
          record {
            heap = subst (λ (cs : List Candidate). IsHeap order cs) (λ i. heap_items (sym w.heap-is i)) c.loop-index.invariant.heap;
            below = subst (λ (cs : List Candidate). HasReadyBelow es (n + 1) cs) (λ i. heap_items (sym w.heap-is i)) below;
          }
    ]

pub returns-clause-ready : goal.returns-clause-ready
returns-clause-ready c h =
    let es = c.args.table.now.entries in
    let n = c.loop-index.index in
    let all : n ≡ length es = omega (arith, c.loop-index-test.false, c.loop-index.auto.index-end, c.len-index-end.ensures.len) in
    lists_all es n (heap_items c.loop-index.heap) all c.loop-index.invariant.below
