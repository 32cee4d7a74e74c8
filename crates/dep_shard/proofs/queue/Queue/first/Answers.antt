use Rattle.std.proofs.Common.{rules, sym, subst}
use Rattle.std.specs.BinaryHeap.{heap_items}
use Rattle.ptg_base.specs.Task.{Task}
use Rattle.dep_shard.specs.Content.{HasNoReady, IsBest}
use Rattle.dep_shard.proofs.Candidates.{best_from, none_from, live_front}
use Rattle.dep_shard.proofs.QueueLemmas.{if_none}
use Rattle.dep_shard.proofs.queue.Queue.first.Goals as goal

pub returns-in_err-best-clause-none : goal.returns-in_err-best-clause-none
returns-in_err-best-clause-none c =
    let none : HasNoReady c.args.table.now.entries = none_from _ (heap_items c.drop_stale.new.heap) (search rules) c.drop_stale.ensures.ready in
    if_none _ _ none

pub returns-clause-some : goal.returns-clause-some
returns-clause-some c =
    let es = c.args.table.now.entries in
    let live = live_front es c.in_ok-best.best.now (heap_items c.drop_stale.new.heap) c.drop_stale.ensures.front c.in_ok-best.ensures.lookup (search rules) in
    let best = best_from es c.in_ok-best.best.now (heap_items c.drop_stale.new.heap) c.drop_stale.ensures.ready
    (c.in_ok-best.ensures.greatest c.drop_stale.ensures.heap) live in
    subst (λ (t : Task). IsBest es t) (sym c.copy.ensures) best
