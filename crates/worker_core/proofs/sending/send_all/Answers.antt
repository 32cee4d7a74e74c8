use Rattle.std.proofs.Common.{◌≡◌, List, [], ◌++◌, ◌∷◌, ap, sym, ◌∙◌, subst}
use Rattle.ptg_base.specs.declared.edge.Item.{Item}
use Rattle.dep_iter.specs.Items.{items}
use Rattle.work_board.specs.Records.{IsStill}
use Rattle.worker_core.specs.declared.waiting.WaitingItem.{WaitingItem}
use Rattle.worker_core.specs.Sending.{HasSentAll, HasSentFrom, SentOrStill}
use Rattle.worker_core.specs.Waiting.{AreOfTheirShards, items_of}
use Rattle.worker_core.proofs.ItemLists.{not_begun}
use Rattle.worker_core.proofs.SendSteps.{held, next_goes, next_is_busy, next_item, next_may, next_sender, some_go}
use Rattle.worker_core.proofs.SendSteps.{waiting_may}
use Rattle.worker_core.proofs.TaskItems.{all_end, all_may, to_task}
use Rattle.worker_core.proofs.WaitingItems.{shards_with}
use Rattle.worker_core.proofs.sending.send_all.Goals as goal

pub loop-item-init : goal.loop-item-init
loop-item-init g c =
    let P = g.B.Board.plan c.args.context.now.board.now in
    let G = g.B.Board.job_data c.args.context.now.board.now in
    let of = g.B.Board.placement c.args.context.now.board.now in
    let v = g.B.Board.shown c.args.pass.now in
    let all = c.into_iter-item-iterator.result in
    record {
      can_next = tt;
      is_finite = tt;
      pass = c.requires.pass;
      hands = (λ i. c.args.hands.now.number, λ i. c.args.hands.now.deques);
      shards = subst (λ (l : List WaitingItem). AreOfTheirShards of l) (sym c.clear.ensures) (λ x h. absurd h);
      so_far = subst (λ (l : List WaitingItem). HasSentFrom P G all (items_of l ++ all) v v) (sym c.clear.ensures)
          (not_begun P G all v);
    }

pub shard_for-shard-requires-clause-sender : goal.shard_for-shard-requires-clause-sender
shard_for-shard-requires-clause-sender g c κs within =
    let P = g.B.Board.plan c.args.context.now.board.now in
    let G = g.B.Board.job_data c.args.context.now.board.now in
    let of = g.B.Board.placement c.args.context.now.board.now in
    let v = g.B.Board.shown c.args.pass.now in
    let all = c.into_iter-item-iterator.result in
    let t = c.args.context.now.at.now.task.now in
    let p = c.args.context.now.at.now.plan.now in
    let job = c.args.context.now.at.now.of_job in
    let tiles = c.args.context.now.bench.now.tiles in
    let are : all ≡ items p t = c.into_iter-item-iterator.ensures.into_iter_gives ∙ c.items-item-items.ensures in
    let may = all_may P p G t c.args.context.now.of_job job tiles c.args.context.now.outputs v c.requires.unsent all
    are in
    let w = g.B.Board.shown c.loop-item.pass in
    let waits = items_of c.loop-item.outbox.waiting.items in
    let i = c.in-Some.item in
    let left = c.next.new.self in
    let far = subst (λ (l : List Item). HasSentFrom P G all (waits ++ l) v w) c.in-Some.ensures.steps
    c.loop-item.invariant.so_far in
    next_sender P G t all v may waits left i w far

pub shard_for-shard-requires-clause-target : goal.shard_for-shard-requires-clause-target
shard_for-shard-requires-clause-target g c κs within =
    let P = g.B.Board.plan c.args.context.now.board.now in
    let G = g.B.Board.job_data c.args.context.now.board.now in
    let of = g.B.Board.placement c.args.context.now.board.now in
    let v = g.B.Board.shown c.args.pass.now in
    let all = c.into_iter-item-iterator.result in
    let t = c.args.context.now.at.now.task.now in
    let p = c.args.context.now.at.now.plan.now in
    let job = c.args.context.now.at.now.of_job in
    let tiles = c.args.context.now.bench.now.tiles in
    let are : all ≡ items p t = c.into_iter-item-iterator.ensures.into_iter_gives ∙ c.items-item-items.ensures in
    let may = all_may P p G t c.args.context.now.of_job job tiles c.args.context.now.outputs v c.requires.unsent all
    are in
    let w = g.B.Board.shown c.loop-item.pass in
    let waits = items_of c.loop-item.outbox.waiting.items in
    let i = c.in-Some.item in
    let left = c.next.new.self in
    let far = subst (λ (l : List Item). HasSentFrom P G all (waits ++ l) v w) c.in-Some.ensures.steps
    c.loop-item.invariant.so_far in
    to_task P p G t c.args.context.now.of_job job tiles c.args.context.now.outputs v c.requires.unsent all are i
    (next_item P G t all v may waits left i w far)

pub try_item-requires-clause-sender : goal.try_item-requires-clause-sender
try_item-requires-clause-sender g c κs within =
    let P = g.B.Board.plan c.args.context.now.board.now in
    let G = g.B.Board.job_data c.args.context.now.board.now in
    let of = g.B.Board.placement c.args.context.now.board.now in
    let v = g.B.Board.shown c.args.pass.now in
    let all = c.into_iter-item-iterator.result in
    let t = c.args.context.now.at.now.task.now in
    let p = c.args.context.now.at.now.plan.now in
    let job = c.args.context.now.at.now.of_job in
    let tiles = c.args.context.now.bench.now.tiles in
    let are : all ≡ items p t = c.into_iter-item-iterator.ensures.into_iter_gives ∙ c.items-item-items.ensures in
    let may = all_may P p G t c.args.context.now.of_job job tiles c.args.context.now.outputs v c.requires.unsent all
    are in
    let w = g.B.Board.shown c.loop-item.pass in
    let waits = items_of c.loop-item.outbox.waiting.items in
    let i = c.in-Some.item in
    let left = c.next.new.self in
    let far = subst (λ (l : List Item). HasSentFrom P G all (waits ++ l) v w) c.in-Some.ensures.steps
    c.loop-item.invariant.so_far in
    next_sender P G t all v may waits left i w far

pub try_item-requires-clause-next : goal.try_item-requires-clause-next
try_item-requires-clause-next g c κs within =
    let P = g.B.Board.plan c.args.context.now.board.now in
    let G = g.B.Board.job_data c.args.context.now.board.now in
    let of = g.B.Board.placement c.args.context.now.board.now in
    let v = g.B.Board.shown c.args.pass.now in
    let all = c.into_iter-item-iterator.result in
    let t = c.args.context.now.at.now.task.now in
    let p = c.args.context.now.at.now.plan.now in
    let job = c.args.context.now.at.now.of_job in
    let tiles = c.args.context.now.bench.now.tiles in
    let are : all ≡ items p t = c.into_iter-item-iterator.ensures.into_iter_gives ∙ c.items-item-items.ensures in
    let may = all_may P p G t c.args.context.now.of_job job tiles c.args.context.now.outputs v c.requires.unsent all
    are in
    let w = g.B.Board.shown c.loop-item.pass in
    let waits = items_of c.loop-item.outbox.waiting.items in
    let i = c.in-Some.item in
    let left = c.next.new.self in
    let far = subst (λ (l : List Item). HasSentFrom P G all (waits ++ l) v w) c.in-Some.ensures.steps
    c.loop-item.invariant.so_far in
    next_may P G t all v may waits left i w far

pub loop-item-preserved-then-branch : goal.loop-item-preserved-then-branch
loop-item-preserved-then-branch g c =
    let P = g.B.Board.plan c.args.context.now.board.now in
    let G = g.B.Board.job_data c.args.context.now.board.now in
    let of = g.B.Board.placement c.args.context.now.board.now in
    let v = g.B.Board.shown c.args.pass.now in
    let all = c.into_iter-item-iterator.result in
    let t = c.args.context.now.at.now.task.now in
    let p = c.args.context.now.at.now.plan.now in
    let job = c.args.context.now.at.now.of_job in
    let tiles = c.args.context.now.bench.now.tiles in
    let are : all ≡ items p t = c.into_iter-item-iterator.ensures.into_iter_gives ∙ c.items-item-items.ensures in
    let may = all_may P p G t c.args.context.now.of_job job tiles c.args.context.now.outputs v c.requires.unsent all
    are in
    let w = g.B.Board.shown c.loop-item.pass in
    let waits = items_of c.loop-item.outbox.waiting.items in
    let i = c.in-Some.item in
    let left = c.next.new.self in
    let far = subst (λ (l : List Item). HasSentFrom P G all (waits ++ l) v w) c.in-Some.ensures.steps
    c.loop-item.invariant.so_far in
    let x = g.B.Board.shown c.try_item.new.pass in
    let sent : HasSentAll P G (i ∷ []) w x = subst (λ b. SentOrStill P G b i w x) c.if-branch.true
    c.in_ok-try_item.ensures.sent in
    let hands = c.in_ok-try_item.ensures.hands in
    record {
      can_next = tt;
      is_finite = tt;
      pass = c.in_ok-try_item.ensures.pass;
      hands = (hands.0 ∙ c.loop-item.invariant.hands.0, hands.1 ∙ c.loop-item.invariant.hands.1);
      shards = c.loop-item.invariant.shards;
      so_far = next_goes P G t all v may waits left i w far x sent;
    }

pub make_room-requires-clause-may : goal.make_room-requires-clause-may
make_room-requires-clause-may g c κs within =
    let P = g.B.Board.plan c.args.context.now.board.now in
    let G = g.B.Board.job_data c.args.context.now.board.now in
    let of = g.B.Board.placement c.args.context.now.board.now in
    let v = g.B.Board.shown c.args.pass.now in
    let all = c.into_iter-item-iterator.result in
    let t = c.args.context.now.at.now.task.now in
    let p = c.args.context.now.at.now.plan.now in
    let job = c.args.context.now.at.now.of_job in
    let tiles = c.args.context.now.bench.now.tiles in
    let are : all ≡ items p t = c.into_iter-item-iterator.ensures.into_iter_gives ∙ c.items-item-items.ensures in
    let may = all_may P p G t c.args.context.now.of_job job tiles c.args.context.now.outputs v c.requires.unsent all
    are in
    let w = g.B.Board.shown c.loop-item.pass in
    let waits = items_of c.loop-item.outbox.waiting.items in
    let i = c.in-Some.item in
    let left = c.next.new.self in
    let far = subst (λ (l : List Item). HasSentFrom P G all (waits ++ l) v w) c.in-Some.ensures.steps
    c.loop-item.invariant.so_far in
    let x = g.B.Board.shown c.try_item.new.pass in
    let still : IsStill w x = subst (λ b. SentOrStill P G b i w x) c.if-branch.false c.in_ok-try_item.ensures.sent in
    let busy = next_is_busy P G t all v may waits left i w far x still in
    waiting_may P G t all v may waits (i ∷ left) x busy

pub loop-item-preserved : goal.loop-item-preserved
loop-item-preserved g c =
    let P = g.B.Board.plan c.args.context.now.board.now in
    let G = g.B.Board.job_data c.args.context.now.board.now in
    let of = g.B.Board.placement c.args.context.now.board.now in
    let v = g.B.Board.shown c.args.pass.now in
    let all = c.into_iter-item-iterator.result in
    let t = c.args.context.now.at.now.task.now in
    let p = c.args.context.now.at.now.plan.now in
    let job = c.args.context.now.at.now.of_job in
    let tiles = c.args.context.now.bench.now.tiles in
    let are : all ≡ items p t = c.into_iter-item-iterator.ensures.into_iter_gives ∙ c.items-item-items.ensures in
    let may = all_may P p G t c.args.context.now.of_job job tiles c.args.context.now.outputs v c.requires.unsent all
    are in
    let w = g.B.Board.shown c.loop-item.pass in
    let waits = items_of c.loop-item.outbox.waiting.items in
    let i = c.in-Some.item in
    let left = c.next.new.self in
    let far = subst (λ (l : List Item). HasSentFrom P G all (waits ++ l) v w) c.in-Some.ensures.steps
    c.loop-item.invariant.so_far in
    let x = g.B.Board.shown c.try_item.new.pass in
    let still : IsStill w x = subst (λ b. SentOrStill P G b i w x) c.if-branch.false c.in_ok-try_item.ensures.sent in
    let busy = next_is_busy P G t all v may waits left i w far x still in
    let y = g.B.Board.shown c.make_room.new.pass in
    let kept = c.make_room.new.waiting.items in
    let last : WaitingItem = record { item = i; shard = c.shard_for-shard.result } in
    let pushed = sym c.push.ensures.items in
    let first = c.in_ok-try_item.ensures.hands in
    let then = c.in_ok-make_room.ensures.hands in
    record {
      can_next = tt;
      is_finite = tt;
      pass = c.in_ok-make_room.ensures.pass;
      hands = (then.0 ∙ first.0 ∙ c.loop-item.invariant.hands.0, then.1 ∙ first.1 ∙ c.loop-item.invariant.hands.1);
      shards = subst (λ (l : List WaitingItem). AreOfTheirShards of l) pushed
          (shards_with of kept last c.in_ok-make_room.ensures.shards c.shard_for-shard.ensures);
      so_far = subst (λ (l : List WaitingItem). HasSentFrom P G all (items_of l ++ left) v y) pushed
          (held P G all v kept last left y (some_go P G t all v may waits (items_of kept) (i ∷ left) x y busy
          c.in_ok-make_room.ensures.sent));
    }

pub send_waiting-requires-clause-may : goal.send_waiting-requires-clause-may
send_waiting-requires-clause-may g c κs within =
    let P = g.B.Board.plan c.args.context.now.board.now in
    let G = g.B.Board.job_data c.args.context.now.board.now in
    let of = g.B.Board.placement c.args.context.now.board.now in
    let v = g.B.Board.shown c.args.pass.now in
    let all = c.into_iter-item-iterator.result in
    let t = c.args.context.now.at.now.task.now in
    let p = c.args.context.now.at.now.plan.now in
    let job = c.args.context.now.at.now.of_job in
    let tiles = c.args.context.now.bench.now.tiles in
    let are : all ≡ items p t = c.into_iter-item-iterator.ensures.into_iter_gives ∙ c.items-item-items.ensures in
    let may = all_may P p G t c.args.context.now.of_job job tiles c.args.context.now.outputs v c.requires.unsent all
    are in
    let w = g.B.Board.shown c.loop-item.pass in
    let waits = items_of c.loop-item.outbox.waiting.items in
    let far = subst (λ (l : List Item). HasSentFrom P G all (waits ++ l) v w) c.in-None.ensures.steps.0
    c.loop-item.invariant.so_far in
    waiting_may P G t all v may waits [] w far

pub returns-clause-sent : goal.returns-clause-sent
returns-clause-sent g c =
    let P = g.B.Board.plan c.args.context.now.board.now in
    let G = g.B.Board.job_data c.args.context.now.board.now in
    let of = g.B.Board.placement c.args.context.now.board.now in
    let v = g.B.Board.shown c.args.pass.now in
    let all = c.into_iter-item-iterator.result in
    let t = c.args.context.now.at.now.task.now in
    let p = c.args.context.now.at.now.plan.now in
    let job = c.args.context.now.at.now.of_job in
    let tiles = c.args.context.now.bench.now.tiles in
    let are : all ≡ items p t = c.into_iter-item-iterator.ensures.into_iter_gives ∙ c.items-item-items.ensures in
    let may = all_may P p G t c.args.context.now.of_job job tiles c.args.context.now.outputs v c.requires.unsent all
    are in
    let w = g.B.Board.shown c.loop-item.pass in
    let waits = items_of c.loop-item.outbox.waiting.items in
    let far = subst (λ (l : List Item). HasSentFrom P G all (waits ++ l) v w) c.in-None.ensures.steps.0
    c.loop-item.invariant.so_far in
    let x = g.B.Board.shown c.send_waiting.new.pass in
    let still = items_of c.send_waiting.new.waiting.items in
    let gone : still ≡ [] = ap items_of c.in_ok-send_waiting.ensures.all in
    let done = some_go P G t all v may waits still [] w x far c.in_ok-send_waiting.ensures.sent in
    all_end P p G t c.args.context.now.of_job job tiles c.args.context.now.outputs v c.requires.unsent all are x
    (subst (λ (l : List Item). HasSentFrom P G all (l ++ []) v x) gone done)
