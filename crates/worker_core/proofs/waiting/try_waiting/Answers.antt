use Rattle.std.proofs.Common.{◌≡◌, List, ap, ◌∙◌, get_or, slice_get, Some}
use Rattle.ptg_base.specs.Lists.{IsIn}
use Rattle.list_lemmas.proofs.Members.{IsIn-map}
use Rattle.list_lemmas.proofs.Places.{IsIn-slice_get, slice_get_at}
use Rattle.worker_core.specs.declared.waiting.WaitingItem.{WaitingItem}
use Rattle.worker_core.specs.Waiting.{items_of}
use Rattle.worker_core.proofs.ItemLists.{is_next, its_sender}
use Rattle.worker_core.proofs.waiting.try_waiting.Goals as goal

pub try_item-requires-clause-sender : goal.try_item-requires-clause-sender
try_item-requires-clause-sender g c κs within =
    let P = g.B.Board.plan c.args.context.now.board.now in
    let G = g.B.Board.job_data c.args.context.now.board.now in
    let xs = c.args.waiting.now.items in
    let x = c.index-deref-index.result in
    let at : slice_get xs c.args.index ≡ Some x = slice_get_at xs c.args.index x c.requires.index
    (c.index-deref-index.is ∙ ap (λ (ts : List WaitingItem). get_or ts c.args.index x) c.deref.ensures.0) in
    let among : IsIn x.item (items_of xs) = IsIn-map (λ (y : WaitingItem). y.item) xs x
    (IsIn-slice_get xs c.args.index x at) in
    its_sender P G c.args.context.now.at.now.task.now (items_of xs) (g.B.Board.shown c.args.pass.now) x.item
    c.requires.may among

pub try_item-requires-clause-next : goal.try_item-requires-clause-next
try_item-requires-clause-next g c κs within =
    let P = g.B.Board.plan c.args.context.now.board.now in
    let G = g.B.Board.job_data c.args.context.now.board.now in
    let xs = c.args.waiting.now.items in
    let x = c.index-deref-index.result in
    let at : slice_get xs c.args.index ≡ Some x = slice_get_at xs c.args.index x c.requires.index
    (c.index-deref-index.is ∙ ap (λ (ts : List WaitingItem). get_or ts c.args.index x) c.deref.ensures.0) in
    let among : IsIn x.item (items_of xs) = IsIn-map (λ (y : WaitingItem). y.item) xs x
    (IsIn-slice_get xs c.args.index x at) in
    is_next P G c.args.context.now.at.now.task.now (items_of xs) (g.B.Board.shown c.args.pass.now) x.item c.requires.may
    among

pub try_item-requires-clause-shard : goal.try_item-requires-clause-shard
try_item-requires-clause-shard g c κs within =
    let xs = c.args.waiting.now.items in
    let x = c.index-deref-index.result in
    let at : slice_get xs c.args.index ≡ Some x = slice_get_at xs c.args.index x c.requires.index
    (c.index-deref-index.is ∙ ap (λ (ts : List WaitingItem). get_or ts c.args.index x) c.deref.ensures.0) in
    c.requires.shards x (IsIn-slice_get xs c.args.index x at)
