-- How the sends of a task go on: one item comes next, some wait, and the rest is left.
use Rattle.std.proofs.Common.{◌≡◌, List, [], ◌∷◌, ◌++◌, ap, sym, ◌∙◌, subst, append_assoc, refl, inl, arith}
use Rattle.ptg_base.specs.Lists.{IsIn}
use Rattle.ptg_base.specs.Task.{Task}
use Rattle.ptg_base.specs.declared.edge.Item.{Item}
use Rattle.plan_core.specs.declared.plan.Plan.{Plan}
use Rattle.coll_data.specs.Data.{Data}
use Rattle.dep_iter.specs.Items.{items}
use Rattle.list_lemmas.proofs.Members.{IsIn-append_right}
use Rattle.list_lemmas.proofs.Counts.{weigh-append}
use Rattle.flow_meaning.specs.Machine.{sender}
use Rattle.flow_meaning.specs.Sound.{with_its_tile}
use Rattle.work_board.specs.declared.record.PassRecord.{PassRecord}
use Rattle.work_board.specs.Records.{IsStill}
use Rattle.work_board.specs.Sends.{IsNext}
use Rattle.worker_core.specs.Sending.{HasSentAll, HasSentFrom, MaySendAll}
use Rattle.worker_core.specs.declared.waiting.WaitingItem.{WaitingItem}
use Rattle.worker_core.specs.Waiting.{items_of}
use Rattle.worker_core.proofs.WaitingItems.{items_with}
use Rattle.worker_core.proofs.ItemLists.{is_next, its_sender, may_first, may_rest, nothing_sent, one_sent, sent_beside}
use Rattle.worker_core.proofs.ItemLists.{sent_then}

-- the item that was next is the last of those that wait
pub held : (P : Plan) (G : Data) (all : List Item) (v : PassRecord) (waiting : List WaitingItem) (last : WaitingItem)
    (left : List Item) (w : PassRecord) → HasSentFrom P G all (items_of waiting ++ last.item ∷ left) v w
    → HasSentFrom P G all (items_of (waiting ++ last ∷ []) ++ left) v w
held P G all v waiting last left w far =
    let joined = append_assoc (items_of waiting) (last.item ∷ []) left in
    let pushed = ap (λ l. l ++ left) (items_with waiting last) in
    subst (λ l. HasSentFrom P G all l v w) (sym (pushed ∙ joined)) far

module _ (P : Plan) (G : Data) (t : Task) (all : List Item) (v : PassRecord) (may : MaySendAll P G t all v) where
  -- the items that wait may be sent
  pub waiting_may : (waiting left : List Item) (w : PassRecord) → HasSentFrom P G all (waiting ++ left) v w
      → MaySendAll P G t waiting w
  waiting_may waiting left w far = may_first P G t waiting left w (may_rest P G t all (waiting ++ left) v w may far)

  -- some of those that wait are sent
  pub some_go : (waiting still left : List Item) (w x : PassRecord) → HasSentFrom P G all (waiting ++ left) v w
      → HasSentFrom P G waiting still w x → HasSentFrom P G all (still ++ left) v x
  some_go waiting still left w x far some =
      sent_then P G all (waiting ++ left) (still ++ left) v w x far (sent_beside P G waiting still left w x some)

  module _ (waiting left : List Item) (i : Item) (w : PassRecord) (far : HasSentFrom P G all (waiting ++ i ∷ left) v w)
    where
      left_may : MaySendAll P G t (waiting ++ i ∷ left) w
      left_may = may_rest P G t all (waiting ++ i ∷ left) v w may far

      among : IsIn i (waiting ++ i ∷ left)
      among = IsIn-append_right i waiting (i ∷ left) (inl refl)

      -- the next item belongs to the task, and may be sent
      pub next_item : IsIn i (items P t)
      next_item = left_may.are_items i among

      pub next_sender : sender i ≡ t
      next_sender = its_sender P G t (waiting ++ i ∷ left) w i left_may among

      pub next_may : IsNext P G i (with_its_tile P G i).tile w
      next_may = is_next P G t (waiting ++ i ∷ left) w i left_may among

      -- the next item is sent
      pub next_goes : (x : PassRecord) → HasSentAll P G (i ∷ []) w x → HasSentFrom P G all (waiting ++ left) v x
      next_goes x sent =
          sent_then P G all (waiting ++ i ∷ left) (waiting ++ left) v w x far
          (one_sent P G i (waiting ++ i ∷ left) (waiting ++ left) w x
          (λ f. omega (arith, weigh-append f waiting (i ∷ left), weigh-append f waiting left)) sent)

      -- the turn of the next item is taken
      pub next_is_busy : (x : PassRecord) → IsStill w x → HasSentFrom P G all (waiting ++ i ∷ left) v x
      next_is_busy x still =
          sent_then P G all (waiting ++ i ∷ left) (waiting ++ i ∷ left) v w x far
          (nothing_sent P G (waiting ++ i ∷ left) w x still)
