-- The items of one task: they may be sent one after another, and then the task may end.
use Rattle.std.proofs.Common.{◌≡◌, ℕ, ℤ, ◌<◌, true, List, [], ◌∙◌, ap, sym, subst, refl, IsTrue, nat_lt, arith, Option}
use Rattle.std.proofs.Common.{Ok, Some}
use Rattle.std.proofs.lemmas.Bool.Decides.{nat_tests}
use Rattle.ptg_base.specs.Lists.{IsIn}
use Rattle.ptg_base.specs.Task.{Task}
use Rattle.ptg_base.specs.declared.edge.Item.{Item}
use Rattle.ptg_base.specs.declared.edge.Item.TheVariants as item
use Rattle.plan_core.specs.declared.plan.Plan.{Plan}
use Rattle.coll_data.specs.Data.{Data}
use Rattle.dep_iter.specs.Tasks.{IsTask}
use Rattle.dep_iter.specs.Items.{items}
use Rattle.dep_iter.specs.Consistent.{IsConsistent}
use Rattle.dep_iter.proofs.CallerLemmas.{item_edge, once-items}
use Rattle.list_lemmas.proofs.Counts.{weigh-append}
use Rattle.list_lemmas.specs.Counting.{as_number}
use Rattle.flow_meaning.specs.Comparing.{same_item}
use Rattle.flow_meaning.specs.Ending.{has_outputs}
use Rattle.flow_meaning.specs.Backward.{ended}
use Rattle.flow_meaning.specs.Machine.{send_count}
use Rattle.work_board.specs.declared.record.PassRecord.{PassRecord}
use Rattle.work_board.specs.Records.{done_by}
use Rattle.work_board.specs.Sends.{MayEnd}
use Rattle.worker_core.specs.Sending.{GoesToTask, HasSentFrom, MaySendAll, RunsUnsent}
use Rattle.worker_core.proofs.ItemLists.{count_after, is_among}

positive : (n : ℕ) → 0 < n → nat_lt 0 n ≡ true
positive n h = grind (arith, nat_tests)

module _ (P : Plan) (G : Data) (con : IsConsistent P) (t : Task) (job : IsTask P t) where
  -- the target of an edge among them is a task of the job
  pub goes_to_task : (i : Item) → IsIn i (items P t) → GoesToTask P i
  goes_to_task (item.Edge e) h = (con.connected t job).to_tasks e (item_edge (items P t) e h)
  goes_to_task (item.Write w) h = tt

  -- the items may be sent one after another
  pub may_send : (v : PassRecord) → IsTrue (has_outputs (ended P G t)) → RunsUnsent P t v
      → MaySendAll P G t (items P t) v
  may_send v outputs runs = record {
    runs = runs.runs;
    outputs = outputs;
    are_items = λ i h. h;
    once = once-items P con t job;
    unsent = runs.unsent;
  }

  -- if none is left, the task may end
  pub may_end : (v w : PassRecord) → IsTrue (has_outputs (ended P G t)) → RunsUnsent P t v
      → HasSentFrom P G (items P t) [] v w → MayEnd P G t w
  may_end v w outputs runs far = record {
    runs = far.sends.running ∙ runs.runs;
    outputs = outputs;
    sent = λ i h.
        let all = items P t in
        let counts = count_after P G far.sent v w i far.sends in
        let some = is_among i all h in
        let same = far.others (λ j. as_number (same_item i j)) in
        let parts = weigh-append (λ j. as_number (same_item i j)) far.sent [] in
        positive (send_count (done_by w) i) (omega (arith, counts, some, same, parts));
  }

-- The same of what a call of `TaskAt::items` yielded: `p` is the plan of its task.
module _ (P p : Plan) (G : Data) (t : Task) (same : p ≡ P) (job : IsTask p t) (tiles : List (Option (List ℤ)))
    (leaves : ended P G t ≡ Some (Ok tiles)) (v : PassRecord) (runs : RunsUnsent P t v) (all : List Item)
    (are : all ≡ items p t) where
  its_job : IsTask P t
  its_job = subst (λ q. IsTask q t) same job

  its_outputs : IsTrue (has_outputs (ended P G t))
  its_outputs = subst (λ e. IsTrue (has_outputs e)) (sym leaves) refl

  its_items : all ≡ items P t
  its_items = are ∙ ap (λ q. items q t) same

  pub all_may : MaySendAll P G t all v
  all_may = subst (λ l. MaySendAll P G t l v) (sym its_items)
      (may_send P G runs.consistent t its_job v its_outputs runs)

  pub to_task : (i : Item) → IsIn i (items P t) → GoesToTask P i
  to_task i h = goes_to_task P G runs.consistent t its_job i h

  pub all_end : (w : PassRecord) → HasSentFrom P G all [] v w → MayEnd P G t w
  all_end w far =
      may_end P G runs.consistent t its_job v w its_outputs runs (subst (λ l. HasSentFrom P G l [] v w) its_items far)
