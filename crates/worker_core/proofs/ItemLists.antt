-- The items of a task, sent one after another in any order.
use Rattle.std.proofs.Common.{◌≡◌, ◌+◌, ◌<◌, ◌≤◌, List, [], ◌∷◌, ◌++◌, map, refl, ap, sym, ◌∙◌, subst, append_assoc}
use Rattle.std.proofs.Common.{IsTrue, arith}
use Rattle.std.proofs.lemmas.List.{append-nil, map-append}
use Rattle.ptg_base.specs.Lists.{HasNoRepeats, IsIn}
use Rattle.ptg_base.specs.Task.{Task}
use Rattle.ptg_base.specs.declared.edge.Item.{Item}
use Rattle.plan_core.specs.declared.plan.Plan.{Plan}
use Rattle.coll_data.specs.Data.{Data}
use Rattle.dep_iter.specs.Items.{items}
use Rattle.list_lemmas.proofs.Members.{IsIn-append_left, IsIn-append_right}
use Rattle.list_lemmas.proofs.Counts.{HasSameMembers-sym, count-once, count-some, same_in, weigh-append}
use Rattle.list_lemmas.proofs.Distinct.{HasNoRepeats-left}
use Rattle.list_lemmas.specs.Counting.{HasSameMembers, as_number, count, weigh}
use Rattle.flow_meaning.specs.Comparing.{same_item}
use Rattle.flow_meaning.specs.Ending.{has_outputs}
use Rattle.flow_meaning.specs.Backward.{ended}
use Rattle.flow_meaning.specs.Machine.{SentItem, send_count, sender}
use Rattle.flow_meaning.proofs.CallerLemmas.{item_sender, same_item-decides}
use Rattle.flow_meaning.specs.Sound.{with_its_tile}
use Rattle.work_board.specs.declared.record.PassRecord.{PassRecord}
use Rattle.work_board.specs.Records.{IsStill, done_by}
use Rattle.work_board.specs.Sends.{IsNext}
use Rattle.worker_core.specs.Sending.{HasSentAll, HasSentFrom, HasSentSome, MaySendAll}
use Rattle.worker_core.proofs.Steps.{kept_then}

-- an item occurs in a list that has it
pub is_among : (i : Item) (js : List Item) → IsIn i js → 0 < count (same_item i) js
is_among i js h = count-some (same_item i) js i h ((same_item-decides i i).1 refl)

-- a list in which each item occurs at most once has no repeats
distinct : (is : List Item) → ((i : Item) → count (same_item i) is ≤ 1) → HasNoRepeats is
distinct [] most = tt
distinct (i ∷ is) most = (
  λ again.
      let here : as_number (same_item i i) ≡ 1 = ap as_number ((same_item-decides i i).1 refl) in
      let later = is_among i is again in
      let all = most i in
      absurd (omega (arith, here, later, all)),
  distinct is (λ j. let all = most j in omega (arith, all)),
)

-- how often an item occurs in a list without repeats, some of whose items were sent
module _ (old sent new : List Item) (once : HasNoRepeats old) (same : HasSameMembers old (sent ++ new)) where
  both_at_most : (i : Item) → count (same_item i) sent + count (same_item i) new ≤ 1
  both_at_most i =
      let most = count-once same_item (λ a b. (same_item-decides a b).0) old once i in
      let all = same (λ j. as_number (same_item i j)) in
      let parts = weigh-append (λ j. as_number (same_item i j)) sent new in
      omega (arith, most, all, parts)

  -- an item that is left was not sent
  none_sent : (i : Item) → IsIn i new → count (same_item i) sent ≡ 0
  none_sent i h =
      let both = both_at_most i in
      let some = is_among i new h in
      omega (arith, both, some)

  rest_once : HasNoRepeats new
  rest_once = distinct new (λ i. let both = both_at_most i in omega (arith, both))

  was_among : (i : Item) → IsIn i new → IsIn i old
  was_among i h =
      same_in same_item same_item-decides (sent ++ new) old (HasSameMembers-sym old (sent ++ new) same) i
      (IsIn-append_right i sent new h)

module _ (P : Plan) (G : Data) where
  sent_count : (i : Item) (js : List Item) → weigh (λ (x : SentItem). as_number (same_item i x.item))
      (map (with_its_tile P G) js) ≡ count (same_item i) js
  sent_count i [] = refl
  sent_count i (j ∷ js) = ap (λ n. as_number (same_item i j) + n) (sent_count i js)

  -- after these sends an item was sent as often as before, plus as often as it is among them
  pub count_after : (is : List Item) (v w : PassRecord) (i : Item) → HasSentAll P G is v w
      → send_count (done_by w) i ≡ send_count (done_by v) i + count (same_item i) is
  count_after is v w i sent =
      ap (weigh (λ (x : SentItem). as_number (same_item i x.item))) sent.sends
      ∙ weigh-append (λ (x : SentItem). as_number (same_item i x.item)) v.sends (map (with_its_tile P G) is)
      ∙ ap (λ n. send_count (done_by v) i + n) (sent_count i is)

  -- a look at a turn that is taken sends nothing
  pub nothing_sent : (is : List Item) (v w : PassRecord) → IsStill v w → HasSentFrom P G is is v w
  nothing_sent is v w still = record {
    sent = [];
    others = λ f. refl;
    sends = record {
      sends = still.done.sends ∙ sym (append-nil v.sends);
      claims = still.done.claims;
      stamps = still.done.stamps;
      handed = still.done.handed;
      running = still.running;
      kept = still.kept;
    };
  }

  pub not_begun : (is : List Item) (v : PassRecord) → HasSentFrom P G is is v v
  not_begun is v = nothing_sent is v v (record {
    kept = record { names = refl; turns = refl; quiet = refl; halts = refl; credit = refl };
    done = record { claims = refl; stamps = refl; handed = refl; sends = refl };
    running = refl;
  })

  pub one_sent : (i : Item) (old new : List Item) (v w : PassRecord) → HasSameMembers old (i ∷ new)
      → HasSentAll P G (i ∷ []) v w → HasSentFrom P G old new v w
  one_sent i old new v w same sends = record { sent = i ∷ []; others = same; sends = sends }

  both_sends : (is js : List Item) (u v w : PassRecord) → HasSentAll P G is u v → HasSentAll P G js v w
      → HasSentAll P G (is ++ js) u w
  both_sends is js u v w one two = record {
    sends = two.sends ∙ ap (λ l. l ++ map (with_its_tile P G) js) one.sends
        ∙ append_assoc u.sends (map (with_its_tile P G) is) (map (with_its_tile P G) js)
        ∙ ap (λ l. u.sends ++ l) (sym (map-append (with_its_tile P G) is js));
    claims = two.claims ∙ one.claims;
    stamps = two.stamps ∙ one.stamps;
    handed = two.handed ∙ one.handed;
    running = two.running ∙ one.running;
    kept = kept_then one.kept two.kept;
  }

  -- some items were sent, and then some of the others
  pub sent_then : (xs ys zs : List Item) (u v w : PassRecord) → HasSentFrom P G xs ys u v → HasSentFrom P G ys zs v w
      → HasSentFrom P G xs zs u w
  sent_then xs ys zs u v w one two = record {
    sent = one.sent ++ two.sent;
    others = λ f.
        let first = one.others f in
        let then = two.others f in
        omega (
          arith,
          first,
          then,
          weigh-append f one.sent ys,
          weigh-append f two.sent zs,
          weigh-append f
              (one.sent ++ two.sent) zs,
          weigh-append f one.sent two.sent,
        );
    sends = both_sends one.sent two.sent u v w one.sends two.sends;
  }

  -- other items beside them stay
  pub sent_beside : (xs ys rest : List Item) (v w : PassRecord) → HasSentFrom P G xs ys v w
      → HasSentFrom P G (xs ++ rest) (ys ++ rest) v w
  sent_beside xs ys rest v w far = record {
    sent = far.sent;
    others = λ f.
        let these = far.others f in
        omega (
          arith,
          these,
          weigh-append f xs rest,
          weigh-append f far.sent ys,
          weigh-append f far.sent (ys ++ rest),
          weigh-append f ys rest,
        );
    sends = far.sends;
  }

  -- the sends, without which items they are
  pub some_sent : (old new : List Item) (v w : PassRecord) → HasSentFrom P G old new v w → HasSentSome v w
  some_sent old new v w far = record {
    more_sends = map (with_its_tile P G) far.sent;
    names = far.sends.kept.names;
    claims = far.sends.claims;
    stamps = far.sends.stamps;
    handed = far.sends.handed;
    sends = far.sends.sends;
  }

  -- what may be sent one after another
  pub its_sender : (t : Task) (is : List Item) (v : PassRecord) (i : Item) → MaySendAll P G t is v → IsIn i is
      → sender i ≡ t
  its_sender t is v i may h = item_sender P t i (may.are_items i h)

  pub is_next : (t : Task) (is : List Item) (v : PassRecord) (i : Item) → MaySendAll P G t is v → IsIn i is
      → IsNext P G i (with_its_tile P G i).tile v
  is_next t is v i may h =
      let by : sender i ≡ t = its_sender t is v i may h in
      record {
        runs = may.runs ∙ ap (λ s. s ∷ []) (sym by);
        is_item = subst (λ s. IsIn i (items P s)) (sym by) (may.are_items i h);
        outputs = subst (λ s. IsTrue (has_outputs (ended P G s))) (sym by) may.outputs;
        unsent = may.unsent i h;
        tile = refl;
      }

  -- the items that are left may still be sent
  pub may_rest : (t : Task) (old new : List Item) (v w : PassRecord) → MaySendAll P G t old v
      → HasSentFrom P G old new v w → MaySendAll P G t new w
  may_rest t old new v w may far =
      let among = was_among old far.sent new may.once far.others in
      record {
        runs = far.sends.running ∙ may.runs;
        outputs = may.outputs;
        are_items = λ i h. may.are_items i (among i h);
        once = rest_once old far.sent new may.once far.others;
        unsent = λ i h.
            let none = none_sent old far.sent new may.once far.others i h in
            let before = may.unsent i (among i h) in
            count_after far.sent v w i far.sends ∙ omega (arith, none, before);
      }

  -- the first of them alone
  pub may_first : (t : Task) (is js : List Item) (v : PassRecord) → MaySendAll P G t (is ++ js) v
      → MaySendAll P G t is v
  may_first t is js v may = record {
    runs = may.runs;
    outputs = may.outputs;
    are_items = λ i h. may.are_items i (IsIn-append_left i is js h);
    once = HasNoRepeats-left is js may.once;
    unsent = λ i h. may.unsent i (IsIn-append_left i is js h);
  }
