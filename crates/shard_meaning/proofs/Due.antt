-- What is still due at a moment: an event makes nothing due, and one thing that was due no longer is.
use Rattle.std.proofs.Common.{◌≡◌, ℕ, ◌+◌, ◌<◌, ◌≤◌, Bool, true, false, not, ◌&&◌, ◌||◌, refl, ap, ◌∙◌, arith, is_none, nat_lt, eq-eqb}
use Rattle.std.proofs.lemmas.Bool.{and_from, and_parts, eqb-true, false_from_ne_true, le-ltb, lt-ltb, ltb-true, or_left, or_right}
use Rattle.ptg_base.specs.Task.{Task}
use Rattle.ptg_base.specs.TaskComparing.{same_task}
use Rattle.ptg_base.specs.TaskLaws.{same_task-decides}
use Rattle.ptg_base.specs.declared.edge.Item.{Item}
use Rattle.ptg_base.specs.declared.edge.Item.TheVariants as item
use Rattle.list_lemmas.proofs.Truth.{by_test, contrapositive}
use Rattle.list_lemmas.proofs.Counts.{count-le, weigh-push}
use Rattle.plan_core.specs.declared.plan.Plan.{Plan}
use Rattle.coll_data.specs.Data.{Data}
use Rattle.dep_iter.specs.Consistent.{all_data, all_writes}
use Rattle.dep_iter.specs.Tasks.{all_tasks}
use Rattle.dep_shard.specs.Content.{Content, entry_of}
use Rattle.flow_meaning.specs.Comparing.{same_item}
use Rattle.list_lemmas.specs.Counting.{as_number, count}
use Rattle.flow_meaning.specs.Machine.{MachineState, MaySend, Send, SentItem, claim_count, is_sent, send_count, sent_with, state_after}
use Rattle.flow_meaning.specs.Table.{is_unclaimed}
use Rattle.flow_meaning.proofs.CallerLemmas.{same_item-decides}
use Rattle.shard_meaning.specs.Moment.{Moment, run_count, with_claim, with_end, with_send}
use Rattle.shard_meaning.specs.Share.{Placement, is_of}
use Rattle.shard_meaning.specs.Reserve.{is_due_edge, is_due_end, is_due_entry, is_due_write, is_due_write_tile, is_edge_of_type, is_write_of_type}
use Rattle.shard_meaning.proofs.Listing.{weigh-without}

-- whether a task has not ended
abbrev pub is_to_end : Moment → Task → Bool
is_to_end R t = is_unclaimed R.state t || nat_lt 0 (run_count R t)

-- nothing is due later that was not due before
pub record IsDueBefore (R T : Moment) : Type 0 where
  pub unclaimed : (t : Task) → is_unclaimed T.state t ≡ true → is_unclaimed R.state t ≡ true
  pub sent : (i : Item) → is_sent R.state i ≡ true → is_sent T.state i ≡ true
  pub to_end : (t : Task) → is_to_end T t ≡ true → is_to_end R t ≡ true

-- if b implies c, a test of a and b implies a test of a and c
guarded : (a b c : Bool) → (b ≡ true → c ≡ true) → (a && b) ≡ true → (a && c) ≡ true
guarded a b c h e = let p = and_parts a b e in and_from a c p.0 (h p.1)

module _ (P : Plan) (of : Placement) (k : ℕ) (R T : Moment) (before : IsDueBefore R T) where
  unsent_before : (a : Bool) (i : Item) → (a && not (is_sent T.state i)) ≡ true → (a && not (is_sent R.state i)) ≡ true
  unsent_before a i e = guarded a _ _ (contrapositive (is_sent R.state i) (is_sent T.state i) (before.sent i)) e

  pub edges_due : (datatype : ℕ) → count (is_due_edge P of k datatype T.state) (all_data P) ≤ count (is_due_edge P of k datatype R.state) (all_data P)
  edges_due datatype = count-le (is_due_edge P of k datatype T.state) (is_due_edge P of k datatype R.state) (all_data P)
      (λ e i h. unsent_before (is_of of k e.to && is_edge_of_type P datatype e) (item.Edge e) h)

  pub write_tiles_due : (datatype : ℕ) → count (is_due_write_tile P of k datatype T.state) (all_writes P) ≤ count
      (is_due_write_tile P of k datatype R.state) (all_writes P)
  write_tiles_due datatype = count-le (is_due_write_tile P of k datatype T.state)
      (is_due_write_tile P of k datatype R.state) (all_writes P)
      (λ w i h. unsent_before (is_of of k w.from && is_write_of_type P datatype w) (item.Write w) h)

  pub writes_due : count (is_due_write of k T.state) (all_writes P) ≤ count (is_due_write of k R.state) (all_writes P)
  writes_due = count-le (is_due_write of k T.state) (is_due_write of k R.state) (all_writes P) (λ w i h. unsent_before (is_of of k w.from) (item.Write w) h)

  pub ends_due : count (is_due_end of k T) (all_tasks P) ≤ count (is_due_end of k R) (all_tasks P)
  ends_due = count-le (is_due_end of k T) (is_due_end of k R) (all_tasks P)
      (λ t i h. guarded (is_of of k t) (is_to_end T t) (is_to_end R t) (before.to_end t) h)

  -- if each unclaimed task without an entry later had none before, no more entries are due
  pub entries_due : (y z : Content) → ((t : Task) → is_unclaimed T.state t ≡ true → is_none (entry_of z t) ≡ true → is_none (entry_of y t) ≡ true)
      → count (is_due_entry of k T.state z) (all_tasks P) ≤ count (is_due_entry of k R.state y) (all_tasks P)
  entries_due y z none = count-le (is_due_entry of k T.state z) (is_due_entry of k R.state y) (all_tasks P) (λ t i h. guarded (is_of of k t) _ _ (λ e.
      let p = and_parts (is_unclaimed T.state t) (is_none (entry_of z t)) e in
      and_from (is_unclaimed R.state t) (is_none (entry_of y t)) (before.unclaimed t p.0) (none t p.0 p.1)) h)

or_elim : {C : Type 0} (a b : Bool) → (a ≡ true → C) → (b ≡ true → C) → (a || b) ≡ true → C
or_elim true b f g e = f refl
or_elim false b f g e = g e

unclaimed_is : (S : MachineState) (t : Task) → claim_count S t ≡ 0 → is_unclaimed S t ≡ true
unclaimed_is S t e = eq-eqb (claim_count S t) 0 e

-- after the claim of a task that was not claimed
pub due-claim : (R : Moment) (t : Task) → claim_count R.state t ≡ 0 → IsDueBefore R (with_claim R t)
due-claim R t free = record {
  unclaimed = unclaimed;
  sent = λ i e. e;
  to_end = λ u e. or_elim (is_unclaimed (with_claim R t).state u) (nat_lt 0 (run_count (with_claim R t) u))
      (λ h. or_left (is_unclaimed R.state u) (nat_lt 0 (run_count R u)) (unclaimed u h))
      (λ h. by_test (same_task u t)
      (λ same. or_left (is_unclaimed R.state u) (nat_lt 0 (run_count R u))
      (unclaimed_is R.state u (ap (claim_count R.state) ((same_task-decides u t).0 same) ∙ free)))
      (λ other. or_right (is_unclaimed R.state u) (nat_lt 0 (run_count R u))
      (lt-ltb 0 (run_count R u) (omega (
        arith,
        ltb-true 0 (run_count (with_claim R t) u) h,
        weigh-push
            (λ v. as_number (same_task u v)) R.running t,
        ap as_number other,
      )))))
      e;
}
  where
    unclaimed : (u : Task) → is_unclaimed (with_claim R t).state u ≡ true → is_unclaimed R.state u ≡ true
    unclaimed u h = unclaimed_is R.state u (omega (
      arith,
      eqb-true (claim_count (with_claim R t).state u) 0 h,
      weigh-push (λ v. as_number (same_task u v)) R.state.claims t,
    ))

module _ (P : Plan) (G : Data) (R : Moment) (i : Item) (may : MaySend P G R.state i) where
  sum : (j : Item) → send_count (state_after P G R.state (Send i)) j ≡ send_count R.state j + as_number (same_item j i)
  sum j = weigh-push (λ (x : SentItem). as_number (same_item j x.item)) R.state.sends (sent_with P G R.state i)

  -- after a send
  pub due-send : IsDueBefore R (with_send P G R i)
  due-send = record {
    unclaimed = λ u e. e;
    sent = λ j e. lt-ltb 0 (send_count (state_after P G R.state (Send i)) j) (omega (arith, ltb-true 0 (send_count R.state j) e, sum j));
    to_end = λ u e. e;
  }

  pub sent_now : is_sent (with_send P G R i).state i ≡ true
  sent_now = lt-ltb 0 (send_count (state_after P G R.state (Send i)) i) (omega (arith, sum i, ap as_number ((same_item-decides i i).1 refl)))

  pub unsent_yet : is_sent R.state i ≡ false
  unsent_yet = le-ltb 0 (send_count R.state i) (omega (arith, may.unsent))

  pub sent_as_before : (j : Item) → (j ≡ i → ⊥) → is_sent (with_send P G R i).state j ≡ is_sent R.state j
  sent_as_before j ne = ap (nat_lt 0) (let n : send_count (state_after P G R.state (Send i)) j
      ≡ send_count R.state j = omega (
        arith,
        sum j,
        ap as_number
            (false_from_ne_true (same_item j i) (λ q. ne ((same_item-decides j i).0 q))),
      ) in n)

-- how often other tasks run after the end of a task
pub runs_as_before : (R : Moment) (t u : Task) → 0 < run_count R t → (u ≡ t → ⊥) → run_count (with_end R t) u ≡ run_count R u
runs_as_before R t u runs ne = omega (
  arith,
  weigh-without (λ v. as_number (same_task u v)) t R.running runs,
  ap
      as_number (false_from_ne_true (same_task u t) (λ q. ne ((same_task-decides u t).0 q))),
)

pub runs_once_less : (R : Moment) (t : Task) → 0 < run_count R t → run_count (with_end R t) t + 1 ≡ run_count R t
runs_once_less R t runs = omega (arith, weigh-without (λ v. as_number (same_task t v)) t R.running runs, ap as_number ((same_task-decides t t).1 refl))

-- after the end of a task that runs
pub due-end : (R : Moment) (t : Task) → 0 < run_count R t → IsDueBefore R (with_end R t)
due-end R t runs = record {
  unclaimed = λ u e. e;
  sent = λ i e. e;
  to_end = λ u e. or_elim (is_unclaimed R.state u) (nat_lt 0 (run_count (with_end R t) u))
      (λ h. or_left (is_unclaimed R.state u) (nat_lt 0 (run_count R u)) h)
      (λ h. or_right (is_unclaimed R.state u) (nat_lt 0 (run_count R u))
      (lt-ltb 0 (run_count R u) (omega (
        arith,
        ltb-true 0 (run_count (with_end R t) u) h,
        weigh-without
            (λ v. as_number (same_task u v)) t R.running runs,
      ))))
      e;
}
