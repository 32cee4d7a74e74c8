-- The mail after a run: the messages of the task are under way, and so are those that were before.
use Rattle.std.proofs.Common.{◌≡◌, nat_eq, ℕ, zero, suc, true, false, not, cond, List, [], ◌∷◌, ◌++◌, length, map, refl}
use Rattle.std.proofs.Common.{ap, sym, ◌∙◌, subst, inl, inr, Option, Some, None, slice_get, arith}
use Rattle.std.proofs.lemmas.Bool.{false≢true, cases_eq}
use Rattle.std.specs.Cmp.{unsigned_Decides}
use Rattle.std.specs.Map.{lookup}
use Rattle.std.specs.Prelude.{nat_lt}
use Rattle.ptg_base.specs.Lists.{IsIn}
use Rattle.ptg_base.specs.declared.edge.Edge.{Edge}
use Rattle.ptg_base.specs.declared.edge.WriteBack.{WriteBack}
use Rattle.ptg_base.specs.declared.edge.Item.{Item}
use Rattle.ptg_base.specs.declared.edge.Item.TheVariants as item
use Rattle.list_lemmas.proofs.Members.{from_append, from_map, IsIn-filter}
use Rattle.list_lemmas.proofs.Truth.{by_test}
use Rattle.list_lemmas.proofs.Counts.{some_passes, weigh-append}
use Rattle.list_lemmas.proofs.Places.{IsIn-slice_get}
use Rattle.dep_iter.specs.Items.{out_edges, write_backs}
use Rattle.flow_meaning.specs.Comparing.{same_item}
use Rattle.list_lemmas.specs.Counting.{as_number, weigh}
use Rattle.flow_meaning.specs.Ending.{Ended, has_outputs}
use Rattle.flow_meaning.specs.Machine.{MachineState, SentItem, claim_count, end_in, send_count, sender, item_from}
use Rattle.flow_meaning.proofs.CallerLemmas.{item_sender, member_claim, same_item-decides}
use Rattle.rank_core.specs.declared.message.Message.{Message}
use Rattle.rank_core.specs.World.{edges_between, edges_within, is_between, items_by, items_within, message_from}
use Rattle.rank_core.specs.World.{is_delivered}
use Rattle.rank_core.proofs.Items.{out_from, within_is_item}
use Rattle.rank_core.proofs.Happening.{items_with, items_without, message_is, unclaimed_unsent}
use Rattle.rank_core.specs.declared.running_task.RunningTask.{RunningTask}
use Rattle.rank_core.specs.Keeping.{IsUnderWay, unless_delivered}
use Rattle.rank_core.specs.RunningTasks.{IsRunningTask, after, before, data_of, plan_of, task_of}

-- a longer list, at its end and elsewhere
last_at : {A : Type 0} (xs : List A) (x : A) → slice_get (xs ++ x ∷ []) (length xs) ≡ Some x
last_at [] x = refl
last_at (y ∷ ys) x = last_at ys x

not_last : {A : Type 0} (xs : List A) (x : A) (q : ℕ) → (length xs ≡ q → ⊥)
    → slice_get (xs ++ x ∷ []) q ≡ slice_get xs q
not_last [] x zero other = absurd (other refl)
not_last [] x (suc q) other = refl
not_last (y ∷ ys) x zero other = refl
not_last (y ∷ ys) x (suc q) other = not_last ys x q (λ e. other (ap suc e))

-- one message more is under way
pub one_posted : (S : MachineState) (ms : List Message) (m : Message) (n : ℕ) (old new_table : List (ℕ × Message))
    → IsUnderWay S ms old → n ≡ length ms → is_delivered S m ≡ false
    → ((q : ℕ) → lookup (nat_eq q) new_table ≡ cond (nat_eq n q) (Some m) (lookup (nat_eq q) old))
    → IsUnderWay S (ms ++ m ∷ []) new_table
one_posted S ms m n old new_table under number fresh changes q =
    by_test (nat_eq n q)
    (λ k.
    let same : n ≡ q = (unsigned_Decides n q).0 k in
    changes q ∙ ap (λ b. cond b (Some m) (lookup (nat_eq q) old)) k
    ∙ sym (ap (unless_delivered S) (ap (slice_get (ms ++ m ∷ [])) (sym same ∙ number) ∙ last_at ms m)
    ∙ ap (λ b. cond b None (Some m)) fresh))
    (λ k.
    changes q ∙ ap (λ b. cond b (Some m) (lookup (nat_eq q) old)) k ∙ under q
    ∙ ap (unless_delivered S) (sym (not_last ms m q (λ e. false≢true (sym k ∙ (unsigned_Decides n q).1 (number ∙ e))))))

-- an item that is none of those sent
none_sent : (i : Item) (xs : List SentItem) → ((x : SentItem) → IsIn x xs → x.item ≡ i → ⊥)
    → weigh (λ (x : SentItem). as_number (same_item i x.item)) xs ≡ 0
none_sent i xs none = elim (cases_eq (weigh (λ (x : SentItem). as_number (same_item i x.item)) xs) 0) [
  | inl z ↦ z
  | inr more ↦ let p = some_passes (λ (x : SentItem). same_item i x.item) xs (omega (arith, more)) in absurd
      (none p.0 p.1 (sym ((same_item-decides i p.0.item).0 p.2)))
]

module _ (v : RunningTask) (h : IsRunningTask v) where
  -- an item that the run does not send was sent as often as before
  as_before : (i : Item) → ((x : SentItem) → IsIn x (items_by (plan_of v) v.ranks (task_of v)
      (end_in (plan_of v) (data_of v) (before v).machine (task_of v))) → x.item ≡ i → ⊥)
      → send_count (after v).machine i ≡ send_count (before v).machine i
  as_before i none =
      omega (
        arith,
        weigh-append (λ (x : SentItem). as_number (same_item i x.item)) (before v).machine.sends
            (items_by (plan_of v) v.ranks (task_of v) (end_in (plan_of v) (data_of v) (before v).machine (task_of v))),
        none_sent i (items_by (plan_of v) v.ranks (task_of v)
            (end_in (plan_of v) (data_of v) (before v).machine (task_of v))) none,
      )

  -- what the run sends are items of its task within the rank
  sent_within : (end : Option Ended) (x : SentItem) → IsIn x (items_by (plan_of v) v.ranks (task_of v) end)
      → IsIn x.item (items_within (plan_of v) v.ranks (task_of v))
  sent_within end x i =
      by_test (has_outputs end)
      (λ o.
      let p = from_map (item_from end) (items_within (plan_of v) v.ranks (task_of v)) x
      (subst (IsIn x) (items_with (plan_of v) v.ranks (task_of v) end o) i) in
      subst (λ j. IsIn j (items_within (plan_of v) v.ranks (task_of v))) (sym (ap (λ (y : SentItem). y.item) p.2)) p.1)
      (λ o. let never : IsIn x [] = subst (IsIn x) (items_without (plan_of v) v.ranks (task_of v) end o) i in absurd
      never)

  -- of the messages that were sent before, the same are delivered
  earlier : (m : Message) → IsIn m (before v).messages → send_count (after v).machine (item.Edge m.edge)
      ≡ send_count (before v).machine (item.Edge m.edge)
  earlier m i = as_before (item.Edge m.edge) (λ x j same.
      let within = sent_within (end_in (plan_of v) (data_of v) (before v).machine (task_of v)) x j in
      let by : sender x.item ≡ (task_of v) = item_sender (plan_of v) (task_of v) x.item
      (within_is_item (plan_of v) (task_of v) v.ranks x.item within) in
      let from : m.edge.from ≡ (task_of v) = ap sender (sym same) ∙ by in
      let claimed = member_claim (before v).machine (task_of v)
      (subst (λ u. IsIn u (before v).machine.claims) from
      (message_is (plan_of v) (data_of v) h.consistent v.ranks (before v) h.sound m i).claimed) in
      absurd (omega (arith, claimed, h.may.unclaimed)))

  pub mail_kept : (table : List (ℕ × Message)) → IsUnderWay (before v).machine (before v).messages table
      → IsUnderWay (after v).machine (before v).messages table
  mail_kept table under q = under q ∙ same (slice_get (before v).messages q) refl
    where
      same : (o : Option Message) → slice_get (before v).messages q ≡ o
          → unless_delivered (before v).machine o ≡ unless_delivered (after v).machine o
      same None e = refl
      same (Some m) e = ap (λ c. cond (nat_lt 0 c) None (Some m))
          (sym (earlier m (IsIn-slice_get (before v).messages q m e)))

  -- the message of an edge to another rank is not delivered after the run
  pub between_waits : (end : Option Ended) (e : Edge) → IsIn e (edges_between (plan_of v) v.ranks (task_of v))
      → is_delivered (after v).machine (message_from end e) ≡ false
  between_waits end e i =
      let p = (IsIn-filter (is_between (plan_of v) v.ranks) (out_edges (plan_of v) (task_of v)) e).0 i in
      let from : e.from ≡ (task_of v) = out_from (plan_of v) (task_of v) e p.0 in
      let none = unclaimed_unsent (plan_of v) (data_of v) (before v).machine h.sound.state (item.Edge e)
      (ap (claim_count (before v).machine) from ∙ h.may.unclaimed) in
      let kept = as_before (item.Edge e) (λ x j same. not_within e p.1
      (subst (λ k. IsIn k (items_within (plan_of v) v.ranks (task_of v))) same
      (sent_within (end_in (plan_of v) (data_of v) (before v).machine (task_of v)) x j))) in
      ap (nat_lt 0) (kept ∙ none)
    where
      not_within : (d : Edge) → is_between (plan_of v) v.ranks d ≡ true
          → IsIn (item.Edge d) (items_within (plan_of v) v.ranks (task_of v)) → ⊥
      not_within d between m = elim (from_append (item.Edge d) (map item.Write (write_backs (plan_of v) (task_of v)))
          (map item.Edge (edges_within (plan_of v) v.ranks (task_of v))) m) [
            | inl left ↦ let w = from_map (λ (w : WriteBack). item.Write w) (write_backs (plan_of v) (task_of v))
                (item.Edge d) left in absurd cc
            | inr right ↦
                let q = from_map (λ (e : Edge). item.Edge e) (edges_within (plan_of v) v.ranks (task_of v))
                (item.Edge d) right in
                let same : d ≡ q.0 = one d q.0 q.2 in
                let stays : not (is_between (plan_of v) v.ranks q.0) ≡ true =
                ((IsIn-filter (λ e. not (is_between (plan_of v) v.ranks e)) (out_edges (plan_of v) (task_of v)) q.0).0
                q.1).1 in
                let flips : not true ≡ true = ap not (sym between)
                ∙ ap (λ x. not (is_between (plan_of v) v.ranks x)) same ∙ stays in
                false≢true flips
          ]
        where
          one : (a b : Edge) → item.Edge a ≡ item.Edge b → a ≡ b
          one a b q = cc
