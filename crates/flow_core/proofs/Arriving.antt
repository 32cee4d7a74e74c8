-- In a sound state, the edges into a task that were sent are as many as the sent items that are edges into the task.
use Rattle.std.proofs.Common.{◌≡◌, ℕ, ◌+◌, ◌≤◌, zero, suc, List, [], ◌∷◌, refl, ap, sym, ◌∙◌, subst, nat_lt, arith}
use Rattle.std.proofs.lemmas.Bool.{false≢true}
use Rattle.ptg_base.specs.Lists.{IsIn}
use Rattle.ptg_base.specs.Task.{Task}
use Rattle.ptg_base.specs.TaskComparing.{same_task}
use Rattle.ptg_base.specs.TaskLaws.{same_task-decides}
use Rattle.ptg_base.specs.declared.edge.Edge.{Edge}
use Rattle.ptg_base.specs.declared.edge.Item.{Item}
use Rattle.ptg_base.specs.declared.edge.Item.TheVariants as item
use Rattle.plan_core.specs.declared.plan.Plan.{Plan}
use Rattle.coll_data.specs.Data.{Data}
use Rattle.list_lemmas.proofs.Truth.{by_test}
use Rattle.list_lemmas.proofs.Counts.{count-some, weigh-plus, weigh-same}
use Rattle.dep_iter.specs.Tasks.{IsTask}
use Rattle.dep_iter.specs.Edges.{in_edges}
use Rattle.dep_iter.specs.Items.{items}
use Rattle.dep_iter.specs.Consistent.{IsConsistent}
use Rattle.dep_iter.proofs.CallerLemmas.{once-in_edges}
use Rattle.list_lemmas.specs.Counting.{as_number, count, weigh}
use Rattle.flow_meaning.specs.Comparing.{same_item}
use Rattle.flow_meaning.specs.Machine.{MachineState, SentItem, arrived, is_sent, send_count, sender}
use Rattle.flow_meaning.specs.Sound.{IsSoundState}
use Rattle.flow_meaning.proofs.CallerLemmas.{edge_once, in_edge_to, no_edge, same_item-decides, sent_edge_in}
use Rattle.flow_core.specs.Arrivals.{edge_count_to, is_edge_to}

weigh-none : {A : Type 0} (xs : List A) → weigh (λ _. 0) xs ≡ 0
weigh-none [] = refl
weigh-none (x ∷ xs) = omega (arith, weigh-none xs)

-- a table of numbers has the same sum by rows and by columns
weigh-swap : {A B : Type 0} (f : A → B → ℕ) (xs : List A) (ys : List B) → weigh (λ x. weigh (f x) ys) xs ≡ weigh (λ y. weigh (λ x. f x y) xs) ys
weigh-swap f [] ys = sym (weigh-none ys)
weigh-swap f (x ∷ xs) ys = ap (λ n. weigh (f x) ys + n) (weigh-swap f xs ys) ∙ sym (weigh-plus (f x) (λ y. weigh (λ z. f z y) xs) ys)

-- a number that is 0 or 1 is the truth value of the test whether it is over 0
test_of : (n : ℕ) → n ≤ 1 → as_number (nat_lt 0 n) ≡ n
test_of zero h = refl
test_of (suc zero) h = refl
test_of (suc (suc n)) h = absurd (omega arith)

module _ (P : Plan) (G : Data) (con : IsConsistent P) (S : MachineState) (sound : IsSoundState P G S) (t : Task) (job : IsTask P t) where
  -- the edges into the task that are the sent item: one if it is an edge into the task, else none
  here : (i : Item) → ((e : Edge) → i ≡ item.Edge e → IsIn e (in_edges P e.to))
      → count (λ e. same_item (item.Edge e) i) (in_edges P t) ≡ as_number (is_edge_to t i)
  here (item.Edge d) into =
      by_test (same_task t d.to)
      (λ k.
      let same : t ≡ d.to = (same_task-decides t d.to).0 k in
      let among : IsIn d (in_edges P t) = subst (λ u. IsIn d (in_edges P u)) (sym same) (into d refl) in
      let some = count-some (λ e. same_item (item.Edge e) (item.Edge d)) (in_edges P t) d among ((same_item-decides (item.Edge d) (item.Edge d)).1 refl) in
      omega (arith, some, edge_once (in_edges P t) (once-in_edges P con t job) d, ap as_number k))
      (λ k.
      let none = no_edge (in_edges P t) d (λ i. false≢true (sym k ∙ (same_task-decides t d.to).1 (sym (in_edge_to P t d i)))) in
      omega (arith, none, ap as_number k))
  here (item.Write w) into = weigh-none (in_edges P t)

  into_target : (x : SentItem) → IsIn x S.sends → (e : Edge) → x.item ≡ item.Edge e → IsIn e (in_edges P e.to)
  into_target x i e q =
      let out = sound.sent_are_outputs x i in
      let task = subst (λ j. IsTask P (sender j)) q (sound.claimed_have_all _ out.claimed).task in
      sent_edge_in P con e task (subst (λ j. IsIn j (items P (sender j))) q out.is_item)

  pub arrived_are : arrived P S t ≡ edge_count_to t S.sends
  arrived_are =
      weigh-same (λ e. send_count S (item.Edge e)) (λ e. as_number (is_sent S (item.Edge e))) (in_edges P t)
      (λ e _. test_of (send_count S (item.Edge e)) (sound.sent_once (item.Edge e)))
      ∙ weigh-swap (λ (e : Edge) (x : SentItem). as_number (same_item (item.Edge e) x.item)) (in_edges P t) S.sends
      ∙ weigh-same (λ (x : SentItem). as_number (is_edge_to t x.item))
      (λ (x : SentItem). count (λ e. same_item (item.Edge e) x.item) (in_edges P t)) S.sends
      (λ x i. here x.item (into_target x i))
