-- The order in which tasks were claimed and items sent does not matter to a state.
use Rattle.std.proofs.Common.{ℕ, ◌≡◌, ◌↔◌, ◌≤◌, ℤ, ◌&&◌, List, refl, ap, sym, ◌∙◌, subst, Option, Some, None, IsTrue, nat_lt, arith, cond, ◌==◌, ◌||◌, [], ◌∷◌}
use Rattle.std.proofs.lemmas.Bool.{false≢true}
use Rattle.std.specs.Cmp.{first_so, second_so}
use Rattle.std.specs.Cmp.Rules.{signed_items}
use Rattle.ptg_base.specs.Entry.{Entry}
use Rattle.ptg_base.specs.Lists.{IsIn}
use Rattle.ptg_base.specs.Task.{Task}
use Rattle.ptg_base.specs.TaskComparing.{same_task}
use Rattle.ptg_base.specs.declared.edge.Edge.{Edge}
use Rattle.ptg_base.specs.declared.edge.Item.{Item}
use Rattle.list_lemmas.proofs.Truth.{by_test}
use Rattle.list_lemmas.proofs.Counts.{same_in, HasSameMembers-sym}
use Rattle.dep_iter.specs.Hints.{priority}
use Rattle.ptg_base.specs.declared.edge.Item.TheVariants as item
use Rattle.plan_core.specs.declared.plan.Plan.{Plan}
use Rattle.coll_data.specs.Data.{Data}
use Rattle.dep_iter.specs.Edges.{goal, in_edges}
use Rattle.dep_iter.specs.Consistent.{IsConsistent}
use Rattle.list_lemmas.specs.Counting.{count, as_number}
use Rattle.flow_meaning.specs.Comparing.{same_item}
use Rattle.flow_meaning.specs.Ending.{has_outputs}
use Rattle.flow_meaning.specs.Machine.{Claim, Event, IsPossible, IsQuiescent, MachineState, Send, SentItem, arrived}
use Rattle.flow_meaning.specs.Machine.{claim_count, is_sent, send_count, sender, first_tile, same_sent_item, same_tile}
use Rattle.flow_meaning.specs.Machine.{sent_tile}
use Rattle.flow_meaning.specs.Starting.{Delivery, delivered_tiles}
use Rattle.flow_meaning.specs.Table.{table_entry}
use Rattle.flow_meaning.specs.Sound.{HasAllArrived, IsReordered, IsSoundState}
use Rattle.flow_meaning.proofs.Comparing.{same_item-decides}
use Rattle.flow_meaning.proofs.Events.{unsent, claim_member, ends_so, member_claim, delivers}

same_tile-decides : (a b : Option (List ℤ)) → IsTrue (same_tile a b) ↔ (a ≡ b)
same_tile-decides None None = (λ h. refl, λ e. refl)
same_tile-decides None (Some y) = (λ h. absurd (false≢true h), λ e. absurd cc)
same_tile-decides (Some x) None = (λ h. absurd (false≢true h), λ e. absurd cc)
same_tile-decides (Some x) (Some y) = (λ h. ap (λ (z : List ℤ). Some z) ((signed_items x y).0 h), λ e. (signed_items x y).1 cc)

pub same_sent_item-decides : (a b : SentItem) → IsTrue (same_sent_item a b) ↔ (a ≡ b)
same_sent_item-decides a b = (one_way, other_way)
  where
    one_way : IsTrue (same_sent_item a b) → a ≡ b
    one_way h =
        let e = (same_item-decides a.item b.item).0 (first_so (same_item a.item b.item) (same_tile a.tile b.tile) h) in
        let f = (same_tile-decides a.tile b.tile).0 (second_so (same_item a.item b.item) (same_tile a.tile b.tile) h) in
        λ k. record { item = e k; tile = f k }

    other_way : a ≡ b → IsTrue (same_sent_item a b)
    other_way e =
        let left = (same_item-decides a.item b.item).1 (ap (λ (x : SentItem). x.item) e) in
        let right = (same_tile-decides a.tile b.tile).1 (ap (λ (x : SentItem). x.tile) e) in
        λ k. left k && right k

module _ (S T : MachineState) (r : IsReordered S T) where
  claims_same : (t : Task) → claim_count S t ≡ claim_count T t
  claims_same t = r.claims (λ u. as_number (same_task t u))

  sends_same : (i : Item) → send_count S i ≡ send_count T i
  sends_same i = r.sends (λ x. as_number (same_item i x.item))

  arrived_same : (P : Plan) (t : Task) → arrived P S t ≡ arrived P T t
  arrived_same P t =
      let same : (i : Item) → is_sent S i ≡ is_sent T i = λ i. ap (nat_lt 0) (sends_same i) in
      λ k. count (λ e. same (item.Edge e) k) (in_edges P t)

  pub claim_in : (t : Task) → IsIn t S.claims → IsIn t T.claims
  claim_in t i = claim_member T t (omega (arith, member_claim S t i, claims_same t))

  claim_back : (t : Task) → IsIn t T.claims → IsIn t S.claims
  claim_back t i = claim_member S t (omega (arith, member_claim T t i, claims_same t))

  send_back : (x : SentItem) → IsIn x T.sends → IsIn x S.sends
  send_back x i = same_in same_sent_item same_sent_item-decides T.sends S.sends (HasSameMembers-sym S.sends T.sends r.sends) x i

  fed_in : (P : Plan) (t : Task) → HasAllArrived P S t → HasAllArrived P T t
  fed_in P t fed = record { task = fed.task; all_arrived = sym (arrived_same P t) ∙ fed.all_arrived }

  pub reordered_sound : (P : Plan) (G : Data) → IsSoundState P G S → IsSoundState P G T
  reordered_sound P G sound = record {
    claimed_once = λ t. subst (λ n. n ≤ 1) (claims_same t) (sound.claimed_once t);
    sent_once = λ i. subst (λ n. n ≤ 1) (sends_same i) (sound.sent_once i);
    claimed_have_all = λ t i. fed_in P t (sound.claimed_have_all t (claim_back t i));
    sent_are_outputs = λ x i.
        let o = sound.sent_are_outputs x (send_back x i) in
        record { claimed = claim_in (sender x.item) o.claimed; is_item = o.is_item; outputs = o.outputs; tile = o.tile };
  }

  -- what is possible in one order is possible in another
  possible_back : (P : Plan) (G : Data) → IsConsistent P → IsSoundState P G S → (e : Event) → IsPossible P G T e → IsPossible P G S e
  possible_back P G con sound (Claim t) may = record {
    task = may.task;
    unclaimed = claims_same t
        ∙ may.unclaimed;
    all_arrived = arrived_same P t ∙ may.all_arrived;
  }
  possible_back P G con sound (Send i) may =
      let here = claim_back (sender i) may.claimed in
      let fed = sound.claimed_have_all (sender i) here in
      let ends = ends_so P G con S sound (sender i) fed in
      let ends_there = ends_so P G con T (reordered_sound P G sound) (sender i) (fed_in P (sender i) fed) in
      record { unsent = sends_same i ∙ may.unsent; claimed = here; is_item = may.is_item; outputs = ap has_outputs (sym ends ∙ ends_there) ∙ may.outputs }

  pub reordered_quiescent : (P : Plan) (G : Data) → IsConsistent P → IsSoundState P G S → IsQuiescent P G S → IsQuiescent P G T
  reordered_quiescent P G con sound quiet e may = quiet e (possible_back P G con sound e may)

  pub back : IsReordered T S
  back = record { claims = HasSameMembers-sym S.claims T.claims r.claims; sends = HasSameMembers-sym S.sends T.sends r.sends }

-- there is no tile for an item that was not sent
pub first_none : (i : Item) (xs : List SentItem) → count (λ (x : SentItem). same_item i x.item) xs ≡ 0 → first_tile i xs ≡ None
first_none i [] h = refl
first_none i (x ∷ xs) h =
    by_test (same_item i x.item)
    (λ k. absurd (omega (arith, ap as_number k)))
    (λ k. ap (λ b. cond b x.tile (first_tile i xs)) k ∙ first_none i xs (omega (arith, ap as_number k)))

module _ (P : Plan) (G : Data) (con : IsConsistent P) (S T : MachineState) (sound : IsSoundState P G S) (r : IsReordered S T) where
  pub possible_there : (e : Event) → IsPossible P G S e → IsPossible P G T e
  possible_there e may = possible_back T S (back S T r) P G con (reordered_sound S T r P G sound) e may

  -- the same tile was sent with each edge
  sent_tile-same : sent_tile S.sends ≡ sent_tile T.sends
  sent_tile-same = λ k e. at e k
    where
      at : (e : Edge) → sent_tile S.sends e ≡ sent_tile T.sends e
      at e =
          by_test (is_sent S (item.Edge e))
          (λ h.
          let there = sym (ap (nat_lt 0) (sends_same S T r (item.Edge e))) ∙ h in
          (delivers P G con S sound e h).tile ∙ sym (delivers P G con T (reordered_sound S T r P G sound) e there).tile)
          (λ h.
          let none = unsent S (item.Edge e) h in
          first_none (item.Edge e) S.sends none ∙ sym (first_none (item.Edge e) T.sends (sym (sends_same S T r (item.Edge e)) ∙ none)))

  -- what a table holds of a task, by how often it was claimed, how many edges into it have arrived, and what they
  -- deliver
  abbrev entry_by : Task → ℕ → ℕ → Delivery → Option Entry
  entry_by t claims came delivered =
      cond (((claims == 0) && (came == goal P t)) || ((claims == 0) && (nat_lt 0 came && nat_lt came (goal P t))))
      (Some (record { goal = goal P t; arrived = came; priority = priority P t; tiles = delivered_tiles P delivered t })) None

  -- a table holds the same
  pub table_same : (t : Task) → table_entry P S t ≡ table_entry P T t
  table_same t =
      let c = claims_same S T r t in
      let a = arrived_same S T r P t in
      λ k. entry_by t (c k) (a k) (sent_tile-same k)
