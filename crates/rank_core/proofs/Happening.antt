-- What happens in a world is what some events of the event machine do.
use Rattle.std.proofs.Common.{◌≡◌, ℕ, true, false, cond, List, [], ◌∷◌, ◌++◌, map, refl, ap, sym, ◌∙◌, subst}
use Rattle.std.proofs.Common.{append_assoc, inl, inr, Option, arith}
use Rattle.std.proofs.lemmas.List.{append-nil}
use Rattle.ptg_base.specs.Lists.{HasNoRepeats, IsIn}
use Rattle.ptg_base.specs.Task.{Task}
use Rattle.ptg_base.specs.declared.edge.Edge.{Edge}
use Rattle.ptg_base.specs.declared.edge.Item.{Item}
use Rattle.ptg_base.specs.declared.edge.Item.TheVariants as item
use Rattle.plan_core.specs.declared.plan.Plan.{Plan}
use Rattle.coll_data.specs.Data.{Data}
use Rattle.list_lemmas.proofs.Members.{IsIn-append_right, from_flat_map, from_map}
use Rattle.list_lemmas.proofs.Truth.{by_test}
use Rattle.list_lemmas.proofs.Counts.{weigh-push}
use Rattle.dep_iter.specs.Consistent.{IsConsistent}
use Rattle.dep_iter.specs.Items.{items}
use Rattle.flow_meaning.specs.Backward.{ended}
use Rattle.flow_meaning.specs.Comparing.{same_item}
use Rattle.list_lemmas.specs.Counting.{as_number}
use Rattle.flow_meaning.specs.Ending.{Ended, has_outputs, output_tile}
use Rattle.flow_meaning.specs.Machine.{Claim, Event, Happen, MachineState, MayClaim, MaySend, Send, SentItem}
use Rattle.flow_meaning.specs.Machine.{claim_count, end_in, send_count, sender, sent_with, state_after, item_from}
use Rattle.flow_meaning.specs.Sound.{HasAllArrived, IsSoundState}
use Rattle.flow_meaning.proofs.CallerLemmas.{claim_sound, ends_so, item_sender, out_edge_from, same_item-decides, send_sound, unsent}
use Rattle.rank_core.specs.declared.message.Message.{Message}
use Rattle.rank_core.specs.World.{WorldState, after_run, edges_between, items_by, items_within, message_from}
use Rattle.rank_core.specs.World.{messages_by, is_delivered, with_message}
use Rattle.rank_core.specs.Sound.{IsSoundWorld}
use Rattle.rank_core.proofs.Items.{between_is_out, out_is_item, within_is_item, within_once}
pub use Rattle.flow_meaning.proofs.CallerLemmas.{unclaimed_unsent}

-- the items and the messages that are sent after a task has ended so
pub items_with : (P : Plan) (r : ℕ) (t : Task) (end : Option Ended) → has_outputs end ≡ true
    → items_by P r t end ≡ map (item_from end) (items_within P r t)
items_with P r t end k = ap (λ b. cond b (map (item_from end) (items_within P r t)) []) k

pub items_without : (P : Plan) (r : ℕ) (t : Task) (end : Option Ended) → has_outputs end ≡ false
    → items_by P r t end ≡ []
items_without P r t end k = ap (λ b. cond b (map (item_from end) (items_within P r t)) []) k

pub messages_with : (P : Plan) (r : ℕ) (t : Task) (end : Option Ended) → has_outputs end ≡ true
    → messages_by P r t end ≡ map (message_from end) (edges_between P r t)
messages_with P r t end k = ap (λ b. cond b (map (message_from end) (edges_between P r t)) []) k

pub messages_without : (P : Plan) (r : ℕ) (t : Task) (end : Option Ended) → has_outputs end ≡ false
    → messages_by P r t end ≡ []
messages_without P r t end k = ap (λ b. cond b (map (message_from end) (edges_between P r t)) []) k

module _ (P : Plan) (G : Data) (con : IsConsistent P) where
  sends_after : MachineState → Task → List Item → MachineState
  sends_after S t is = record { claims = S.claims; sends = S.sends ++ map (item_from (ended P G t)) is }

  -- items of a claimed task with outputs are sent one after another
  send_all : (t : Task) → has_outputs (ended P G t) ≡ true → (is : List Item) (S : MachineState) → IsSoundState P G S
      → IsIn t S.claims → ((i : Item) → IsIn i is → IsIn i (items P t)) → HasNoRepeats is
      → ((i : Item) → IsIn i is → send_count S i ≡ 0) → Happen P G (map Send is) S (sends_after S t is)
  unfolding sends_after
  send_all t o [] S sound c among once none = λ k. record { claims = S.claims; sends = sym (append-nil S.sends) k }
  send_all t o (i ∷ is) S sound c among once none =
      let from : sender i ≡ t = item_sender P t i (among i (inl refl)) in
      let so : ended P G t ≡ end_in P G S t = ends_so P G con S sound t (sound.claimed_have_all t c) in
      let end : end_in P G S (sender i) ≡ ended P G t = ap (end_in P G S) from ∙ sym so in
      let may : MaySend P G S i = record {
        unsent = none i (inl refl);
        claimed = subst (λ u. IsIn u S.claims) (sym from) c;
        is_item = subst (λ u. IsIn i (items P u)) (sym from) (among i (inl refl));
        outputs = ap has_outputs end ∙ o;
      } in
      let here : sent_with P G S i ≡ item_from (ended P G t) i = λ k. item_from (end k) i in
      let T : MachineState = state_after P G S (Send i) in
      let later : (j : Item) → IsIn j is → send_count (state_after P G S (Send i)) j ≡ 0 = λ j h.
      let sum = weigh-push (λ (x : SentItem). as_number (same_item j x.item)) S.sends (sent_with P G S i) in
      by_test (same_item j i)
      (λ k. absurd (once.0 (subst (λ x. IsIn x is) ((same_item-decides j i).0 k) h)))
      (λ k. omega (arith, sum, ap as_number k, none j (inr h))) in
      let rest : Happen P G (map Send is) (state_after P G S (Send i)) (sends_after (state_after P G S (Send i)) t is) =
      send_all t o is (state_after P G S (Send i)) (send_sound P G con S sound i may) c (λ j h. among j (inr h)) once.1
      later in
      let same : S.sends ++ sent_with P G S i ∷ map (item_from (ended P G t)) is
      ≡ S.sends ++ item_from (ended P G t) i ∷ map (item_from (ended P G t)) is = ap
      (λ x. S.sends ++ x ∷ map (item_from (ended P G t)) is) here in (
        may,
        subst (λ (xs : List SentItem). Happen P G (map Send is) (state_after P G S (Send i))
            (record { claims = S.claims; sends = xs })) (append_assoc S.sends (sent_with P G S i ∷ [])
            (map (item_from (ended P G t)) is) ∙ same) rest,
      )

  module _ (r : ℕ) (w : WorldState) (sound : IsSoundWorld P G r w) where
    module _ (t : Task) (may : MayClaim P w.machine t) where
      pub fed : HasAllArrived P w.machine t
      fed = record { task = may.task; all_arrived = may.all_arrived }

      -- a task that may run ends as the backward meaning says
      pub run_ends : ended P G t ≡ end_in P G w.machine t
      run_ends = ends_so P G con w.machine sound.state t fed

      -- its claim, and then a send of each of some of its items, if it has outputs
      pub part_happens : has_outputs (ended P G t) ≡ true → (is : List Item)
          → ((i : Item) → IsIn i is → IsIn i (items P t)) → HasNoRepeats is
          → Happen P G (Claim t ∷ map Send is) w.machine (record
          { claims = w.machine.claims ++ t ∷ []; sends = w.machine.sends ++ map (item_from (ended P G t)) is })
      unfolding sends_after
      part_happens o is among once = (
        may,
        send_all t o is (state_after P G w.machine (Claim t)) (claim_sound P G con w.machine sound.state t may)
            (IsIn-append_right t w.machine.claims (t ∷ []) (inl refl)) among once
            (λ i h. unclaimed_unsent P G w.machine sound.state i
            (ap (claim_count w.machine) (item_sender P t i (among i h)) ∙ may.unclaimed)),
      )

      with_outputs : has_outputs (ended P G t) ≡ true → Happen P G (Claim t ∷ map Send (items_within P r t)) w.machine
          (after_run P G r w t).machine
      with_outputs o =
          let are : map (item_from (ended P G t)) (items_within P r t)
          ≡ items_by P r t (end_in P G w.machine t) = sym (items_with P r t (ended P G t) o)
          ∙ ap (items_by P r t) run_ends in
          subst (λ (xs : List SentItem). Happen P G (Claim t ∷ map Send (items_within P r t)) w.machine
          (record { claims = w.machine.claims ++ t ∷ []; sends = w.machine.sends ++ xs })) are
          (part_happens o (items_within P r t) (λ i h. within_is_item P t r i h) (within_once P con t may.task r))

      without_outputs : has_outputs (ended P G t) ≡ false → Happen P G (Claim t ∷ []) w.machine
          (after_run P G r w t).machine
      without_outputs o =
          let none : items_by P r t (end_in P G w.machine t) ≡ [] = ap (items_by P r t) (sym run_ends)
          ∙ items_without P r t (ended P G t) o in (
            may,
            λ k. record {
              claims = w.machine.claims ++ t ∷ [];
              sends = (sym (ap (λ xs. w.machine.sends ++ xs) none ∙ append-nil w.machine.sends)) k;
            },
          )

      -- a run of a task is its claim, and a send of each item within its rank
      pub run_happens : (es : List Event) × Happen P G es w.machine (after_run P G r w t).machine
      run_happens = by_test (has_outputs (ended P G t)) (λ o. (Claim t ∷ map Send (items_within P r t), with_outputs o))
          (λ o. (Claim t ∷ [], without_outputs o))

    -- a message that was sent is an edge between ranks of a task that ran and has outputs, with the tile that the task
    -- leaves
    pub record IsMessageOf (m : Message) : Type 0 where
      pub claimed : IsIn m.edge.from w.machine.claims
      pub outputs : has_outputs (ended P G m.edge.from) ≡ true
      pub among : IsIn m.edge (edges_between P r m.edge.from)
      pub tile : m.tile ≡ output_tile (ended P G m.edge.from) m.edge.out_flow

    pub message_is : (m : Message) → IsIn m w.messages → IsMessageOf m
    message_is m h =
        let p = from_flat_map (λ t. messages_by P r t (ended P G t)) w.machine.claims m
        (subst (λ ms. IsIn m ms) sound.messages h) in
        by_test (has_outputs (ended P G p.0))
        (λ o.
        let q = from_map (message_from (ended P G p.0)) (edges_between P r p.0) m
        (subst (λ ms. IsIn m ms) (messages_with P r p.0 (ended P G p.0) o) p.2) in
        let edge : m.edge ≡ q.0 = ap (λ (x : Message). x.edge) q.2 in
        let from : m.edge.from ≡ p.0 = ap (λ (e : Edge). e.from) edge
        ∙ out_edge_from P p.0 q.0 (between_is_out P p.0 r q.0 q.1) in
        record {
          claimed = subst (λ u. IsIn u w.machine.claims) (sym from) p.1;
          outputs = ap (λ u. has_outputs (ended P G u)) from ∙ o;
          among = subst (λ u. IsIn m.edge (edges_between P r u)) (sym from)
              (subst (λ e. IsIn e (edges_between P r p.0)) (sym edge) q.1);
          tile = ap (λ (x : Message). x.tile) q.2 ∙ (λ k. output_tile (ended P G (sym from k)) (sym edge k).out_flow);
        })
        (λ o. let never : IsIn m [] = subst (λ ms. IsIn m ms) (messages_without P r p.0 (ended P G p.0) o) p.2 in absurd
        never)

    module _ (m : Message) (h : IsIn m w.messages) where
      pub message_ends : end_in P G w.machine m.edge.from ≡ ended P G m.edge.from
      message_ends = sym (ends_so P G con w.machine sound.state m.edge.from
          (sound.state.claimed_have_all m.edge.from (message_is m h).claimed))

      -- the edge of a message that was not delivered may be sent
      pub message_may : is_delivered w.machine m ≡ false → MaySend P G w.machine (item.Edge m.edge)
      message_may none =
          let is = message_is m h in
          record {
            unsent = unsent w.machine (item.Edge m.edge) none;
            claimed = is.claimed;
            is_item = out_is_item P m.edge.from m.edge (between_is_out P m.edge.from r m.edge is.among);
            outputs = ap has_outputs message_ends ∙ is.outputs;
          }

      -- a delivery is the send of an edge, or nothing
      pub delivered : (es : List Event) × Happen P G es w.machine (with_message w.machine m)
      delivered =
          by_test (is_delivered w.machine m)
          (λ k. (
            [],
            sym (ap (λ b. cond b w.machine (record {
              claims = w.machine.claims;
              sends = w.machine.sends ++ record { item = item.Edge m.edge; tile = m.tile } ∷ [];
            })) k),
          ))
          (λ k.
          let is = message_is m h in
          let same : sent_with P G w.machine (item.Edge m.edge) ≡ record { item = item.Edge m.edge; tile = m.tile } = λ
          j. record {
            item = item.Edge m.edge;
            tile = (ap (λ end. output_tile end m.edge.out_flow) message_ends
                ∙ sym is.tile) j;
          } in (
            Send (item.Edge m.edge) ∷ [],
            (
              message_may k,
              ap (λ x. record { claims = w.machine.claims; sends = w.machine.sends ++ x ∷ [] }) same
                  ∙ sym (ap (λ b. cond b w.machine (record {
                    claims = w.machine.claims;
                    sends = w.machine.sends ++ record { item = item.Edge m.edge; tile = m.tile } ∷ [];
                  })) k),
            ),
          ))
