-- What each event of a world keeps.
use Rattle.std.proofs.Common.{◌≡◌, ℕ, Bool, true, false, cond, List, [], ◌∷◌, ◌++◌, refl, ap, sym, ◌∙◌, subst, inl, inr}
use Rattle.std.proofs.Common.{Some, slice_get, arith}
use Rattle.std.proofs.lemmas.Bool.{ltb-true, lt-ltb}
use Rattle.std.proofs.lemmas.List.{append-nil}
use Rattle.std.proofs.lemmas.Grind.{flat_map-append}
use Rattle.std.specs.List.{flat_map}
use Rattle.std.specs.Option.{option_map_or}
use Rattle.ptg_base.specs.Lists.{IsIn}
use Rattle.ptg_base.specs.Task.{Task}
use Rattle.ptg_base.specs.declared.edge.Item.{Item}
use Rattle.ptg_base.specs.declared.edge.Item.TheVariants as item
use Rattle.plan_core.specs.declared.plan.Plan.{Plan}
use Rattle.coll_data.specs.Data.{Data}
use Rattle.list_lemmas.proofs.Members.{IsIn-append_right, IsIn-map, from_append}
use Rattle.list_lemmas.proofs.Counts.{weigh-append}
use Rattle.list_lemmas.proofs.Places.{slice_get_member}
use Rattle.dep_iter.specs.Consistent.{IsConsistent}
use Rattle.flow_meaning.specs.Backward.{ended}
use Rattle.flow_meaning.specs.Comparing.{same_item}
use Rattle.list_lemmas.specs.Counting.{as_number}
use Rattle.flow_meaning.specs.Ending.{has_outputs}
use Rattle.flow_meaning.specs.Machine.{MachineState, MayClaim, SentItem, end_in, is_sent, send_count, item_from}
use Rattle.flow_meaning.proofs.CallerLemmas.{happen_sound, member_send, opening_sound}
use Rattle.rank_core.specs.declared.message.Message.{Message}
use Rattle.rank_core.specs.World.{Deliver, IsPossibleIn, Run, WorldEvent, WorldState, after_delivery, after_run}
use Rattle.rank_core.specs.World.{items_by, items_within, messages_by, opening_world, is_delivered, with_message}
use Rattle.rank_core.specs.World.{world_after}
use Rattle.rank_core.specs.Sound.{IsSoundWorld}
use Rattle.rank_core.proofs.Happening.{delivered, items_with, run_ends, run_happens}

-- what was sent stays sent
pub still_sent : (S : MachineState) (claims : List Task) (more : List SentItem) (i : Item) → is_sent S i ≡ true
    → is_sent (record { claims = claims; sends = S.sends ++ more }) i ≡ true
still_sent S claims more i h =
    let some = ltb-true 0 (send_count S i) h in
    let T : MachineState = record { claims = claims; sends = S.sends ++ more } in
    lt-ltb 0 (send_count (record { claims = claims; sends = S.sends ++ more }) i)
    (omega (arith, weigh-append (λ (x : SentItem). as_number (same_item i x.item)) S.sends more))

-- a delivery changes no claim, and undoes nothing
pub delivery_claims : (S : MachineState) (m : Message) → (with_message S m).claims ≡ S.claims
delivery_claims S m = by (is_delivered S m)
  where
    by : (b : Bool) → (cond b S (record {
      claims = S.claims;
      sends = S.sends ++ record { item = item.Edge m.edge; tile = m.tile } ∷ [];
    })).claims ≡ S.claims
    by true = refl
    by false = refl

pub delivery_keeps : (S : MachineState) (m : Message) (i : Item) → is_sent S i ≡ true
    → is_sent (with_message S m) i ≡ true
delivery_keeps S m i h = by (is_delivered S m)
  where
    by : (b : Bool) → is_sent (cond b S (record {
      claims = S.claims;
      sends = S.sends ++ record { item = item.Edge m.edge; tile = m.tile } ∷ [];
    })) i ≡ true
    by true = h
    by false = still_sent S S.claims (record { item = item.Edge m.edge; tile = m.tile } ∷ []) i h

module _ (P : Plan) (G : Data) (con : IsConsistent P) (r : ℕ) where
  module _ (w : WorldState) (sound : IsSoundWorld P G r w) where
    module _ (t : Task) (may : MayClaim P w.machine t) where
      within_then : (u : Task) (i : Item) → IsIn u (w.machine.claims ++ t ∷ []) → has_outputs (ended P G u) ≡ true
          → IsIn i (items_within P r u) → is_sent (after_run P G r w t).machine i ≡ true
      within_then u i c o h = elim (from_append u w.machine.claims (t ∷ []) c) [
        | inl before ↦ still_sent w.machine (w.machine.claims ++ t ∷ []) (items_by P r t (end_in P G w.machine t)) i
            (sound.within u i before o h)
        | inr now ↦ elim now [
          | inl e ↦
              let ends = run_ends P G con r w sound t may in
              let outputs : has_outputs (end_in P G w.machine t) ≡ true = ap has_outputs (sym ends)
              ∙ ap (λ v. has_outputs (ended P G v)) (sym e) ∙ o in
              let x : SentItem = item_from (end_in P G w.machine t) i in
              let among : IsIn (item_from (end_in P G w.machine t) i) (items_by P r t (end_in P G w.machine t)) =
              subst (λ xs. IsIn (item_from (end_in P G w.machine t) i) xs)
              (sym (items_with P r t (end_in P G w.machine t) outputs))
              (IsIn-map (item_from (end_in P G w.machine t)) (items_within P r t) i
              (subst (λ v. IsIn i (items_within P r v)) e h)) in
              member_send (after_run P G r w t).machine (item_from (end_in P G w.machine t) i)
              (IsIn-append_right (item_from (end_in P G w.machine t) i) w.machine.sends
              (items_by P r t (end_in P G w.machine t)) among)
          | inr never ↦ absurd never
        ]
      ]

      run_sound : IsSoundWorld P G r (after_run P G r w t)
      run_sound =
          let h = run_happens P G con r w sound t may in
          let by : Task → List Message = λ u. messages_by P r u (ended P G u) in
          record {
            state = happen_sound P G con h.0 w.machine (after_run P G r w t).machine sound.state h.1;
            within = within_then;
            messages = ap (λ ms. ms ++ messages_by P r t (end_in P G w.machine t)) sound.messages
                ∙ ap (λ end. flat_map (λ u. messages_by P r u (ended P G u)) w.machine.claims ++ messages_by P r t end)
                (sym (run_ends P G con r w sound t may))
                ∙ sym (
                flat_map-append (λ u. messages_by P r u (ended P G u)) w.machine.claims (t ∷ [])
                ∙ ap (λ ms. flat_map (λ u. messages_by P r u (ended P G u)) w.machine.claims ++ ms)
                (append-nil (messages_by P r t (ended P G t)))
                );
          }

    message_sound : (m : Message) → IsIn m w.messages → IsSoundWorld P G r
        (record { machine = with_message w.machine m; messages = w.messages })
    message_sound m h =
        let d = delivered P G con r w sound m h in
        let same = delivery_claims w.machine m in
        record {
          state = happen_sound P G con d.0 w.machine (with_message w.machine m) sound.state d.1;
          within = λ u i c o k. delivery_keeps w.machine m i (sound.within u i (subst (λ cs. IsIn u cs) same c) o k);
          messages = sound.messages ∙ ap (flat_map (λ u. messages_by P r u (ended P G u))) (sym same);
        }

    -- a delivery is that of a message
    delivery_is : (n : ℕ) (m : Message) → slice_get w.messages n ≡ Some m
        → after_delivery w n ≡ record { machine = with_message w.machine m; messages = w.messages }
    delivery_is n m e = λ k. record {
      machine = option_map_or (with_message w.machine) (e k) w.machine;
      messages = w.messages;
    }

    pub event_sound : (e : WorldEvent) → IsPossibleIn P w e → IsSoundWorld P G r (world_after P G r w e)
    event_sound (Run t) may = run_sound t may
    event_sound (Deliver n) h = let p = slice_get_member w.messages n h in subst (IsSoundWorld P G r)
        (sym (delivery_is n p.0 p.1)) (message_sound p.0 p.2)

-- nothing has happened yet, so nothing is wrong
pub opening_sound_world : (P : Plan) (G : Data) (r : ℕ) → IsSoundWorld P G r opening_world
opening_sound_world P G r = record { state = opening_sound P G; within = λ t i c o h. absurd c; messages = refl }
