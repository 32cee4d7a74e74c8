-- What each event keeps: the state stays sound.
use Rattle.std.proofs.Common.{◌≡◌, ◌+◌, ◌<◌, ◌≤◌, true, false, cond, List, [], ◌∷◌, refl, ap, sym, ◌∙◌, subst, None, is_some, inl, inr, arith}
use Rattle.std.specs.Prelude.{option_map}
use Rattle.std.proofs.lemmas.Bool.{ltb-true, ltb-false, lt-ltb}
use Rattle.ptg_base.specs.Lists.{IsIn}
use Rattle.ptg_base.specs.Task.{Task}
use Rattle.ptg_base.specs.TaskComparing.{same_task}
use Rattle.ptg_base.specs.TaskLaws.{same_task-decides}
use Rattle.ptg_base.specs.declared.edge.Edge.{Edge}
use Rattle.ptg_base.specs.declared.edge.Item.{Item}
use Rattle.ptg_base.specs.declared.edge.Item.TheVariants as item
use Rattle.body_eval.specs.Meaning.{body_meaning}
use Rattle.plan_core.specs.declared.class.ClassPlan.{ClassPlan}
use Rattle.plan_core.specs.declared.plan.Plan.{Plan}
use Rattle.coll_data.specs.Data.{Data}
use Rattle.list_lemmas.proofs.Members.{IsIn-append_left, from_append, list_all-from_members}
use Rattle.list_lemmas.proofs.Truth.{by_test}
use Rattle.list_lemmas.proofs.Counts.{all_pass, count-at_most, count-le, count-some, some_passes, weigh-push}
use Rattle.dep_iter.specs.Tasks.{IsTask, locals_of}
use Rattle.dep_iter.specs.Edges.{goal, in_edges}
use Rattle.dep_iter.specs.Items.{item_flow}
use Rattle.dep_iter.specs.Consistent.{IsConsistent}
use Rattle.list_lemmas.specs.Counting.{count, as_number}
use Rattle.flow_meaning.specs.Comparing.{same_item}
use Rattle.flow_meaning.specs.Starting.{delivered_tiles, starting_tiles}
use Rattle.flow_meaning.specs.Ending.{ended_on, has_outputs, output_tile}
use Rattle.flow_meaning.specs.Backward.{ended, has_all_sources, inputs, source_tile}
use Rattle.flow_meaning.specs.Machine.{Event, Claim, Send, Happen, IsPossible, MachineState, MayClaim, MaySend}
use Rattle.flow_meaning.specs.Machine.{SentItem, state_after, arrived, claim_count, end_in, first_tile, is_sent}
use Rattle.flow_meaning.specs.Machine.{opening_state, send_count, sender, sent_tile, sent_with}
use Rattle.flow_meaning.specs.Sound.{HasAllArrived, IsOutput, IsSoundState}
use Rattle.flow_meaning.proofs.Comparing.{same_item-decides}
use Rattle.flow_meaning.proofs.Enough.{fixed}
use Rattle.flow_meaning.proofs.Rounds.{delivered_tiles-same, ended_on-same}
use Rattle.flow_meaning.proofs.SourceEdges.{class_of}

-- a task that was claimed is one of the claims, and the other way round
pub claim_member : (S : MachineState) (t : Task) → 0 < claim_count S t → IsIn t S.claims
claim_member S t h =
    let p = some_passes (same_task t) S.claims h in
    subst (λ u. IsIn u S.claims) (sym ((same_task-decides t p.0).0 p.2)) p.1

pub member_claim : (S : MachineState) (t : Task) → IsIn t S.claims → 0 < claim_count S t
member_claim S t i = count-some (same_task t) S.claims t i ((same_task-decides t t).1 refl)

-- an item that was sent is the item of one of the sends
pub send_member : (S : MachineState) (i : Item) → is_sent S i ≡ true → (x : SentItem) × IsIn x S.sends × (x.item ≡ i)
send_member S i h =
    let p = some_passes (λ (x : SentItem). same_item i x.item) S.sends (ltb-true 0 (send_count S i) h) in
    (p.0, p.1, sym ((same_item-decides i p.0.item).0 p.2))

pub member_send : (S : MachineState) (x : SentItem) → IsIn x S.sends → is_sent S x.item ≡ true
member_send S x i =
    lt-ltb 0 (send_count S x.item) (count-some (λ (y : SentItem). same_item x.item y.item) S.sends x i ((same_item-decides x.item x.item).1 refl))

pub unsent : (S : MachineState) (i : Item) → is_sent S i ≡ false → send_count S i ≡ 0
unsent S i h = let k = ltb-false 0 (send_count S i) h in omega arith

-- if as many edges into a task were sent as there are, each was
pub each_arrived : (P : Plan) (S : MachineState) (t : Task) → arrived P S t ≡ goal P t → (e : Edge) → IsIn e (in_edges P t) → is_sent S (item.Edge e) ≡ true
each_arrived P S t h e i = all_pass (λ d. is_sent S (item.Edge d)) (in_edges P t) (omega (arith, h)) e i

-- the tile that was sent first with an item is that of a send of the item
first_is : (i : Item) (xs : List SentItem) → 0 < count (λ (x : SentItem). same_item i x.item) xs
    → (x : SentItem) × IsIn x xs × (x.item ≡ i) × (first_tile i xs ≡ x.tile)
first_is i [] h = absurd (omega arith)
first_is i (x ∷ xs) h =
    by_test (same_item i x.item)
    (λ k. (x, inl refl, sym ((same_item-decides i x.item).0 k), ap (λ b. cond b x.tile (first_tile i xs)) k))
    (λ k.
    let c : as_number (same_item i x.item) ≡ 0 = ap as_number k in
    let p = first_is i xs (omega (arith, c)) in
    (p.0, inr p.1, p.2, ap (λ b. cond b x.tile (first_tile i xs)) k ∙ p.3))

module _ (P : Plan) (G : Data) (con : IsConsistent P) (S : MachineState) (sound : IsSoundState P G S) where
  -- the source of an edge that was sent has outputs, and the edge delivers what the source leaves
  pub record Delivers (e : Edge) : Type 0 where
    pub claimed : IsIn e.from S.claims
    pub outputs : has_outputs (ended P G e.from) ≡ true
    pub tile : sent_tile S.sends e ≡ source_tile (ended P G) e

  output_of : (i : Item) (x : SentItem) → x.item ≡ i → IsIn x S.sends
      → IsIn (sender i) S.claims × (has_outputs (ended P G (sender i)) ≡ true)
      × (x.tile ≡ output_tile (ended P G (sender i)) (item_flow i))
  output_of i x e here =
      let o = sound.sent_are_outputs x here in (
        subst (λ j. IsIn (sender j) S.claims) e o.claimed,
        subst (λ j. has_outputs (ended P G (sender j)) ≡ true) e
            o.outputs,
        o.tile ∙ ap (λ j. output_tile (ended P G (sender j)) (item_flow j)) e,
      )

  pub delivers : (e : Edge) → is_sent S (item.Edge e) ≡ true → Delivers e
  delivers e h =
      let p = first_is (item.Edge e) S.sends (ltb-true 0 (send_count S (item.Edge e)) h) in
      let o = output_of (item.Edge e) p.0 p.2 p.1 in
      record { claimed = o.0; outputs = o.1; tile = p.3 ∙ o.2 }

  module _ (t : Task) (fed : HasAllArrived P S t) where
    same_delivery : (e : Edge) → IsIn e (in_edges P t) → sent_tile S.sends e ≡ source_tile (ended P G) e
    same_delivery e i = (delivers e (each_arrived P S t fed.all_arrived e i)).tile

    -- if all edges into a task were sent, it ends as the backward meaning says
    pub ends_so : ended P G t ≡ end_in P G S t
    ends_so =
        let all : has_all_sources P (ended P G) t ≡ true = list_all-from_members
        (λ (e : Edge). has_outputs (ended P G e.from)) (in_edges P t)
        (λ e i. (delivers e (each_arrived P S t fed.all_arrived e i)).outputs) in
        fixed P G con t fed.task
        ∙ ap (λ b. cond b (ended_on P G (source_tile (ended P G)) t) None) all
        ∙ sym (ended_on-same P G con t fed.task (sent_tile S.sends) (source_tile (ended P G)) same_delivery)

    -- so the task ends
    pub it_ends : is_some (ended P G t) ≡ true
    unfolding ended_on
    it_ends =
        let h = class_of P t fed.task in
        ap is_some (ends_so ∙ ap (λ o. option_map (λ (c : ClassPlan). body_meaning c.body (locals_of P t)
        (starting_tiles P G (sent_tile S.sends) t)) o) h.class_is)

    -- and the tiles that were sent to it are its inputs
    pub has_inputs : delivered_tiles P (sent_tile S.sends) t ≡ inputs P G t
    has_inputs = delivered_tiles-same P G con t fed.task (sent_tile S.sends) (source_tile (ended P G)) same_delivery

  pub claim_sound : (t : Task) → MayClaim P S t → IsSoundState P G (state_after P G S (Claim t))
  claim_sound t may = record {
    claimed_once = λ u.
        let sum = weigh-push (λ v. as_number (same_task u v)) S.claims t in
        by_test (same_task u t)
        (λ k. let none : claim_count S u ≡ 0 = ap (claim_count S) ((same_task-decides u t).0 k) ∙ may.unclaimed in omega (arith, ap as_number k))
        (λ k. let once = sound.claimed_once u in omega (arith, ap as_number k));
    sent_once = sound.sent_once;
    claimed_have_all = λ u i. elim (from_append u S.claims (t ∷ []) i) [
      | inl before ↦ let fed = sound.claimed_have_all u before in record { task = fed.task; all_arrived = fed.all_arrived }
      | inr now ↦ elim now [
        | inl e ↦ record { task = subst (IsTask P) (sym e) may.task; all_arrived = subst (λ v. arrived P S v ≡ goal P v) (sym e) may.all_arrived }
        | inr never ↦ absurd never
      ]
    ];
    sent_are_outputs = λ x i. let o = sound.sent_are_outputs x
        i in record {
          claimed = IsIn-append_left (sender x.item) S.claims (t ∷ []) o.claimed;
          is_item = o.is_item;
          outputs = o.outputs;
          tile = o.tile;
        };
  }

  module _ (i : Item) (may : MaySend P G S i) where
    sum_at : (j : Item) → send_count (state_after P G S (Send i)) j ≡ send_count S j + as_number (same_item j i)
    sum_at j = weigh-push (λ (x : SentItem). as_number (same_item j x.item)) S.sends (sent_with P G S i)

    still_sent : (j : Item) → is_sent S j ≡ true → is_sent (state_after P G S (Send i)) j ≡ true
    still_sent j h = let c = ltb-true 0 (send_count S j) h in lt-ltb 0 (send_count (state_after P G S (Send i)) j) (omega (arith, sum_at j))

    pub more_arrive : (t : Task) → arrived P S t ≤ arrived P (state_after P G S (Send i)) t
    more_arrive t = count-le (λ e. is_sent S (item.Edge e)) (λ e. is_sent (state_after P G S (Send i)) (item.Edge e))
        (in_edges P t) (λ e _ h. still_sent (item.Edge e) h)

    still_fed : (t : Task) → HasAllArrived P S t → HasAllArrived P (state_after P G S (Send i)) t
    still_fed t fed =
        let most : arrived P (state_after P G S (Send i)) t ≤ goal P t = count-at_most
        (λ e. is_sent (state_after P G S (Send i)) (item.Edge e)) (in_edges P t) in
        record { task = fed.task; all_arrived = omega (arith, fed.all_arrived, more_arrive t) }

    sends_output : IsOutput P G (state_after P G S (Send i)) (sent_with P G S i)
    sends_output =
        let so = ends_so (sender i) (sound.claimed_have_all (sender i) may.claimed) in
        record {
          claimed = may.claimed;
          is_item = may.is_item;
          outputs = ap has_outputs so
              ∙ may.outputs;
          tile = ap (λ o. output_tile o (item_flow i)) (sym so);
        }

    pub send_sound : IsSoundState P G (state_after P G S (Send i))
    send_sound = record {
      claimed_once = sound.claimed_once;
      sent_once = λ j.
          by_test (same_item j i)
          (λ k. let none : send_count S j ≡ 0 = ap (send_count S) ((same_item-decides j i).0 k) ∙ may.unsent in omega (arith, sum_at j, ap as_number k))
          (λ k. let once = sound.sent_once j in omega (arith, sum_at j, ap as_number k));
      claimed_have_all = λ t c. still_fed t (sound.claimed_have_all t c);
      sent_are_outputs = λ x here. elim (from_append x S.sends (sent_with P G S i ∷ []) here) [
        | inl before ↦ let o = sound.sent_are_outputs x before in record { claimed = o.claimed; is_item = o.is_item; outputs = o.outputs; tile = o.tile }
        | inr now ↦ elim now [ inl e ↦ subst (IsOutput P G (state_after P G S (Send i))) (sym e) sends_output | inr never ↦ absurd never ]
      ];
    }

  pub event_sound : (e : Event) → IsPossible P G S e → IsSoundState P G (state_after P G S e)
  event_sound (Claim t) may = claim_sound t may
  event_sound (Send i) may = send_sound i may

-- no item of a task that was not claimed was sent
pub unclaimed_unsent : (P : Plan) (G : Data) (S : MachineState) → IsSoundState P G S → (i : Item) → claim_count S (sender i) ≡ 0 → send_count S i ≡ 0
unclaimed_unsent P G S sound i none =
    by_test (is_sent S i)
    (λ k.
    let p = send_member S i k in
    let more = member_claim S (sender i) (subst (λ j. IsIn (sender j) S.claims) p.2 (sound.sent_are_outputs p.0 p.1).claimed) in
    absurd (omega (arith, more, none)))
    (λ k. unsent S i k)

-- the opening state is sound, as nothing has happened
pub opening_sound : (P : Plan) (G : Data) → IsSoundState P G opening_state
opening_sound P G = record {
  claimed_once = λ t. omega arith;
  sent_once = λ i. omega arith;
  claimed_have_all = λ t i.
      absurd i;
  sent_are_outputs = λ x i. absurd i;
}

-- every list of events leads from a sound state to a sound state
pub happen_sound : (P : Plan) (G : Data) → IsConsistent P → (es : List Event) (S T : MachineState) → IsSoundState P G S → Happen P G es S T → IsSoundState P G T
happen_sound P G con [] S T sound h = subst (IsSoundState P G) h sound
happen_sound P G con (e ∷ es) S T sound h = happen_sound P G con es (state_after P G S e) T (event_sound P G con S sound e h.0) h.1
