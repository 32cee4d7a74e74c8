-- Every sound state is reached by some list of events, up to the order of its two lists.
use Rattle.std.proofs.Common.{◌≡◌, ℕ, zero, suc, ◌+◌, Bool, true, false, List, [], ◌∷◌, ◌++◌, length, refl, ap, sym}
use Rattle.std.proofs.Common.{◌∙◌, subst, Option, Some, ◌⊎◌, inl, inr, arith}
use Rattle.std.proofs.lemmas.Bool.{false≢true, le-ltb}
use Rattle.std.proofs.lemmas.List.{append-nil}
use Rattle.ptg_base.specs.Lists.{IsIn}
use Rattle.ptg_base.specs.Task.{Task}
use Rattle.ptg_base.specs.TaskComparing.{same_task}
use Rattle.ptg_base.specs.TaskLaws.{same_task-decides}
use Rattle.ptg_base.specs.declared.edge.Edge.{Edge}
use Rattle.ptg_base.specs.declared.edge.Item.TheVariants as item
use Rattle.plan_core.specs.declared.plan.Plan.{Plan}
use Rattle.coll_data.specs.Data.{Data}
use Rattle.list_lemmas.proofs.Members.{IsIn-append_right, from_append, member_passes}
use Rattle.list_lemmas.proofs.Truth.{by_test}
use Rattle.list_lemmas.proofs.Counts.{count-all, count-some, weigh-append, without, without-length, without-weigh, same_in}
use Rattle.list_lemmas.proofs.Options.{some_value}
use Rattle.dep_iter.specs.Tasks.{all_tasks}
use Rattle.dep_iter.specs.Edges.{in_edges}
use Rattle.dep_iter.specs.Items.{item_flow}
use Rattle.dep_iter.specs.Consistent.{IsConsistent}
use Rattle.list_lemmas.specs.Counting.{HasSameMembers, as_number}
use Rattle.flow_meaning.specs.Comparing.{same_item}
use Rattle.flow_meaning.specs.Ending.{Ended, has_outputs, output_tile}
use Rattle.flow_meaning.specs.Backward.{ended, ended_within}
use Rattle.flow_meaning.specs.Machine.{Claim, Event, Happen, IsPossible, MachineState, MayClaim, MaySend, Send}
use Rattle.flow_meaning.specs.Machine.{SentItem, state_after, claim_count, end_in, is_sent, opening_state, send_count}
use Rattle.flow_meaning.specs.Machine.{sender, sent_with, same_sent_item}
use Rattle.flow_meaning.specs.Sound.{IsReached, IsSoundState}
use Rattle.flow_meaning.proofs.CallerLemmas.{claimed_ends, each_arrived, ends_so, happen_sound, has_sources, member_send, opening_sound, same_item-decides}
use Rattle.flow_meaning.proofs.CallerLemmas.{same_sent_item-decides, send_member, unsent, with_outputs}

-- one more member is done, and one fewer is left
one_done : {A : Type 0} (all done left : List A) (x : A) (i : IsIn x left) → HasSameMembers all (done ++ left)
    → HasSameMembers all ((done ++ x ∷ []) ++ without x left i)
one_done all done left x i same f =
    omega (arith, same f, weigh-append f done left, weigh-append f (done ++ x ∷ []) (without x left i), weigh-append f done (x ∷ []), without-weigh f x left i)

-- events that happen, and one more
happen_push : (P : Plan) (G : Data) (es : List Event) (S T : MachineState) (e : Event) → Happen P G es S T
    → IsPossible P G T e → Happen P G (es ++ e ∷ []) S (state_after P G T e)
happen_push P G [] S T e h may = (subst (λ U. IsPossible P G U e) (sym h) may, ap (λ U. state_after P G U e) h)
happen_push P G (d ∷ es) S T e h may = (h.0, happen_push P G es (state_after P G S d) T e h.1 may)

-- some member fails a test, or all pass it
fails_or_passes : {A : Type 0} (test : A → Bool) (xs : List A) → ((x : A) × IsIn x xs × (test x ≡ false)) ⊎ ((x : A) → IsIn x xs → test x ≡ true)
fails_or_passes test [] = inr (λ x i. absurd i)
fails_or_passes test (y ∷ ys) =
    by_test (test y)
    (λ k. elim (fails_or_passes test ys) [
      | inl p ↦ inl (p.0, inr p.1, p.2)
      | inr h ↦ inr (λ x i. elim i [ inl e ↦ ap test e ∙ k | inr t ↦ h x t ])
    ])
    (λ k. inl (y, inl refl, k))

module _ (P : Plan) (G : Data) (con : IsConsistent P) (S : MachineState) (sound : IsSoundState P G S) where
  -- a state that was reached on the way to S, and what is left to be claimed and sent
  pub record IsOnTheWay (T : MachineState) (tasks : List Task) (sends : List SentItem) : Type 0 where
    pub events : List Event
    pub happen : Happen P G events opening_state T
    pub claims_left : HasSameMembers S.claims (T.claims ++ tasks)
    pub sends_left : HasSameMembers S.sends (T.sends ++ sends)

  module _ (T : MachineState) (tasks : List Task) (sends : List SentItem) (way : IsOnTheWay T tasks sends) where
    sound_there : IsSoundState P G T
    sound_there = happen_sound P G con way.events opening_state T (opening_sound P G) way.happen

    -- the next event is a claim or a send of what is left
    pub data IsNext : Type 0 where
      NextClaim : (t : Task) → IsIn t tasks → MayClaim P T t → IsNext
      NextSend : (x : SentItem) → IsIn x sends → MaySend P G T x.item → sent_with P G T x.item ≡ x → IsNext

    claimed_or_left : (t : Task) → IsIn t S.claims → IsIn t T.claims ⊎ IsIn t tasks
    claimed_or_left t i = from_append t T.claims tasks (same_in same_task same_task-decides S.claims (T.claims ++ tasks) way.claims_left t i)

    left_was_claimed : (t : Task) → IsIn t tasks → IsIn t S.claims
    left_was_claimed t i = same_in same_task same_task-decides (T.claims ++ tasks) S.claims
        (λ f. sym (way.claims_left f)) t (IsIn-append_right t T.claims tasks i)

    sent_or_left : (x : SentItem) → IsIn x S.sends → IsIn x T.sends ⊎ IsIn x sends
    sent_or_left x i = from_append x T.sends sends (same_in same_sent_item same_sent_item-decides S.sends (T.sends ++ sends) way.sends_left x i)

    -- a task that is left was not claimed yet
    not_yet : (t : Task) → IsIn t tasks → claim_count T t ≡ 0
    not_yet t i =
        let more = count-some (same_task t) tasks t i ((same_task-decides t t).1 refl) in
        omega (arith, sound.claimed_once t, way.claims_left (λ u. as_number (same_task t u)), weigh-append (λ u. as_number (same_task t u)) T.claims tasks)

    -- what is left of a task that was claimed may be sent
    send_next : (x : SentItem) → IsIn x S.sends → IsIn (sender x.item) T.claims → is_sent T x.item ≡ false → IsNext
    send_next x i c fresh =
        let o = sound.sent_are_outputs x i in
        let so = ends_so P G con T sound_there (sender x.item) (sound_there.claimed_have_all (sender x.item) c) in
        let may : MaySend P G T x.item = record {
          unsent = unsent T x.item fresh;
          claimed = c;
          is_item = o.is_item;
          outputs = ap has_outputs (sym so) ∙ o.outputs;
        } in
        let tile : output_tile (end_in P G T (sender x.item)) (item_flow x.item)
        ≡ x.tile = ap (λ (e : Option Ended). output_tile e (item_flow x.item)) (sym so) ∙ sym o.tile in
        elim (sent_or_left x i) [
          | inl there ↦ absurd (false≢true (sym fresh ∙ member_send T x there))
          | inr left ↦ NextSend x left may (λ k. record { item = x.item; tile = tile k })
        ]

    -- if a task is left, there is a next event
    next_for : (n : ℕ) (t : Task) → IsIn t tasks → (v : Ended) → ended_within P G n t ≡ Some v → IsNext
    unfolding ended_within
    next_for zero t i v e = absurd cc
    next_for (suc n) t i v e =
        let fed = sound.claimed_have_all t (left_was_claimed t i) in
        let all = has_sources P G con t fed.task (ended_within P G n) v e in
        elim (fails_or_passes (λ (d : Edge). is_sent T (item.Edge d)) (in_edges P t)) [
          | inr here ↦ NextClaim t i (record {
            task = fed.task;
            unclaimed = not_yet t i;
            all_arrived = count-all
                (λ d. is_sent T (item.Edge d)) (in_edges P t) here;
          })
          | inl p ↦
              let x = send_member S (item.Edge p.0) (each_arrived P S t fed.all_arrived p.0 p.1) in
              let from : sender x.0.item ≡ p.0.from = ap sender x.2 in
              let was : IsIn p.0.from S.claims = subst (λ u. IsIn u S.claims) from (sound.sent_are_outputs x.0 x.1).claimed in
              let o = with_outputs (ended_within P G n p.0.from)
              (member_passes (λ (d : Edge). has_outputs (ended_within P G n d.from)) (in_edges P t) all p.0 p.1) in
              elim (claimed_or_left p.0.from was) [
                | inl there ↦ send_next x.0 x.1 (subst (λ u. IsIn u T.claims) (sym from) there) (ap (is_sent T) x.2 ∙ p.2)
                | inr left ↦ next_for n p.0.from left o.0 o.1
              ]
        ]

    left_was_sent : (x : SentItem) → IsIn x sends → IsIn x S.sends
    left_was_sent x i = same_in same_sent_item same_sent_item-decides (T.sends ++ sends) S.sends
        (λ f. sym (way.sends_left f)) x (IsIn-append_right x T.sends sends i)

    -- an item that is left was not sent yet
    not_sent : (x : SentItem) → IsIn x sends → is_sent T x.item ≡ false
    not_sent x i =
        let more = count-some (λ (y : SentItem). same_item x.item y.item) sends x i ((same_item-decides x.item x.item).1 refl) in
        let none : send_count T x.item ≡ 0 = omega (
          arith,
          sound.sent_once x.item,
          way.sends_left
              (λ y. as_number (same_item x.item y.item)),
          weigh-append
              (λ (y : SentItem). as_number (same_item x.item y.item)) T.sends sends,
        ) in
        le-ltb 0 (send_count T x.item) (omega (arith, none))

    next_claim : (t : Task) → IsIn t tasks → IsNext
    unfolding ended
    next_claim t i =
        let o = some_value (ended P G t) (claimed_ends P G con S sound t (left_was_claimed t i)) in
        next_for (length (all_tasks P)) t i o.0 o.1

    next_sent : tasks ≡ [] → (x : SentItem) → IsIn x sends → IsNext
    next_sent none x i =
        let was = left_was_sent x i in
        elim (claimed_or_left (sender x.item) (sound.sent_are_outputs x was).claimed) [
          | inl there ↦ send_next x was there (not_sent x i)
          | inr left ↦ absurd (subst (IsIn (sender x.item)) none left)
        ]

  abbrev OnTheWay : ℕ → Type 0
  OnTheWay k = (T : MachineState) (tasks : List Task) (sends : List SentItem) → IsOnTheWay T tasks sends → length tasks + length sends ≡ k → IsReached P G S

  go_on : (k : ℕ) → OnTheWay k → (T : MachineState) (tasks : List Task) (sends : List SentItem)
      (way : IsOnTheWay T tasks sends) → length tasks + length sends ≡ suc k → IsNext T tasks sends way
      → IsReached P G S
  go_on k ih T tasks sends way size (NextClaim t i may) =
      let rest : IsOnTheWay (state_after P G T (Claim t)) (without t tasks i) sends = record {
        events = way.events ++ Claim t ∷ [];
        happen = happen_push P G way.events opening_state T (Claim t) way.happen may;
        claims_left = one_done S.claims T.claims tasks t i way.claims_left;
        sends_left = way.sends_left;
      } in
      ih (state_after P G T (Claim t)) (without t tasks i) sends rest (omega (arith, without-length t tasks i))
  go_on k ih T tasks sends way size (NextSend x i may same) =
      let rest : IsOnTheWay (state_after P G T (Send x.item)) tasks (without x sends i) = record {
        events = way.events ++ Send x.item ∷ [];
        happen = happen_push P G way.events opening_state T (Send x.item) way.happen may;
        claims_left = way.claims_left;
        sends_left = subst (λ y. HasSameMembers S.sends ((T.sends ++ y ∷ []) ++ without x sends i)) (sym same)
            (one_done S.sends T.sends sends x i way.sends_left);
      } in
      ih (state_after P G T (Send x.item)) tasks (without x sends i) rest (omega (arith, without-length x sends i))

  reach : (k : ℕ) → OnTheWay k
  reach zero T [] [] way size =
      let same_claims : T.claims ++ [] ≡ T.claims = append-nil T.claims in
      let same_sends : T.sends ++ [] ≡ T.sends = append-nil T.sends in
      record {
        events = way.events;
        state = T;
        happen = way.happen;
        same = record {
          claims = subst (HasSameMembers S.claims) same_claims way.claims_left;
          sends = subst
              (HasSameMembers S.sends) same_sends way.sends_left;
        };
      }
  reach zero T [] (x ∷ xs) way size = absurd (omega arith)
  reach zero T (t ∷ ts) sends way size = absurd (omega arith)
  reach (suc k) T [] [] way size = absurd (omega arith)
  reach (suc k) T [] (x ∷ xs) way size = go_on k (reach k) T [] (x ∷ xs) way size (next_sent T [] (x ∷ xs) way refl x (inl refl))
  reach (suc k) T (t ∷ ts) sends way size = go_on k (reach k) T (t ∷ ts) sends way size (next_claim T (t ∷ ts) sends way t (inl refl))

  pub reached : IsReached P G S
  reached =
      reach (length S.claims + length S.sends) opening_state S.claims S.sends
      (record { events = []; happen = refl; claims_left = λ f. refl; sends_left = λ f. refl }) refl
