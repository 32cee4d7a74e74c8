-- What a delivery changes: the rank of the edge's target, and the mail.
use Rattle.std.proofs.Common.{◌≡◌, ◌≢◌, ◌+◌, nat_eq, ℕ, zero, suc, true, false, cond, List, [], ◌∷◌, ◌++◌, map, refl}
use Rattle.std.proofs.Common.{ap, sym, ◌∙◌, subst, Option, Some, None, IfSome, slice_get, arith}
use Rattle.std.proofs.lemmas.Bool.{false≢true, lt-ltb}
use Rattle.std.proofs.lemmas.Option.{slice_get-map}
use Rattle.std.specs.Cmp.{unsigned_Decides}
use Rattle.std.specs.Map.{lookup}
use Rattle.std.specs.Option.{option_map_or}
use Rattle.std.specs.Prelude.{nat_lt, option_map}
use Rattle.ptg_base.specs.Lists.{HasNoRepeats, IsIn}
use Rattle.ptg_base.specs.declared.edge.Edge.{Edge}
use Rattle.ptg_base.specs.declared.edge.Item.{Item}
use Rattle.ptg_base.specs.declared.edge.Item.TheVariants as item
use Rattle.plan_core.specs.declared.plan.Plan.{Plan}
use Rattle.plan_core.specs.Kinds.{is_data}
use Rattle.coll_data.specs.Data.{Data}
use Rattle.coll_data.specs.WellMade.{IsWellMade}
use Rattle.plan_data.specs.Fit.{DataFit}
use Rattle.list_lemmas.proofs.Truth.{by_test}
use Rattle.list_lemmas.proofs.Counts.{weigh-push}
use Rattle.list_lemmas.proofs.Places.{IsIn-slice_get}
use Rattle.dep_iter.specs.Consistent.{IsConsistent}
use Rattle.dep_shard.specs.Content.{Content, IsTileOf}
use Rattle.flow_meaning.specs.Backward.{ended}
use Rattle.flow_meaning.specs.Comparing.{same_item}
use Rattle.list_lemmas.specs.Counting.{as_number}
use Rattle.flow_meaning.specs.Ending.{output_tile}
use Rattle.flow_meaning.specs.Machine.{MachineState, MaySend, Send, SentItem, is_sent, send_count, sent_with}
use Rattle.flow_meaning.specs.Machine.{state_after}
use Rattle.flow_meaning.specs.Sound.{IsSoundState}
use Rattle.flow_meaning.proofs.CallerLemmas.{same_item-decides}
use Rattle.shard_meaning.specs.Moment.{Moment, with_send}
use Rattle.shard_meaning.specs.Share.{IsShardOf, Placement}
use Rattle.shard_meaning.proofs.CallerLemmas.{edge_away, edge_empty, edge_flow, edge_here, edge_typed, sent_is, target_flow, target_goal, target_is_task}
use Rattle.shard_meaning.proofs.CallerLemmas.{target_waits}
use Rattle.rank_core.specs.declared.message.Message.{Message}
use Rattle.rank_core.specs.Sound.{IsSoundWorld}
use Rattle.rank_core.specs.World.{WorldState, after_delivery, rank_of, is_delivered, with_message}
use Rattle.rank_core.proofs.Messages.{edges_once}
use Rattle.rank_core.proofs.Happening.{message_is, message_may}
use Rattle.rank_core.specs.Keeping.{IsUnderWay, idle_moment, unless_delivered}
use Rattle.shard_calls.specs.Taken.{MayTakeEdge, TakesEdge}

-- an edge that may be sent may come to the rank of its target, with the tile that its task leaves
pub may_take_edge : (P : Plan) (G : Data) → IsConsistent P → DataFit P G → IsWellMade G
    → (of : Placement) (k : ℕ) (R : Moment) → IsSoundState P G R.state → (e : Edge) → MaySend P G R.state (item.Edge e)
    → of e.to ≡ k → (y : Content) → IsShardOf P G of k R y
    → MayTakeEdge P e (output_tile (ended P G e.from) e.out_flow) y
may_take_edge P G con fit well of k R sound e may at y h =
    let f = edge_flow P G con R.state sound e may in
    record {
      task = target_is_task P G con of k R sound e may;
      flow = f.0;
      is_flow = f.1;
      flow_number = target_flow P G con of k R sound e may;
      some_goal = target_goal P G con of k R sound e may;
      waits = target_waits P G con of k R sound e may y at h;
      fits = by_test (is_data (Some f.0.kind))
          (λ d.
          let x = edge_typed P G con R.state sound e may fit well f.0 f.1 d in
          subst (λ o. IfSome o (IsTileOf y.elems f.0.datatype)) (sym x.1)
          (subst (λ l. IsTileOf l f.0.datatype x.0) (sym h.elems) x.2))
          (λ d. subst (λ o. IfSome o (IsTileOf y.elems f.0.datatype))
          (sym (edge_empty P G con R.state sound e may f.0 f.1 d)) tt);
    }

-- in a list without repeats each member has one index
one_index : {A : Type 0} (xs : List A) → HasNoRepeats xs → (n q : ℕ) (x : A) → slice_get xs n ≡ Some x
    → slice_get xs q ≡ Some x → n ≡ q
one_index [] h n q x a b = absurd cc
one_index (y ∷ ys) h zero zero x a b = refl
one_index {A} (y ∷ ys) h zero (suc q) x a b = absurd (h.0 (subst (λ z. IsIn z ys) (same y a) (IsIn-slice_get ys q x b)))
  where
    same : (z : A) → Some z ≡ Some x → x ≡ z
    same z e = cc
one_index {A} (y ∷ ys) h (suc n) zero x a b = absurd (h.0 (subst (λ z. IsIn z ys) (same y b) (IsIn-slice_get ys n x a)))
  where
    same : (z : A) → Some z ≡ Some x → x ≡ z
    same z e = cc
one_index (y ∷ ys) h (suc n) (suc q) x a b = ap suc (one_index ys h.1 n q x a b)

mapped_at : {A B : Type 0} (f : A → B) (xs : List A) (n : ℕ) (x : A) → slice_get xs n ≡ Some x
    → slice_get (map f xs) n ≡ Some (f x)
mapped_at f xs n x e = slice_get-map f xs n ∙ ap (λ o. option_map f o) e

module _ (P : Plan) (G : Data) (con : IsConsistent P) (r : ℕ) (w : WorldState) (sound : IsSoundWorld P G r w) (n : ℕ)
    (m : Message) (is : slice_get w.messages n ≡ Some m) where
  among : IsIn m w.messages
  among = IsIn-slice_get w.messages n m is

  module _ (new : is_delivered w.machine m ≡ false) where
    pub may : MaySend P G w.machine (item.Edge m.edge)
    may = message_may P G con r w sound m among new

    pub its_tile : m.tile ≡ output_tile (ended P G m.edge.from) m.edge.out_flow
    its_tile = (message_is P G con r w sound m among).tile

    arrives : MachineState
    arrives = record {
      claims = w.machine.claims;
      sends = w.machine.sends ++ record
          { item = item.Edge m.edge; tile = m.tile } ∷ [];
    }

    -- any other delivery is the send of its edge
    pub sends : state_after P G w.machine (Send (item.Edge m.edge)) ≡ (after_delivery w n).machine
    unfolding arrives
    sends =
        let x : sent_with P G w.machine (item.Edge m.edge) ≡ record { item = item.Edge m.edge; tile = m.tile } = sent_is
        P G con w.machine sound.state (item.Edge m.edge) may
        ∙ (λ j. record { item = item.Edge m.edge; tile = sym its_tile j }) in
        ap (λ y. record { claims = w.machine.claims; sends = w.machine.sends ++ y ∷ [] }) x
        ∙ sym (ap (λ o. option_map_or (with_message w.machine) o w.machine) is
        ∙ ap (λ b. cond b w.machine (record {
          claims = w.machine.claims;
          sends = w.machine.sends ++ record { item = item.Edge m.edge; tile = m.tile } ∷ [];
        })) new)

    pub idle_then : with_send P G (idle_moment w.machine) (item.Edge m.edge) ≡ idle_moment (after_delivery w n).machine
    idle_then = ap idle_moment sends

    -- the rank of the target takes the edge in, and the other ranks stay
    pub here : (k : ℕ) (y z : Content) → rank_of P r m.edge.to ≡ k → TakesEdge P m.edge m.tile y z
        → IsShardOf P G (rank_of P r) k (idle_moment w.machine) y
        → IsShardOf P G (rank_of P r) k (idle_moment (after_delivery w n).machine) z
    here k y z at takes h =
        let t = subst (λ o. TakesEdge P m.edge o y z) its_tile takes in
        subst (λ R. IsShardOf P G (rank_of P r) k R z) idle_then
        (edge_here P G con (rank_of P r) k (idle_moment w.machine) sound.state m.edge may y z at t.entries t.rest h)

    pub away : (k : ℕ) (y : Content) → rank_of P r m.edge.to ≢ k
        → IsShardOf P G (rank_of P r) k (idle_moment w.machine) y
        → IsShardOf P G (rank_of P r) k (idle_moment (after_delivery w n).machine) y
    away k y other h = subst (λ R. IsShardOf P G (rank_of P r) k R y) idle_then
        (edge_away P G con (rank_of P r) k (idle_moment w.machine) sound.state m.edge may y other h)

    -- how often an item was sent then
    counted : (i : Item) → send_count (after_delivery w n).machine i ≡ send_count w.machine i + as_number
        (same_item i (item.Edge m.edge))
    counted i = ap (λ S. send_count S i) (sym sends) ∙ weigh-push (λ (x : SentItem). as_number (same_item i x.item))
        w.machine.sends (sent_with P G w.machine (item.Edge m.edge))

    delivered_now : is_delivered (after_delivery w n).machine m ≡ true
    delivered_now = lt-ltb 0 (send_count (after_delivery w n).machine (item.Edge m.edge))
        (omega (
          arith,
          counted (item.Edge m.edge),
          ap as_number
              ((same_item-decides (item.Edge m.edge) (item.Edge m.edge)).1 refl),
        ))

    as_before : (i : Item) → same_item i (item.Edge m.edge) ≡ false
        → is_sent (after_delivery w n).machine i ≡ is_sent w.machine i
    as_before i k = ap (λ c. nat_lt 0 c) (counted i ∙ omega (arith, ap as_number k))

    -- another message is delivered if and only if it was before
    others : (q : ℕ) (o : Option Message) → slice_get w.messages q ≡ o → n ≢ q
        → unless_delivered w.machine o ≡ unless_delivered (after_delivery w n).machine o
    others q None e differ = refl
    others q (Some x) e differ =
        by_test (same_item (item.Edge x.edge) (item.Edge m.edge))
        (λ k.
        let same : x.edge ≡ m.edge = one x.edge m.edge ((same_item-decides (item.Edge x.edge) (item.Edge m.edge)).0 k)
        in
        absurd (differ (one_index (map (λ (y : Message). y.edge) w.messages) (edges_once P G r con w sound) n q m.edge
        (mapped_at (λ (y : Message). y.edge) w.messages n m is)
        (mapped_at (λ (y : Message). y.edge) w.messages q x e ∙ ap (λ z. Some z) same))))
        (λ k. ap (λ b. cond b None (Some x)) (sym (as_before (item.Edge x.edge) k)))
      where
        one : (a b : Edge) → item.Edge a ≡ item.Edge b → a ≡ b
        one a b p = cc

    -- the mail without the message
    pub mail_then : (old new_table : List (ℕ × Message)) → IsUnderWay w.machine w.messages old
        → ((q : ℕ) → lookup (nat_eq q) new_table ≡ cond (nat_eq n q) None (lookup (nat_eq q) old))
        → IsUnderWay (after_delivery w n).machine (after_delivery w n).messages new_table
    mail_then old new_table under changes q =
        by_test (nat_eq n q)
        (λ k.
        let same : n ≡ q = (unsigned_Decides n q).0 k in
        changes q ∙ ap (λ b. cond b None (lookup (nat_eq q) old)) k
        ∙ sym (ap (unless_delivered (after_delivery w n).machine) (ap (slice_get w.messages) (sym same) ∙ is)
        ∙ ap (λ b. cond b None (Some m)) delivered_now))
        (λ k.
        changes q ∙ ap (λ b. cond b None (lookup (nat_eq q) old)) k ∙ under q
        ∙ others q (slice_get w.messages q) refl (λ same. false≢true (sym k ∙ (unsigned_Decides n q).1 same)))
