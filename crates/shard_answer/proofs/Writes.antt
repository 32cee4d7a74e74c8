-- What was written back in the shards is what the run sent. The state with its sends in the shards' order has the same
-- answer.
use Rattle.std.proofs.Common.{◌≡◌, ℕ, zero, ◌+◌, ℤ, Bool, true, false, cond, ◌==◌, List, [], ◌∷◌, ◌++◌, map, slice_get}
use Rattle.std.proofs.Common.{refl, ap, sym, ◌∙◌, subst, arith, Option, Some, None}
use Rattle.std.specs.List.{All, cons_option, filter, filter_map}
use Rattle.ptg_base.specs.Lists.{IsIn}
use Rattle.ptg_base.specs.declared.edge.WriteBack.{WriteBack}
use Rattle.ptg_base.specs.declared.edge.Item.{Item}
use Rattle.ptg_base.specs.declared.edge.Item.TheVariants as item
use Rattle.list_lemmas.proofs.Members.{IsIn-append_left, IsIn-flat_map, IsIn-map, All-from_members}
use Rattle.list_lemmas.proofs.Truth.{by_test}
use Rattle.list_lemmas.proofs.Places.{IsIn-slice_get}
use Rattle.list_lemmas.proofs.Counts.{weigh-append, weigh-same, weigh-plus, weigh-flat_map, weigh-map, weigh-filter}
use Rattle.plan_core.specs.declared.plan.Plan.{Plan}
use Rattle.coll_data.specs.Data.{Data}
use Rattle.coll_data.specs.WellMade.{IsWellMade}
use Rattle.plan_data.specs.Fit.{DataFit}
use Rattle.dep_iter.specs.Consistent.{IsConsistent}
use Rattle.dep_shard.specs.Content.{Content}
use Rattle.list_lemmas.specs.Counting.{weigh}
use Rattle.flow_meaning.specs.Final.{replaced_data}
use Rattle.flow_meaning.specs.Machine.{MachineState, SentItem, sender}
use Rattle.flow_meaning.specs.Sound.{IsReordered, IsSoundState}
use Rattle.flow_meaning.specs.StateAnswer.{first_written, state_data}
use Rattle.flow_meaning.specs.Table.{written_by}
use Rattle.flow_meaning.proofs.CallerLemmas.{reordered_sound}
use Rattle.run_answer.specs.Written.{IsWritable, with_tiles}
use Rattle.run_answer.proofs.CallerLemmas.{write_sent}
use Rattle.shard_meaning.specs.Share.{Placement, write_weight, written_weight}
use Rattle.shard_answer.specs.Ending.{HoldAnEnd}
use Rattle.shard_answer.specs.Parts.{all_written}
use Rattle.shard_answer.proofs.Gathering.{gathered, part}

-- the weight of an item that was sent with this tile: that of the write-back and the tile, if it is one, else 0
abbrev any_weight : (WriteBack × List ℤ → ℕ) → Item → Option (List ℤ) → ℕ
any_weight f (item.Edge e) tile = 0
any_weight f (item.Write w) None = 0
any_weight f (item.Write w) (Some tile) = f (w, tile)

none_either : (b : Bool) → cond b zero zero ≡ zero
none_either true = refl
none_either false = refl

own_weight : (of : Placement) (k : ℕ) (f : WriteBack × List ℤ → ℕ) (i : Item) (o : Option (List ℤ))
    → written_weight of k f i o ≡ cond (of (sender i) == k) (any_weight f i o) 0
own_weight of k f (item.Edge e) o = sym (none_either (of e.from == k))
own_weight of k f (item.Write w) None = sym (none_either (of w.from == k))
own_weight of k f (item.Write w) (Some tile) = refl

-- a write-back and its tile, as they are sent
abbrev as_sent : WriteBack × List ℤ → SentItem
as_sent w = record { item = item.Write w.0; tile = Some w.1 }

abbrev edge_item : Item → Bool
edge_item (item.Edge e) = true
edge_item (item.Write w) = false

abbrev is_edge : SentItem → Bool
is_edge x = edge_item x.item

written_edge : (i : Item) (o : Option (List ℤ)) → edge_item i ≡ true → written_by i o ≡ None
written_edge (item.Edge e) o h = refl
written_edge (item.Write w) o h = absurd cc

abbrev write_of_sent : SentItem → Option (WriteBack × Option (List ℤ))
write_of_sent x = written_by x.item x.tile

no_writes : (xs : List SentItem) → filter_map write_of_sent (filter is_edge xs) ≡ []
no_writes [] = refl
no_writes (x ∷ xs) =
    by_test (is_edge x)
    (λ k. ap (λ b. filter_map write_of_sent (cond b (x ∷ filter is_edge xs) (filter is_edge xs))) k
    ∙ (λ i. cons_option (written_edge x.item x.tile k i) (no_writes xs i)))
    (λ k. ap (λ b. filter_map write_of_sent (cond b (x ∷ filter is_edge xs) (filter is_edge xs))) k ∙ no_writes xs)

all_writes_of : (ws : List (WriteBack × List ℤ)) (rest : List SentItem) → filter_map write_of_sent rest ≡ []
    → filter_map write_of_sent (map as_sent ws ++ rest) ≡ with_tiles ws
all_writes_of [] rest none = none
all_writes_of (w ∷ ws) rest none = ap (λ l. (w.0, Some w.1) ∷ l) (all_writes_of ws rest none)

module _ (P : Plan) (G : Data) (con : IsConsistent P) (known : DataFit P G) (well : IsWellMade G) (ys : List Content) (h : HoldAnEnd P G ys) where
  abbrev pub state : MachineState
  state = h.moment.state

  -- the same claims, and the sends with the write-backs in the shards' order before the edges
  abbrev pub in_shard_order : MachineState
  in_shard_order = record { claims = state.claims; sends = map as_sent (all_written ys) ++ filter is_edge state.sends }

  all_weights : (f : WriteBack × List ℤ → ℕ) → weigh f (all_written ys) ≡ weigh (λ (x : SentItem). any_weight f x.item x.tile) state.sends
  all_weights f =
      weigh-flat_map f (λ (y : Content). y.written) ys
      ∙ gathered (λ (x : SentItem). h.of (sender x.item)) (λ (x : SentItem). any_weight f x.item x.tile) (λ (y : Content). weigh f y.written) ys state.sends
      (λ k y at. (h.shares k y at).written f ∙ weigh-same (part (λ (x : SentItem). h.of (sender x.item))
      (λ (x : SentItem). any_weight f x.item x.tile) k) (write_weight h.of k f) state.sends
      (λ x i. own_weight h.of k f x.item x.tile))
      (λ x i. h.placed (sender x.item) (h.sound.claimed_have_all (sender x.item) (h.sound.sent_are_outputs x i).claimed).task)

  one_sent : (f : SentItem → ℕ) (x : SentItem) → IsIn x state.sends → (i : Item) → x.item ≡ i → (o : Option (List ℤ))
      → x.tile ≡ o → any_weight (λ w. f (as_sent w)) i o + cond (edge_item i) (f x) 0 ≡ f x
  one_sent f x among (item.Edge e) is o has = omega arith
  one_sent f x among (item.Write w) is None has =
      let s = write_sent P G con state h.sound known well x among w is in
      let none : None ≡ Some s.0 = sym has ∙ s.1 in
      absurd cc
  one_sent f x among (item.Write w) is (Some tile) has =
      let same : as_sent (w, tile) ≡ x = λ k. record { item = sym is k; tile = sym has k } in
      omega (arith, ap f same)

  pub is_reordered : IsReordered state in_shard_order
  is_reordered = record {
    claims = λ f. refl;
    sends = λ f.
        let g : WriteBack × List ℤ → ℕ = λ w. f (as_sent w) in
        let a : SentItem → ℕ = λ x. any_weight g x.item x.tile in
        let b : SentItem → ℕ = λ x. cond (is_edge x) (f x) 0 in
        omega (
          arith,
          weigh-append f (map as_sent (all_written ys)) (filter is_edge state.sends),
          weigh-map f as_sent (all_written ys),
          weigh-filter is_edge f state.sends,
          all_weights g,
          weigh-plus a b state.sends,
          weigh-same f (λ x. a x + b x) state.sends (λ x i. one_sent f x i x.item refl x.tile refl),
        );
  }

  pub sound_there : IsSoundState P G in_shard_order
  sound_there = reordered_sound state in_shard_order is_reordered P G h.sound

  -- what is in a shard may be written
  pub writable : (k : ℕ) (y : Content) → slice_get ys k ≡ Some y → All (IsWritable G) y.written
  writable k y at =
      All-from_members (IsWritable G) y.written
      (λ w i.
      let among : IsIn w (all_written ys) = IsIn-flat_map (λ (z : Content). z.written) ys y w (IsIn-slice_get ys k y at) i in
      let sent : IsIn (as_sent w) in_shard_order.sends = IsIn-append_left (as_sent w) (map as_sent (all_written ys))
      (filter is_edge state.sends) (IsIn-map as_sent (all_written ys) w among) in
      let s = write_sent P G con in_shard_order sound_there known well (as_sent w) sent w.0 refl in
      let both : Some w.1 ≡ Some s.0 = s.1 in
      let same : w.1 ≡ s.0 = cc in
      subst (λ (t : List ℤ). IsWritable G (w.0, t)) (sym same) s.2)

  -- the data after a run in which all tasks ran
  pub data_is : replaced_data (λ here. first_written here (with_tiles (all_written ys))) G ≡ state_data G in_shard_order
  unfolding state_data
  data_is = ap (λ ws. replaced_data (λ here. first_written here ws) G)
      (sym (all_writes_of (all_written ys) (filter is_edge state.sends) (no_writes state.sends)))
