-- What an event changes in the entries that a shard should hold.
use Rattle.std.proofs.Common.{◌≡◌, ◌≢◌, ℕ, suc, ◌+◌, ◌<◌, ◌≤◌, ℤ, true, false, cond, List, [], ◌∷◌, ◌++◌, sym, refl, ap}
use Rattle.std.proofs.Common.{◌∙◌, subst, inl, inr, arith, Option, Some, None, Bool}
use Rattle.std.specs.Prelude.{unwrap_or}
use Rattle.std.proofs.lemmas.Bool.{false_from_ne_true, false≢true}
use mathlib.Core.Logic.{dite}
use native.Mathlib.Decide.{ℕ_discrete}
use Rattle.ptg_base.specs.Entry.{Entry}
use Rattle.ptg_base.specs.Lists.{IsIn}
use Rattle.ptg_base.specs.Task.{Task}
use Rattle.ptg_base.specs.TaskComparing.{same_task}
use Rattle.ptg_base.specs.TaskLaws.{same_task-decides}
use Rattle.ptg_base.specs.declared.edge.Edge.{Edge}
use Rattle.ptg_base.specs.declared.edge.WriteBack.{WriteBack}
use Rattle.ptg_base.specs.declared.edge.Item.TheVariants as item
use Rattle.dep_iter.specs.declared.source.Source.{Source}
use Rattle.dep_iter.specs.declared.source.Source.TheVariants as source
use Rattle.list_lemmas.proofs.Truth.{by_test}
use Rattle.list_lemmas.proofs.Counts.{count-at_most, count-some, weigh-push}
use Rattle.plan_core.specs.declared.flow.FlowPlan.{FlowPlan}
use Rattle.plan_core.specs.declared.plan.Plan.{Plan}
use Rattle.plan_core.specs.Kinds.{is_data}
use Rattle.coll_data.specs.Data.{Data}
use Rattle.dep_iter.specs.Consistent.{IsConsistent}
use Rattle.dep_iter.specs.Edges.{data_source, goal, in_edges}
use Rattle.dep_iter.specs.Hints.{priority}
use Rattle.dep_iter.specs.Items.{items}
use Rattle.dep_iter.specs.Tasks.{IsTask, flows_of}
use Rattle.dep_iter.proofs.CallerLemmas.{Edge-injective, item_edge}
use Rattle.dep_shard.specs.Content.{Content, Updates, entry_before, entry_in, entry_of, fresh, tiles_after, with_arrival}
use Rattle.list_lemmas.specs.Counting.{as_number}
use Rattle.flow_meaning.specs.Comparing.{same_item}
use Rattle.flow_meaning.specs.Machine.{Claim, MachineState, MaySend, Send, arrived, claim_count, is_sent, sent_tile, state_after}
use Rattle.flow_meaning.specs.Sound.{IsSoundState}
use Rattle.flow_meaning.specs.Starting.{delivered_from, delivered_tiles, delivered_to}
use Rattle.flow_meaning.specs.Table.{table_entry}
use Rattle.flow_meaning.proofs.CallerLemmas.{arrives, arrives_not, claim_member, delivered_tiles-same, delivers_as_before, delivers_now, first_none}
use Rattle.flow_meaning.proofs.CallerLemmas.{in_edge_to, same_item-decides, sent_edge_in, unsent, writes_not}
use Rattle.shard_meaning.specs.Share.{Placement}
use Rattle.shard_meaning.proofs.Carrying.{Carries, edge_tile}
use Rattle.shard_meaning.proofs.Delivering.{in_order}
use Rattle.shard_meaning.proofs.TableEntries.{by_same, no_entry, none_came, some_entry}

-- the entries of the shard k in a state
pub record HoldsEntries (P : Plan) (of : Placement) (k : ℕ) (S : MachineState) (y : Content) : Type 0 where
  pub there : (t : Task) → IsTask P t → of t ≡ k → entry_of y t ≡ table_entry P S t
  pub only : (t : Task) (e : Entry) → entry_of y t ≡ Some e → IsTask P t × (of t ≡ k)

-- if nothing is delivered, there is no tile
nothing_from : (P : Plan) (t : Task) (n : ℕ) (fs : List FlowPlan) → delivered_to P (λ _. None) t n fs ≡ []
nothing_from P t n [] = refl
nothing_from P t n (f ∷ fs) = ap (λ x. x ++ delivered_to P (λ _. None) t (suc n) fs)
    (one (is_data (Some f.kind)) (data_source P t n)) ∙ nothing_from P t (suc n) fs
  where
    one : (b : Bool) (s : Source) → cond b (delivered_from (λ _. None) n s) [] ≡ []
    one true (source.Task e) = refl
    one true (source.Place p) = refl
    one true source.New = refl
    one true source.Null = refl
    one true source.Nothing = refl
    one false s = refl

pub nothing_comes : (P : Plan) (t : Task) → delivered_tiles P (λ _. None) t ≡ []
unfolding delivered_tiles
nothing_comes P t = nothing_from P t 0 (flows_of P t)

-- the entry of another task stays
pub still_there : (y y' : Content) (t u : Task) (w : Option Entry) → Updates y.entries y'.entries t w → same_task t u ≡ false → entry_of y' u ≡ entry_of y u
still_there y y' t u w updates ne = updates u ∙ ap (λ b. cond b w (entry_in y.entries u)) ne

pub now_there : (y y' : Content) (t u : Task) (w : Option Entry) → Updates y.entries y'.entries t w → same_task t u ≡ true → entry_of y' u ≡ w
now_there y y' t u w updates e = updates u ∙ ap (λ b. cond b w (entry_in y.entries u)) e

module _ (P : Plan) (G : Data) (con : IsConsistent P) (S : MachineState) (sound : IsSoundState P G S) (of : Placement) (k : ℕ) where
  -- a claim
  claimed_before : (t u : Task) → (t ≡ u → ⊥) → claim_count (state_after P G S (Claim t)) u ≡ claim_count S u
  claimed_before t u other = omega (
    arith,
    weigh-push (λ x. as_number (same_task u x)) S.claims t,
    ap as_number
        (false_from_ne_true (same_task u t) (λ e. other (sym ((same_task-decides u t).0 e)))),
  )

  claimed_now : (t : Task) → 0 < claim_count (state_after P G S (Claim t)) t
  claimed_now t = omega (arith, weigh-push (λ x. as_number (same_task t x)) S.claims t, ap as_number ((same_task-decides t t).1 refl))

  pub claim_entries : (t : Task) (y y' : Content) → Updates y.entries y'.entries t None → HoldsEntries P of k S y
      → HoldsEntries P of k (state_after P G S (Claim t)) y'
  claim_entries t y y' updates h = record {
    there = λ u task here. by_test (same_task t u)
        (λ e. now_there y y' t u None updates e ∙ sym (no_entry P u (claim_count (state_after P G S (Claim t)) u) _ _
        (subst (λ v. 0 < claim_count (state_after P G S (Claim t)) v) ((same_task-decides t u).0 e)
        (claimed_now t))))
        (λ ne. still_there y y' t u None updates ne ∙ (h.there u task here
        ∙ by_same P u _ _ _ _ _ _ (sym (claimed_before t u
        (λ e. false≢true (sym ne ∙ (same_task-decides t u).1 e)))) refl refl));
    only = λ u e is. by_test (same_task t u)
        (λ b. let gone : entry_in y'.entries u ≡ None = now_there y y' t u None updates b in absurd cc)
        (λ b. h.only u e (sym (still_there y y' t u None updates b) ∙ is));
  }

  pub claim_entries_elsewhere : (t : Task) (y : Content) → of t ≢ k → HoldsEntries P of k S y → HoldsEntries P of k (state_after P G S (Claim t)) y
  claim_entries_elsewhere t y away h = record {
    there = λ u task here. h.there u task here ∙ by_same P u _ _ _ _ _ _ (sym (claimed_before t u (λ e. away (ap of e ∙ here)))) refl refl;
    only = h.only;
  }

  -- a send of a write-back changes no entry
  pub write_entries : (w : WriteBack) → MaySend P G S (item.Write w) → (y : Content) → HoldsEntries P of k S y
      → HoldsEntries P of k (state_after P G S (Send (item.Write w))) y
  write_entries w may y h = record {
    there = λ u task here. h.there u task here ∙ by_same P u (claim_count S u) (claim_count S u) _ _ _ _ refl (sym (writes_not P G con S sound w may u))
        (sym (delivered_tiles-same P G con u task (sent_tile (state_after P G S (Send (item.Write w))).sends)
        (sent_tile S.sends) (λ d i. delivers_as_before P G S (item.Write w) d (λ q. absurd cc))));
    only = h.only;
  }

  -- a send of an edge
  module _ (e : Edge) (may : MaySend P G S (item.Edge e)) where
    job : IsTask P e.from
    job = (sound.claimed_have_all e.from may.claimed).task

    into : IsIn e (in_edges P e.to)
    into = sent_edge_in P con e job may.is_item

    pub target : IsTask P e.to
    target = (con.connected e.from job).to_tasks e (item_edge (items P e.from) e may.is_item)

    -- the edge is missing before
    pub missing : arrived P S e.to + 1 ≤ goal P e.to
    missing = omega (
      arith,
      arrives P G con S sound e may,
      count-at_most
          (λ d. is_sent (state_after P G S (Send (item.Edge e))) (item.Edge d)) (in_edges P e.to),
    )

    pub target_unclaimed : claim_count S e.to ≡ 0
    target_unclaimed = dite (ℕ_discrete (claim_count S e.to) 0) (λ z. z)
        (λ nz. absurd (omega (
          arith,
          missing,
          (sound.claimed_have_all e.to
              (claim_member S e.to (omega arith))).all_arrived,
        )))

    tiles_elsewhere : (u : Task) → IsTask P u → (u ≡ e.to → ⊥)
        → delivered_tiles P (sent_tile (state_after P G S (Send (item.Edge e))).sends) u
        ≡ delivered_tiles P (sent_tile S.sends) u
    tiles_elsewhere u task other = delivered_tiles-same P G con u task
        (sent_tile (state_after P G S (Send (item.Edge e))).sends) (sent_tile S.sends)
        (λ d i. delivers_as_before P G S (item.Edge e) d (λ q. other
        (sym (in_edge_to P u d i) ∙ sym (ap (λ (x : Edge). x.to) (Edge-injective e d q)))))

    elsewhere : (u : Task) → IsTask P u → (u ≡ e.to → ⊥) → table_entry P S u ≡ table_entry P (state_after P G S (Send (item.Edge e))) u
    elsewhere u task other = by_same P u (claim_count S u) (claim_count S u) _ _ _ _ refl
        (sym (arrives_not P G con S sound e may u other)) (sym (tiles_elsewhere u task other))

    abbrev tile : Option (List ℤ)
    tile = edge_tile P G S e

    now : sent_tile (state_after P G S (Send (item.Edge e))).sends e ≡ tile
    now = delivers_now P G S e may

    pub nothing_yet : sent_tile S.sends e ≡ None
    nothing_yet = first_none (item.Edge e) S.sends may.unsent

    others : (x : Edge) → (x ≡ e → ⊥) → sent_tile (state_after P G S (Send (item.Edge e))).sends x ≡ sent_tile S.sends x
    others x ne = delivers_as_before P G S (item.Edge e) x (λ q. ne (sym (Edge-injective e x q)))

    -- the tile of the edge is one more of the tiles of its target, if it has one
    tiles_there : Carries P G S e → delivered_tiles P (sent_tile (state_after P G S (Send (item.Edge e))).sends) e.to
        ≡ tiles_after (delivered_tiles P (sent_tile S.sends) e.to) e.in_flow tile
    tiles_there carries = elim carries [
      | inl no_tile ↦ delivered_tiles-same P G con e.to target
          (sent_tile (state_after P G S (Send (item.Edge e))).sends) (sent_tile S.sends)
          (λ d i. by_test (same_item (item.Edge d) (item.Edge e))
          (λ q. let same : d ≡ e = Edge-injective d e ((same_item-decides (item.Edge d) (item.Edge e)).0 q) in ap
          (sent_tile (state_after P G S (Send (item.Edge e))).sends) same
          ∙ (now ∙ (no_tile ∙ (sym nothing_yet ∙ sym (ap (sent_tile S.sends) same)))))
          (λ q. others d (λ same. false≢true (sym q ∙ (same_item-decides (item.Edge d) (item.Edge e)).1 (ap (λ z. item.Edge z) same)))))
          ∙ sym (ap (tiles_after (delivered_tiles P (sent_tile S.sends) e.to) e.in_flow) no_tile)
      | inr some ↦ in_order P e.to target (con.connected e.to target).well e some.0 (sent_tile S.sends)
          (sent_tile (state_after P G S (Send (item.Edge e))).sends) nothing_yet (now ∙ some.2) others some.1 into
          some.3 some.4
          ∙ sym (ap (tiles_after (delivered_tiles P (sent_tile S.sends) e.to) e.in_flow) some.2)
    ]

    -- what the edge finds in the shard of its target: as the table has it
    pub finds : (y : Content) → of e.to ≡ k → HoldsEntries P of k S y
        → entry_before y e.to (goal P e.to) (priority P e.to) ≡ record {
          goal = goal P e.to;
          arrived = arrived P S e.to;
          priority = priority P e.to;
          tiles = delivered_tiles P
              (sent_tile S.sends) e.to;
        }
    finds y here h = ap (λ o. unwrap_or o (fresh (goal P e.to) (priority P e.to))) (h.there e.to target here) ∙ dite (ℕ_discrete (arrived P S e.to) 0)
        (λ z. ap (λ (o : Option Entry). unwrap_or o (fresh (goal P e.to) (priority P e.to)))
        (by_same P e.to (claim_count S e.to) 0 (arrived P S e.to) 0 _ _ target_unclaimed z refl
        ∙ none_came P e.to (delivered_tiles P (sent_tile S.sends) e.to) (omega (arith, missing)))
        ∙ (λ i. record { goal = goal P e.to; arrived = sym z i; priority = priority P e.to; tiles = sym (none_yet z) i }))
        (λ nz. ap (λ (o : Option Entry). unwrap_or o (fresh (goal P e.to) (priority P e.to)))
        (by_same P e.to (claim_count S e.to) 0 (arrived P S e.to) (arrived P S e.to) _ _ target_unclaimed refl refl
        ∙ some_entry P e.to (arrived P S e.to) (delivered_tiles P (sent_tile S.sends) e.to) (omega arith)
        (omega (arith, missing))))
      where
        none_yet : arrived P S e.to ≡ 0 → delivered_tiles P (sent_tile S.sends) e.to ≡ []
        none_yet z = delivered_tiles-same P G con e.to target (sent_tile S.sends) (λ _. None)
            (λ d i. first_none (item.Edge d) S.sends (unsent S (item.Edge d)
            (false_from_ne_true (is_sent S (item.Edge d)) (λ q. absurd
            (omega (arith, z, count-some (λ x. is_sent S (item.Edge x)) (in_edges P e.to) d i q))))))
            ∙ nothing_comes P e.to

    pub edge_entries : (y y' : Content) → of e.to ≡ k → Carries P G S e → HoldsEntries P of k S y
        → Updates y.entries y'.entries e.to (Some (with_arrival (entry_before y e.to (goal P e.to) (priority P e.to)) e.in_flow tile))
        → HoldsEntries P of k (state_after P G S (Send (item.Edge e))) y'
    edge_entries y y' here carries h updates = record {
      there = λ u task at. by_test (same_task e.to u)
          (λ q. let same : e.to ≡ u = (same_task-decides e.to u).0 q in subst
          (λ (v : Task). entry_in y'.entries v ≡ table_entry P (state_after P G S (Send (item.Edge e))) v) same
          (now_there y y' e.to e.to _ updates ((same_task-decides e.to e.to).1 refl) ∙ entry_now))
          (λ q. still_there y y' e.to u _ updates q ∙ (h.there u task at
          ∙ elsewhere u task (λ same. false≢true (sym q ∙ (same_task-decides e.to u).1 (sym same)))));
      only = λ u f is. by_test (same_task e.to u)
          (λ q. let same : e.to ≡ u = (same_task-decides e.to u).0 q in (subst (IsTask P) same target, sym (ap of same) ∙ here))
          (λ q. h.only u f (sym (still_there y y' e.to u _ updates q) ∙ is));
    }
      where
        came : arrived P S e.to + 1 ≡ arrived P (state_after P G S (Send (item.Edge e))) e.to
        came = sym (arrives P G con S sound e may)

        entry_now : Some (with_arrival (entry_before y e.to (goal P e.to) (priority P e.to)) e.in_flow tile)
            ≡ table_entry P (state_after P G S (Send (item.Edge e))) e.to
        entry_now = ap (λ (x : Entry). Some (with_arrival x e.in_flow tile)) (finds y here h)
            ∙ ((λ i. Some (record { goal = goal P e.to; arrived = came i; priority = priority P e.to; tiles = sym (tiles_there carries) i }))
            ∙ sym (by_same P e.to (claim_count S e.to) 0 _ _ _ _ target_unclaimed refl refl
            ∙ some_entry P e.to (arrived P (state_after P G S (Send (item.Edge e))) e.to)
            (delivered_tiles P (sent_tile (state_after P G S (Send (item.Edge e))).sends) e.to)
            (omega (arith, came)) (omega (arith, came, missing))))

    pub edge_entries_elsewhere : (y : Content) → of e.to ≢ k → HoldsEntries P of k S y → HoldsEntries P of k (state_after P G S (Send (item.Edge e))) y
    edge_entries_elsewhere y away h = record {
      there = λ u task at. h.there u task at ∙ elsewhere u task (λ same. away (sym (ap of same) ∙ at));
      only = h.only;
    }
