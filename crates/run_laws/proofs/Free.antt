-- No tile has come to the flow of an edge that may be sent.
use Rattle.std.proofs.Common.{◌≡◌, ◌≢◌, ℕ, suc, ◌+◌, ℤ, cond, List, [], ◌∷◌, ◌++◌, map, refl, ap, sym, ◌∙◌, subst}
use Rattle.std.proofs.Common.{arith, Option, Some, None, slice_get, nat_eq, add-zero}
use Rattle.std.specs.Map.{lookup}
use Rattle.std.specs.Prelude.{option_to_list}
use Rattle.std.specs.Cmp.{unsigned_Decides}
use Rattle.std.proofs.lemmas.Bool.{false_from_ne_true}
use mathlib.Core.Logic.{dite}
use native.Mathlib.Decide.{ℕ_discrete}
use Rattle.ptg_base.specs.Entry.{Entry, FlowTile}
use Rattle.ptg_base.specs.Lists.{IsIn}
use Rattle.ptg_base.specs.Task.{Task}
use Rattle.ptg_base.specs.declared.edge.Edge.{Edge}
use Rattle.ptg_base.specs.declared.edge.Item.TheVariants as item
use Rattle.list_lemmas.proofs.Truth.{by_test}
use Rattle.plan_core.specs.declared.flow.FlowPlan.{FlowPlan}
use Rattle.plan_core.specs.declared.plan.Plan.{Plan}
use Rattle.plan_core.specs.Kinds.{is_data}
use Rattle.coll_data.specs.Data.{Data}
use Rattle.dep_iter.specs.declared.source.Source.{Source}
use Rattle.dep_iter.specs.declared.source.Source.TheVariants as source
use Rattle.dep_iter.specs.Consistent.{IsConsistent}
use Rattle.dep_iter.specs.Edges.{data_source, goal, in_edges}
use Rattle.dep_iter.specs.Hints.{priority}
use Rattle.dep_iter.specs.Tasks.{IsTask, flows_of}
use Rattle.dep_iter.specs.Well.{IsWellTask}
use Rattle.dep_shard.specs.Arrivals.{tile_of}
use Rattle.dep_shard.specs.Content.{Content, entry_before}
use Rattle.flow_meaning.specs.Machine.{MaySend, sent_tile}
use Rattle.flow_meaning.specs.Sound.{IsSoundState}
use Rattle.flow_meaning.specs.Starting.{Delivery, delivered_from, delivered_tile, delivered_tiles, delivered_to}
use Rattle.flow_meaning.proofs.CallerLemmas.{only_source, sent_edge_in}
use Rattle.shard_meaning.specs.Moment.{Moment}
use Rattle.shard_meaning.specs.Share.{IsShardOf, Placement}
use Rattle.shard_meaning.proofs.CallerLemmas.{entries_of, finds, nothing_yet, target_is_task}

lookup_past : (flow : ℕ) (xs ys : List FlowTile) → lookup (nat_eq flow) xs ≡ None → lookup (nat_eq flow) (xs ++ ys) ≡ lookup (nat_eq flow) ys
lookup_past flow [] ys none = refl
lookup_past flow (x ∷ xs) ys none =
    by_test (nat_eq flow x.0)
    (λ k. let some : Some x.1 ≡ None = sym (ap (λ b. cond b (Some x.1) (lookup (nat_eq flow) xs)) k) ∙ none in absurd cc)
    (λ k. ap (λ b. cond b (Some x.1) (lookup (nat_eq flow) (xs ++ ys))) k
    ∙ lookup_past flow xs ys (sym (ap (λ b. cond b (Some x.1) (lookup (nat_eq flow) xs)) k) ∙ none))

-- if an edge delivers nothing, no tile comes to its flow
module _ (P : Plan) (t : Task) (task : IsTask P t) (well : IsWellTask P t) (e : Edge) (among : IsIn e (in_edges P t)) (d : Delivery) (none : d e ≡ None) where
  elsewhere : (n : ℕ) (s : Source) → n ≢ e.in_flow → lookup (nat_eq e.in_flow) (delivered_from d n s) ≡ None
  elsewhere n (source.Task x) ne = by (d x)
    where
      by : (o : Option (List ℤ)) → lookup (nat_eq e.in_flow) (map (λ tile. (n, tile)) (option_to_list o)) ≡ None
      by None = refl
      by (Some tile) = ap (λ b. cond b (Some tile) None) (false_from_ne_true (nat_eq e.in_flow n) (λ q. ne (sym ((unsigned_Decides e.in_flow n).0 q))))
  elsewhere n (source.Place p) ne = refl
  elsewhere n source.New ne = refl
  elsewhere n source.Null ne = refl
  elsewhere n source.Nothing ne = refl

  nothing_at : (n : ℕ) (f : FlowPlan) → slice_get (flows_of P t) n ≡ Some f → lookup (nat_eq e.in_flow) (delivered_tile P d t n f) ≡ None
  nothing_at n f here =
      by_test (is_data (Some f.kind))
      (λ k. ap (λ b. lookup (nat_eq e.in_flow) (cond b (delivered_from d n (data_source P t n)) [])) k ∙ dite (ℕ_discrete n e.in_flow)
      (λ same. ap (λ s. lookup (nat_eq e.in_flow) (delivered_from d n s)) (only_source P t task well n f here k e (sym same) among)
      ∙ ap (λ o. lookup (nat_eq e.in_flow) (map (λ tile. (n, tile)) (option_to_list o))) none)
      (λ ne. elsewhere n (data_source P t n) ne))
      (λ k. ap (λ b. lookup (nat_eq e.in_flow) (cond b (delivered_from d n (data_source P t n)) [])) k)

  nothing_to : (n : ℕ) (fs : List FlowPlan) → ((i : ℕ) (f : FlowPlan) → slice_get fs i ≡ Some f
      → slice_get (flows_of P t) (n + i) ≡ Some f) → lookup (nat_eq e.in_flow) (delivered_to P d t n fs) ≡ None
  nothing_to n [] at = refl
  nothing_to n (f ∷ fs) at =
      lookup_past e.in_flow (delivered_tile P d t n f) (delivered_to P d t (suc n) fs)
      (nothing_at n f (subst (λ m. slice_get (flows_of P t) m ≡ Some f) (add-zero n) (at 0 f refl)))
      ∙ nothing_to (suc n) fs (λ i g q. subst (λ m. slice_get (flows_of P t) m ≡ Some g) (omega arith) (at (suc i) g q))

  pub no_tile_of : tile_of (delivered_tiles P d t) e.in_flow ≡ None
  unfolding delivered_tiles
  no_tile_of = nothing_to 0 (flows_of P t) (λ i g q. subst (λ m. slice_get (flows_of P t) m ≡ Some g) (omega arith) q)

module _ (P : Plan) (G : Data) (con : IsConsistent P) (of : Placement) (k : ℕ) (R : Moment)
    (sound : IsSoundState P G R.state) (e : Edge) (may : MaySend P G R.state (item.Edge e)) (y : Content)
    (at : of e.to ≡ k) (h : IsShardOf P G of k R y) where
  -- no tile has come to the flow
  pub target_free : tile_of (entry_before y e.to (goal P e.to) (priority P e.to)).tiles e.in_flow ≡ None
  target_free =
      let job = target_is_task P G con of k R sound e may in
      let into = sent_edge_in P con e (sound.claimed_have_all e.from may.claimed).task may.is_item in
      ap (λ (v : Entry). tile_of v.tiles e.in_flow) (finds P G con R.state sound of k e may y at (entries_of h))
      ∙ no_tile_of P e.to job (con.connected e.to job).well e into (sent_tile R.state.sends) (nothing_yet P G con R.state sound of k e may)
