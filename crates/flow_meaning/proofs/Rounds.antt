-- What a round of the backward meaning takes from the round before it.
use Rattle.std.proofs.Common.{◌≡◌, ℕ, suc, ◌+◌, Bool, true, false, ◌&&◌, cond, List, [], ◌∷◌, ◌++◌, map, refl, ap, ◌∙◌}
use Rattle.std.proofs.Common.{subst, add-zero, Option, Some, None, slice_get, inl, inr, arith}
use Rattle.std.specs.Prelude.{option_map, option_to_list}
use Rattle.std.specs.List.{list_all}
use Rattle.ptg_base.specs.Lists.{IsIn}
use Rattle.ptg_base.specs.Task.{Task}
use Rattle.ptg_base.specs.declared.edge.Edge.{Edge}
use Rattle.list_lemmas.proofs.Truth.{cond-same}
use Rattle.plan_core.specs.declared.class.ClassPlan.{ClassPlan}
use Rattle.plan_core.specs.declared.flow.FlowPlan.{FlowPlan}
use Rattle.plan_core.specs.declared.plan.Plan.{Plan}
use Rattle.plan_core.specs.Kinds.{is_data}
use Rattle.coll_data.specs.Data.{Data}
use Rattle.body_eval.specs.Meaning.{body_meaning}
use Rattle.dep_iter.specs.declared.source.Source.{Source}
use Rattle.dep_iter.specs.declared.source.Source.TheVariants as source
use Rattle.dep_iter.specs.Tasks.{IsTask, flows_of, locals_of}
use Rattle.dep_iter.specs.Edges.{data_source, in_edges}
use Rattle.dep_iter.specs.Consistent.{IsConsistent}
use Rattle.flow_meaning.specs.Starting.{Delivery, delivered_from, delivered_tile, delivered_tiles, delivered_to}
use Rattle.flow_meaning.specs.Starting.{starting_tile, starting_tiles, tile_from, tiles_from}
use Rattle.flow_meaning.specs.Ending.{Ended, has_outputs, output_tile, ended_on}
use Rattle.flow_meaning.specs.Backward.{ended_after, has_all_sources, source_tile}
use Rattle.flow_meaning.proofs.SourceEdges.{source_in}

module _ (P : Plan) (G : Data) (con : IsConsistent P) (t : Task) (task : IsTask P t) where
  module _ (f g : Delivery) (same : (e : Edge) → IsIn e (in_edges P t) → f e ≡ g e) where
    tile_from-same : (flow : FlowPlan) (s : Source) → ((e : Edge) → s ≡ source.Task e → IsIn e (in_edges P t)) → tile_from P G f flow s ≡ tile_from P G g flow s
    tile_from-same flow (source.Task e) h = same e (h e refl)
    tile_from-same flow (source.Place p) h = refl
    tile_from-same flow source.New h = refl
    tile_from-same flow source.Null h = refl
    tile_from-same flow source.Nothing h = refl

    tiles_from-same : (n : ℕ) (fs : List FlowPlan) → ((i : ℕ) (flow : FlowPlan) → slice_get fs i ≡ Some flow
        → slice_get (flows_of P t) (n + i) ≡ Some flow) → tiles_from P G f t n fs ≡ tiles_from P G g t n fs
    tiles_from-same n [] at = refl
    tiles_from-same n (flow ∷ fs) at =
        let here : slice_get (flows_of P t) n ≡ Some flow = subst (λ m. slice_get (flows_of P t) m ≡ Some flow) (add-zero n) (at 0 flow refl) in
        let first : starting_tile P G f t n flow ≡ starting_tile P G g t n flow =
        cond-same (is_data (Some flow.kind)) _ _ None (λ carries. tile_from-same flow (data_source P t n)
        (source_in P t task (con.connected t task).well n flow here carries)) in
        let rest = tiles_from-same (suc n) fs (λ i other e. subst (λ m. slice_get (flows_of P t) m ≡ Some other) (omega arith) (at (suc i) other e)) in
        ap (λ x. x ∷ tiles_from P G f t (suc n) fs) first ∙ ap (λ l. starting_tile P G g t n flow ∷ l) rest

    delivered_from-same : (n : ℕ) (s : Source) → ((e : Edge) → s ≡ source.Task e → IsIn e (in_edges P t)) → delivered_from f n s ≡ delivered_from g n s
    delivered_from-same n (source.Task e) h = ap (λ o. map (λ tile. (n, tile)) (option_to_list o)) (same e (h e refl))
    delivered_from-same n (source.Place p) h = refl
    delivered_from-same n source.New h = refl
    delivered_from-same n source.Null h = refl
    delivered_from-same n source.Nothing h = refl

    delivered_to-same : (n : ℕ) (fs : List FlowPlan) → ((i : ℕ) (flow : FlowPlan) → slice_get fs i ≡ Some flow
        → slice_get (flows_of P t) (n + i) ≡ Some flow) → delivered_to P f t n fs ≡ delivered_to P g t n fs
    delivered_to-same n [] at = refl
    delivered_to-same n (flow ∷ fs) at =
        let here : slice_get (flows_of P t) n ≡ Some flow = subst (λ m. slice_get (flows_of P t) m ≡ Some flow) (add-zero n) (at 0 flow refl) in
        let first : delivered_tile P f t n flow ≡ delivered_tile P g t n flow =
        cond-same (is_data (Some flow.kind)) _ _ [] (λ carries. delivered_from-same n (data_source P t n)
        (source_in P t task (con.connected t task).well n flow here carries)) in
        let rest = delivered_to-same (suc n) fs (λ i other e. subst (λ m. slice_get (flows_of P t) m ≡ Some other) (omega arith) (at (suc i) other e)) in
        ap (λ x. x ++ delivered_to P f t (suc n) fs) first ∙ ap (λ l. delivered_tile P g t n flow ++ l) rest

    -- the same tiles come to a task if the edges into it deliver the same
    pub delivered_tiles-same : delivered_tiles P f t ≡ delivered_tiles P g t
    unfolding delivered_tiles
    delivered_tiles-same = delivered_to-same 0 (flows_of P t) (λ i flow e. subst (λ m. slice_get (flows_of P t) m ≡ Some flow) (omega arith) e)

    -- a task ends in the same way if the edges into it deliver the same
    pub ended_on-same : ended_on P G f t ≡ ended_on P G g t
    unfolding ended_on starting_tiles
    ended_on-same =
        let tiles = tiles_from-same 0 (flows_of P t) (λ i flow e. subst (λ m. slice_get (flows_of P t) m ≡ Some flow) (omega arith) e) in
        ap (λ l. option_map (λ (c : ClassPlan). body_meaning c.body (locals_of P t) l) (slice_get P.classes t.class)) tiles

  module _ (f g : Task → Option Ended) where
    -- a task ends in the same way if the sources of the edges into it end in the same way
    pub ended_after-same : ((e : Edge) → IsIn e (in_edges P t) → f e.from ≡ g e.from) → ended_after P G f t ≡ ended_after P G g t
    ended_after-same same =
        let test : has_all_sources P f t ≡ has_all_sources P g t = tests (in_edges P t) (λ e i. ap has_outputs (same e i)) in
        let ends : ended_on P G (source_tile f) t ≡ ended_on P G (source_tile g) t = ended_on-same (source_tile f)
        (source_tile g) (λ e i. ap (λ o. output_tile o e.out_flow) (same e i)) in
        ap (λ b. cond b (ended_on P G (source_tile f) t) None) test ∙ ap (λ o. cond (has_all_sources P g t) o None) ends
      where
        tests : (es : List Edge) → ((e : Edge) → IsIn e es → has_outputs (f e.from) ≡ has_outputs (g e.from))
            → list_all (λ (e : Edge). has_outputs (f e.from)) es ≡ list_all (λ (e : Edge). has_outputs (g e.from)) es
        tests [] h = refl
        tests (e ∷ es) h = ap (λ b. b && list_all (λ (e : Edge). has_outputs (f e.from)) es) (h e (inl refl))
            ∙ ap (λ b. has_outputs (g e.from) && b) (tests es (λ d i. h d (inr i)))

  -- a task that has ended had all its sources
  pub has_sources : (f : Task → Option Ended) (v : Ended) → ended_after P G f t ≡ Some v → has_all_sources P f t ≡ true
  has_sources f v e = by (has_all_sources P f t) e
    where
      by : (b : Bool) → cond b (ended_on P G (source_tile f) t) None ≡ Some v → b ≡ true
      by true e = refl
      by false e = absurd cc
