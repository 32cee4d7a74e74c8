use Rattle.std.proofs.Common.{true, false, inl, refl, ap, ◌∙◌, subst, IsTrue, ◌↔◌}
use Rattle.std.proofs.lemmas.Bool.{false≢true}
use Rattle.ptg_base.specs.declared.edge.Edge.{Edge}
use Rattle.ptg_base.specs.declared.edge.Item.TheVariants as item
use Rattle.plan_core.specs.declared.plan.Plan.{Plan}
use Rattle.ptg_base.specs.Lists.{IsIn}
use Rattle.dep_iter.specs.Items.{items, out_edges}
use Rattle.flow_core.specs.Quiet.{HasOne}
use Rattle.flow_core.specs.SentItems.{IsUnsent}
use Rattle.dep_iter.proofs.CallerLemmas.{edge_item}
use Rattle.flow_core.proofs.OneThread.{output}
use Rattle.flow_core.proofs.Quiet.{IsSearched, search_begins, search_ends, search_finds, search_goes_on}
use Rattle.flow_core.proofs.state.State.owes_edge.Goals as goal

pub loop-edge-init : goal.loop-edge-init
loop-edge-init c = record { can_next = tt; is_finite = tt; searched = search_begins _ _ }

pub loop-edge-preserved : goal.loop-edge-preserved
loop-edge-preserved c =
    let s = subst (IsSearched (λ (x : Edge). IsUnsent c.args.self.now.sends (item.Edge x))
    c.into_iter-edge-iterator.result) c.in-Some.ensures.steps c.loop-edge.invariant.searched in
    record {
      can_next = tt;
      is_finite = tt;
      searched = search_goes_on (λ (x : Edge). IsUnsent c.args.self.now.sends (item.Edge x)) c.into_iter-edge-iterator.result c.next.new.self c.in-Some.edge s
          (λ un. false≢true (c.if-is_unsent.ensures.1 un));
    }

pub is_unsent-requires : goal.is_unsent-requires
is_unsent-requires c =
    let P = c.args.m.now in
    let t = c.args.t.now in
    let s = subst (IsSearched (λ (x : Edge). IsUnsent c.args.self.now.sends (item.Edge x))
    c.into_iter-edge-iterator.result) c.in-Some.ensures.steps c.loop-edge.invariant.searched in
    let q = c.into_iter-edge-iterator.ensures.into_iter_gives ∙ c.out_edges-edge-items.ensures ∙ ap (λ (p : Plan). out_edges p t) c.plan.ensures.same in
    let mine = edge_item (items P t) c.in-Some.edge (subst (IsIn c.in-Some.edge) q (s.among c.in-Some.edge (inl refl))) in
    record { fits = c.requires.fits; output = output P t c.args.self.now c.args.self.now c.requires.outputs (item.Edge c.in-Some.edge) mine (λ u. refl) }

pub returns-then-is_unsent : goal.returns-then-is_unsent
returns-then-is_unsent c =
    let s = subst (IsSearched (λ (x : Edge). IsUnsent c.args.self.now.sends (item.Edge x))
    c.into_iter-edge-iterator.result) c.in-Some.ensures.steps c.loop-edge.invariant.searched in
    let q = c.into_iter-edge-iterator.ensures.into_iter_gives ∙ c.out_edges-edge-items.ensures
    ∙ ap (λ (p : Plan). out_edges p c.args.t.now) c.plan.ensures.same in
    subst (λ l. IsTrue true ↔ HasOne (λ (x : Edge). IsUnsent c.args.self.now.sends (item.Edge x)) l) q
    (search_finds (λ (x : Edge). IsUnsent c.args.self.now.sends (item.Edge x)) c.into_iter-edge-iterator.result
    c.next.new.self c.in-Some.edge s (c.if-is_unsent.ensures.0 (λ i. true)))

pub returns : goal.returns
returns c =
    let s = subst (IsSearched (λ (x : Edge). IsUnsent c.args.self.now.sends (item.Edge x))
    c.into_iter-edge-iterator.result) c.in-None.ensures.steps.0 c.loop-edge.invariant.searched in
    let q = c.into_iter-edge-iterator.ensures.into_iter_gives ∙ c.out_edges-edge-items.ensures
    ∙ ap (λ (p : Plan). out_edges p c.args.t.now) c.plan.ensures.same in
    subst (λ l. IsTrue false ↔ HasOne (λ (x : Edge). IsUnsent c.args.self.now.sends (item.Edge x)) l) q
    (search_ends (λ (x : Edge). IsUnsent c.args.self.now.sends (item.Edge x)) c.into_iter-edge-iterator.result s)
