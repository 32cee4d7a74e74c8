use Rattle.std.proofs.Common.{true, false, inl, refl, ap, ◌∙◌, subst, IsTrue, ◌↔◌}
use Rattle.std.proofs.lemmas.Bool.{false≢true}
use Rattle.ptg_base.specs.declared.edge.WriteBack.{WriteBack}
use Rattle.ptg_base.specs.declared.edge.Item.TheVariants as item
use Rattle.plan_core.specs.declared.plan.Plan.{Plan}
use Rattle.ptg_base.specs.Lists.{IsIn}
use Rattle.dep_iter.specs.Items.{items, write_backs}
use Rattle.flow_core.specs.Quiet.{HasOne}
use Rattle.flow_core.specs.SentItems.{IsUnsent}
use Rattle.dep_iter.proofs.CallerLemmas.{write_item}
use Rattle.flow_core.proofs.OneThread.{output}
use Rattle.flow_core.proofs.Quiet.{IsSearched, search_begins, search_ends, search_finds, search_goes_on}
use Rattle.flow_core.proofs.state.State.owes_write.Goals as goal

pub loop-write-init : goal.loop-write-init
loop-write-init c = record { can_next = tt; is_finite = tt; searched = search_begins _ _ }

pub loop-write-preserved : goal.loop-write-preserved
loop-write-preserved c =
    let s = subst (IsSearched (λ (x : WriteBack). IsUnsent c.args.self.now.sends (item.Write x))
    c.into_iter-write-iterator.result) c.in-Some.ensures.steps c.loop-write.invariant.searched in
    record {
      can_next = tt;
      is_finite = tt;
      searched = search_goes_on (λ (x : WriteBack). IsUnsent c.args.self.now.sends (item.Write x))
          c.into_iter-write-iterator.result c.next.new.self c.in-Some.write s
          (λ un. false≢true (c.if-is_unsent.ensures.1 un));
    }

pub is_unsent-requires : goal.is_unsent-requires
is_unsent-requires c =
    let P = c.args.m.now in
    let t = c.args.t.now in
    let s = subst (IsSearched (λ (x : WriteBack). IsUnsent c.args.self.now.sends (item.Write x))
    c.into_iter-write-iterator.result) c.in-Some.ensures.steps c.loop-write.invariant.searched in
    let q = c.into_iter-write-iterator.ensures.into_iter_gives ∙ c.write_backs-write-items.ensures ∙ ap (λ (p : Plan). write_backs p t) c.plan.ensures.same in
    let mine = write_item (items P t) c.in-Some.write (subst (IsIn c.in-Some.write) q (s.among c.in-Some.write (inl refl))) in
    record { fits = c.requires.fits; output = output P t c.args.self.now c.args.self.now c.requires.outputs (item.Write c.in-Some.write) mine (λ u. refl) }

pub returns-then-is_unsent : goal.returns-then-is_unsent
returns-then-is_unsent c =
    let s = subst (IsSearched (λ (x : WriteBack). IsUnsent c.args.self.now.sends (item.Write x))
    c.into_iter-write-iterator.result) c.in-Some.ensures.steps c.loop-write.invariant.searched in
    let q = c.into_iter-write-iterator.ensures.into_iter_gives ∙ c.write_backs-write-items.ensures
    ∙ ap (λ (p : Plan). write_backs p c.args.t.now) c.plan.ensures.same in
    subst (λ l. IsTrue true ↔ HasOne (λ (x : WriteBack). IsUnsent c.args.self.now.sends (item.Write x)) l) q
    (search_finds (λ (x : WriteBack). IsUnsent c.args.self.now.sends (item.Write x)) c.into_iter-write-iterator.result
    c.next.new.self c.in-Some.write s (c.if-is_unsent.ensures.0 (λ i. true)))

pub returns : goal.returns
returns c =
    let s = subst (IsSearched (λ (x : WriteBack). IsUnsent c.args.self.now.sends (item.Write x))
    c.into_iter-write-iterator.result) c.in-None.ensures.steps.0 c.loop-write.invariant.searched in
    let q = c.into_iter-write-iterator.ensures.into_iter_gives ∙ c.write_backs-write-items.ensures
    ∙ ap (λ (p : Plan). write_backs p c.args.t.now) c.plan.ensures.same in
    subst (λ l. IsTrue false ↔ HasOne (λ (x : WriteBack). IsUnsent c.args.self.now.sends (item.Write x)) l) q
    (search_ends (λ (x : WriteBack). IsUnsent c.args.self.now.sends (item.Write x))
    c.into_iter-write-iterator.result s)
