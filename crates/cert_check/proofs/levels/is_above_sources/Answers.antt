use Rattle.std.proofs.Common.{refl, sym, ◌∙◌, subst}
use Rattle.std.proofs.lemmas.Bool.{false≢true}
use Rattle.cert_check.proofs.Lookups.{AboveSoFar, above_end, above_next, above_source}
use Rattle.cert_check.proofs.levels.is_above_sources.Goals as goal

pub returns-then-not-is_above_source : goal.returns-then-not-is_above_source
returns-then-not-is_above_source c =
    let P = c.args.plan.now in
    let levels = c.args.levels.now in
    let n = c.args.row.now.1 in
    let all = c.into_iter-edge-iterator.result in
    let is = c.into_iter-edge-iterator.ensures.into_iter_gives ∙ c.in_edges-edge-items.ensures in
    let a = subst (AboveSoFar levels c.args.w n all) c.in-Some.ensures.steps c.loop-edge.invariant.above in
    let link = above_source P c.args.row.now.0 levels c.args.w n all c.next.new.self c.in-Some.edge is a in
    (λ e. absurd (false≢true e), λ h. sym c.if-not-is_above_source.true ∙ c.is_above_source.ensures.1 (h c.in-Some.edge.from link))

pub loop-edge-preserved : goal.loop-edge-preserved
loop-edge-preserved c =
    let levels = c.args.levels.now in
    let n = c.args.row.now.1 in
    let all = c.into_iter-edge-iterator.result in
    let a = subst (AboveSoFar levels c.args.w n all) c.in-Some.ensures.steps c.loop-edge.invariant.above in
    record {
      can_next = tt;
      is_finite = tt;
      above = above_next levels c.args.w n all c.next.new.self c.in-Some.edge a
          (c.is_above_source.ensures.0 c.if-not-is_above_source.false);
    }

pub returns : goal.returns
returns c =
    let levels = c.args.levels.now in
    let n = c.args.row.now.1 in
    let all = c.into_iter-edge-iterator.result in
    let is = c.into_iter-edge-iterator.ensures.into_iter_gives ∙ c.in_edges-edge-items.ensures in
    let a = subst (AboveSoFar levels c.args.w n all) c.in-None.ensures.steps.0 c.loop-edge.invariant.above in
    (λ e s link. above_end c.args.plan.now c.args.row.now.0 levels c.args.w n all is a s link, λ h. refl)
