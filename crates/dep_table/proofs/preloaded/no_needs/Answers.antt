use Rattle.std.proofs.Common.{length, ap, ◌∙◌, subst}
use Rattle.plan_core.specs.declared.plan.Plan.{Plan}
use Rattle.dep_table.specs.Needs.{IsNoNeed}
use Rattle.dep_table.proofs.NeedsSteps.{none_more}
use Rattle.dep_table.proofs.preloaded.no_needs.Goals as goal

pub loop-preserved : goal.loop-preserved
loop-preserved c =
    let types = c.len-types.ensures ∙ ap (λ (P : Plan). length P.elems) c.plan.ensures.same in
    none_more c.loop.counter (length c.args.m.now.elems) c.loop.needs.items c.in_ok-new.field-0 c.push.new.self.items
    c.loop.invariant (subst (λ n. IsNoNeed n c.in_ok-new.field-0) types c.in_ok-new.ensures)
    c.in_ok-push.ensures.items
