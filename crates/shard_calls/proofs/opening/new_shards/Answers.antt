use Rattle.std.proofs.Common.{◌∙◌, ap, subst}
use Rattle.plan_core.specs.declared.plan.Plan.{Plan}
use Rattle.dep_shard.specs.Content.{IsNew}
use Rattle.shard_calls.proofs.Opened.{new_more}
use Rattle.shard_calls.proofs.opening.new_shards.Goals as goal

pub loop-preserved : goal.loop-preserved
loop-preserved c =
    let elems = c.as_slice-elems.ensures ∙ ap (λ (P : Plan). P.elems) c.plan.ensures.same in
    new_more c.loop.counter c.args.m.now.elems c.loop.shards.items c.in_ok-keyed.field-0 c.push.new.self.items
    c.loop.invariant (subst (IsNew c.in_ok-keyed.field-0) elems c.in_ok-keyed.ensures) c.in_ok-push.ensures.items
