use Rattle.std.proofs.Common.{◌≡◌, ◌∙◌, ◌<◌, subst, length}
use Rattle.plan_core.specs.declared.plan.Plan.{Plan}
use Rattle.ptg_base.specs.Task.{Task}
use Rattle.shard_meaning.specs.Placing.{shard_of}
use Rattle.dep_table.specs.Needs.{AddsTaskAt}
use Rattle.dep_table.proofs.NeedsSteps.{task_needs}
use Rattle.dep_table.proofs.preloaded.need_task.Goals as goal

pub returns : goal.returns
returns c =
    let P = c.args.m.now in
    let t = c.args.t.now in
    let old = c.args.needs.now.items in
    let new = c.need_at.new.needs.items in
    let of = shard_of P (length old) in
    let k = c.shard_at-k.result in
    let plan = c.of-at.ensures.plan ∙ c.plan.ensures.same in
    let task = c.of-at.ensures.task in
    let count : c.len.result ≡ length old = c.len.ensures ∙ c.args.needs.now.ok.0 in
    let here : k ≡ of t = c.shard_at-k.ensures.number ∙ (λ i. shard_of (plan i) (count i) (task i)) in
    let near : of t < length old =
    subst (λ i. i < length old) here (subst (λ n. k < n) count c.shard_at-k.ensures.within) in
    let same = subst (λ (p : Plan). AddsTaskAt p c.of-at.result.task.now k old new) plan c.need_at.ensures in
    let adds = subst (λ (u : Task). AddsTaskAt P u k old new) task same in
    task_needs P of t old new near (subst (λ i. AddsTaskAt P t i old new) here adds)
