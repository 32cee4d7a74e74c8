use Rattle.std.proofs.Common.{◌≡◌, ◌∙◌, ◌<◌, ap, sym, subst, length, rules, FitsSigned, w64}
use Rattle.std.proofs.lemmas.Int.{to_z-of_z}
use Rattle.dep_iter.specs.Edges.{goal as goal_of}
use Rattle.dep_iter.specs.Hints as hints
use Rattle.shard_calls.specs.Opened.{Enters, placement_by}
use Rattle.shard_calls.proofs.OpeningSteps.{opens_other, opens_root}
use Rattle.shard_calls.proofs.opening.open_task.Goals as goal

pub returns-then-goal_of-ne0-clause-opened : goal.returns-then-goal_of-ne0-clause-opened
returns-then-goal_of-ne0-clause-opened c =
    let plan = c.of-at.ensures.plan ∙ c.plan.ensures.same in
    let task = c.of-at.ensures.task in
    let here = c.goal_of.ensures ∙ (λ i. goal_of (plan i) (task i)) in
    opens_other c.args.m.now (placement_by c.args.to c.args.m.now (length c.args.shards.now.items)) c.args.t.now
    c.args.shards.now.items (λ z. c.if-goal_of-ne0.true (here ∙ z))

pub returns-clause-opened : goal.returns-clause-opened
returns-clause-opened c =
    let P = c.args.m.now in
    let t = c.args.t.now in
    let old = c.args.shards.now.items in
    let new = c.enter.new.shards.items in
    let of = placement_by c.args.to P (length old) in
    let plan = c.of-at.ensures.plan ∙ c.plan.ensures.same in
    let task = c.of-at.ensures.task in
    let count : c.len.result ≡ length old = c.len.ensures ∙ c.args.shards.now.ok.0 in
    let here : c.number_at-k.result ≡ of t =
    c.number_at-k.ensures.number ∙ (λ i. placement_by c.args.to (plan i) (count i) (task i)) in
    let priority : c.priority.result ≡ hints.priority P t =
    c.priority.ensures ∙ (λ i. hints.priority (plan i) (task i)) in
    let near : of t < length old =
    subst (λ k. k < length old) here (subst (λ n. c.number_at-k.result < n) count c.number_at-k.ensures.within) in
    let fits : FitsSigned w64 c.priority.result = search rules in
    let entered = simp to_z-of_z at c.in_ok-enter.ensures in
    let e = subst (λ p. Enters (of t) t p old new) priority
    (subst (λ k. Enters k t c.priority.result old new) here entered) in
    let root = c.goal_of.ensures ∙ (λ i. goal_of (plan i) (task i)) in
    opens_root P of t old new (sym root ∙ c.if-goal_of-ne0.false) near e
