use Rattle.std.proofs.Common.{ℕ, ◌≤◌, ◌↔◌, ◌∷◌, [], length, take, refl, sym, ◌∙◌, subst, inl, inr, IsTrue, arith}
use Rattle.std.proofs.lemmas.Bool.{false≢true}
use Rattle.ptg_base.specs.Lists.{IsIn}
use Rattle.ptg_base.specs.Task.{Task}
use Rattle.plan_core.specs.declared.plan.Plan.{Plan}
use Rattle.list_lemmas.proofs.Members.{IsIn-map, from_append}
use Rattle.std.proofs.lemmas.List.{take_all}
use Rattle.dep_iter.specs.Tasks.{IsTask}
use Rattle.cert_check.specs.Checking.{IsHighEnough}
use Rattle.cert_check.proofs.Lookups.{read_in}
use Rattle.chain_cert.proofs.CallerLemmas.{order_task, take_next}
use Rattle.cert_check.proofs.Places.{order_rising}
use Rattle.cert_check.proofs.levels.are_high_enough.Goals as goal

pub is_high_enough-requires-clause-task : goal.is_high_enough-requires-clause-task
is_high_enough-requires-clause-task c =
    let levels = c.args.levels.now in
    let row = c.row-item.result in
    let here = read_in c.loop-row.row-index levels row c.loop-row-test.true c.row-item.is in
    subst (λ (p : Plan). IsTask p row.0) (sym c.plan-plan.ensures.same)
    ((order_task c.args.m.now levels c.requires row.0).0 (IsIn-map (λ (r : Task × ℕ). r.0) levels row here))

pub is_high_enough-requires-clause-rising : goal.is_high_enough-requires-clause-rising
is_high_enough-requires-clause-rising c = order_rising c.args.m.now c.args.levels.now c.requires

pub returns-then-not-is_high_enough : goal.returns-then-not-is_high_enough
returns-then-not-is_high_enough c =
    let levels = c.args.levels.now in
    let row = c.row-item.result in
    let here = read_in c.loop-row.row-index levels row c.loop-row-test.true c.row-item.is in
    let high = subst (λ (p : Plan). IsTrue c.is_high_enough.result ↔ IsHighEnough p c.args.weights.now levels row)
    c.plan-plan.ensures.same c.is_high_enough.ensures in
    (λ e. absurd (false≢true e), λ h. sym c.if-not-is_high_enough.true ∙ high.1 (h row here))

pub loop-row-preserved : goal.loop-row-preserved
loop-row-preserved c =
    let levels = c.args.levels.now in
    let row = c.row-item.result in
    let high = subst (λ (p : Plan). IsTrue c.is_high_enough.result ↔ IsHighEnough p c.args.weights.now levels row)
    c.plan-plan.ensures.same c.is_high_enough.ensures in
    let more = take_next c.loop-row.row-index levels row c.loop-row-test.true c.row-item.is in
    λ r i. elim (from_append r (take c.loop-row.row-index levels) (row ∷ []) (subst (IsIn r) more i)) [
      | inl old ↦ c.loop-row.invariant r old
      | inr new ↦ elim new [
        | inl q ↦ subst (IsHighEnough c.args.m.now c.args.weights.now levels) (sym q) (high.0 c.if-not-is_high_enough.false)
        | inr never ↦ absurd never
      ]
    ]

pub returns : goal.returns
returns c =
    let levels = c.args.levels.now in
    let all : length levels ≤ c.loop-row.row-index = omega arith in
    (λ e r i. c.loop-row.invariant r (subst (IsIn r) (sym (take_all c.loop-row.row-index levels all)) i), λ h. refl)
