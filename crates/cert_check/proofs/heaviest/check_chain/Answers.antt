use Rattle.std.proofs.Common.{◌≡◌, ◌↔◌, nat_eq, sym, ◌∙◌, subst, IsTrue}
use Rattle.std.proofs.lemmas.Bool.{false≢true}
use Rattle.plan_core.specs.declared.plan.Plan.{Plan}
use Rattle.chain_cert.specs.Chains.{IsChain}
use Rattle.chain_cert.specs.Checked.{greatest_level}
use Rattle.cert_check.proofs.Potentials.{by_weight, none_heavier, not_chain, not_high, not_ordered, weighs}
use Rattle.cert_check.proofs.heaviest.check_chain.Goals as goal

pub returns-then-not-has_tasks_in_order-clause-exact : goal.returns-then-not-has_tasks_in_order-clause-exact
returns-then-not-has_tasks_in_order-clause-exact c =
    not_ordered c.args.m.now c.args.weights.now c.args.chain.now c.args.levels.now
    (λ h. false≢true (sym c.if-not-has_tasks_in_order.true ∙ c.has_tasks_in_order.ensures.1 h))

pub returns-then-not-are_high_enough-clause-exact : goal.returns-then-not-are_high_enough-clause-exact
returns-then-not-are_high_enough-clause-exact c =
    not_high c.args.m.now c.args.weights.now c.args.chain.now c.args.levels.now
    (λ h. false≢true (sym c.if-not-are_high_enough.true ∙ c.are_high_enough.ensures.1 h))

pub returns-then-not-is_chain-clause-exact : goal.returns-then-not-is_chain-clause-exact
returns-then-not-is_chain-clause-exact c =
    let chain = subst (λ (p : Plan). IsTrue c.is_chain.result ↔ IsChain p c.args.chain.now) c.plan.ensures.same c.is_chain.ensures in
    not_chain c.args.m.now c.args.weights.now c.args.chain.now c.args.levels.now (λ h. false≢true (sym c.if-not-is_chain.true ∙ chain.1 h))

pub returns-clause-exact : goal.returns-clause-exact
returns-clause-exact c =
    let P = c.args.m.now in
    let ws = c.args.weights.now in
    let levels = c.args.levels.now in
    let chain = subst (λ (p : Plan). IsTrue c.is_chain.result ↔ IsChain p c.args.chain.now) c.plan.ensures.same c.is_chain.ensures in
    let same : c.from.result ≡ greatest_level levels = c.from.ensures ∙ c.greatest_level.ensures in
    by_weight P ws c.args.chain.now levels (c.has_tasks_in_order.ensures.0 c.if-not-has_tasks_in_order.false)
    (c.are_high_enough.ensures.0 c.if-not-are_high_enough.false) (chain.0 c.if-not-is_chain.false)
    (nat_eq c.chain_weight.result c.from.result) (weighs ws c.args.chain.now levels c.chain_weight.result c.from.result c.chain_weight.ensures same)

pub returns-clause-heaviest : goal.returns-clause-heaviest
returns-clause-heaviest c =
    let P = c.args.m.now in
    let ws = c.args.weights.now in
    let levels = c.args.levels.now in
    let chain = subst (λ (p : Plan). IsTrue c.is_chain.result ↔ IsChain p c.args.chain.now) c.plan.ensures.same c.is_chain.ensures in
    let same : c.from.result ≡ greatest_level levels = c.from.ensures ∙ c.greatest_level.ensures in
    λ yes ts is. none_heavier P ws c.args.chain.now levels
    ((by_weight P ws c.args.chain.now levels (c.has_tasks_in_order.ensures.0 c.if-not-has_tasks_in_order.false)
    (c.are_high_enough.ensures.0 c.if-not-are_high_enough.false) (chain.0 c.if-not-is_chain.false)
    (nat_eq c.chain_weight.result c.from.result) (weighs ws c.args.chain.now levels c.chain_weight.result c.from.result
    c.chain_weight.ensures same)).0 yes) ts is
