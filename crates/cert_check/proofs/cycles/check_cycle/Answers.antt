use Rattle.std.proofs.Common.{◌↔◌, sym, ◌∙◌, subst, IsTrue}
use Rattle.std.proofs.lemmas.Bool.{false≢true}
use Rattle.plan_core.specs.declared.plan.Plan.{Plan}
use Rattle.dep_iter.specs.Tasks.{IsTask}
use Rattle.chain_cert.specs.Chains.{IsChain, IsSourceOf}
use Rattle.cert_check.proofs.Linking.{by_once, no_chain, no_link}
use Rattle.chain_exists.proofs.CallerLemmas.{never_ends}
use Rattle.cert_check.proofs.cycles.check_cycle.Goals as goal

pub returns-then-not-is_link-clause-exact : goal.returns-then-not-is_link-clause-exact
returns-then-not-is_link-clause-exact c =
    let P = c.args.m.now in
    let link = subst (λ (p : Plan). IsTrue c.is_link.result ↔
    (IsTask p c.in-Some.first.now × IsSourceOf p c.in-Some-split_last.last.now c.in-Some.first.now))
    c.plan-plan.ensures.same c.is_link.ensures in
    no_link P c.args.cycle.now _ _ c.in-Some.first.now c.in-Some-split_last.last.now c.in-Some.ensures.cases.0
    c.in-Some-split_last.ensures.cases.0 (λ h. false≢true (sym c.if-not-is_link.true ∙ link.1 h))

pub returns-then-not-is_chain-clause-exact : goal.returns-then-not-is_chain-clause-exact
returns-then-not-is_chain-clause-exact c =
    let P = c.args.m.now in
    let chain = subst (λ (p : Plan). IsTrue c.is_chain.result ↔ IsChain p c.args.cycle.now) c.plan-plan.ensures.same c.is_chain.ensures in
    no_chain P c.args.cycle.now _ _ c.in-Some.first.now c.in-Some-split_last.last.now c.in-Some.ensures.cases.0
    c.in-Some-split_last.ensures.cases.0 (λ h. false≢true (sym c.if-not-is_chain.true ∙ chain.1 h))

pub returns-clause-exact : goal.returns-clause-exact
returns-clause-exact c =
    let P = c.args.m.now in
    let link = subst (λ (p : Plan). IsTrue c.is_link.result ↔
    (IsTask p c.in-Some.first.now × IsSourceOf p c.in-Some-split_last.last.now c.in-Some.first.now))
    c.plan-plan.ensures.same c.is_link.ensures in
    let chain = subst (λ (p : Plan). IsTrue c.is_chain.result ↔ IsChain p c.args.cycle.now) c.plan-plan.ensures.same c.is_chain.ensures in
    by_once P c.args.cycle.now _ _ c.in-Some.first.now c.in-Some-split_last.last.now c.in-Some.ensures.cases.0
    c.in-Some-split_last.ensures.cases.0 c.are_different.result
    (link.0 c.if-not-is_link.false) (chain.0 c.if-not-is_chain.false) c.are_different.ensures

pub returns-clause-dead : goal.returns-clause-dead
returns-clause-dead c =
    let P = c.args.m.now in
    let link = subst (λ (p : Plan). IsTrue c.is_link.result ↔
    (IsTask p c.in-Some.first.now × IsSourceOf p c.in-Some-split_last.last.now c.in-Some.first.now))
    c.plan-plan.ensures.same c.is_link.ensures in
    let chain = subst (λ (p : Plan). IsTrue c.is_chain.result ↔ IsChain p c.args.cycle.now) c.plan-plan.ensures.same c.is_chain.ensures in
    λ yes G t i. never_ends P G c.args.cycle.now
    ((by_once P c.args.cycle.now _ _ c.in-Some.first.now c.in-Some-split_last.last.now c.in-Some.ensures.cases.0
    c.in-Some-split_last.ensures.cases.0 c.are_different.result
    (link.0 c.if-not-is_link.false) (chain.0 c.if-not-is_chain.false) c.are_different.ensures).0 yes) t i
