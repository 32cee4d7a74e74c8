use Rattle.std.proofs.Common.{◌≤◌, ◌↔◌, length, sym, ◌∙◌, subst, IsTrue, arith}
use Rattle.std.proofs.lemmas.Bool.{false≢true}
use Rattle.std.proofs.lemmas.List.{take_rest}
use Rattle.chain_cert.specs.Chains.{IsChain}
use Rattle.cert_check.specs.Checking.{IsLinked}
use Rattle.cert_check.proofs.Linking.{linked_then, then_linked}
use Rattle.cert_check.proofs.Walks.{walk_ends, walk_fails, walk_on}
use Rattle.cert_check.proofs.chains.is_chain.Goals as goal

pub loop-at-init : goal.loop-at-init
loop-at-init c = (λ h. h, λ h. h)

pub returns-then-not-is_linked : goal.returns-then-not-is_linked
returns-then-not-is_linked c =
    let P = c.args.plan.now in
    let ts = c.args.tasks.now in
    let at = c.loop-at.at in
    let here = subst (λ l. IsTrue c.is_linked.result ↔ IsLinked P l) (take_rest ts at) c.is_linked.ensures in
    walk_fails (IsChain P) (IsLinked P) tt (then_linked P) (linked_then P) ts at c.loop-at-test.true c.loop-at.invariant
    (λ h. false≢true (sym c.if-not-is_linked.true ∙ here.1 h))

pub loop-at-preserved : goal.loop-at-preserved
loop-at-preserved c =
    let P = c.args.plan.now in
    let ts = c.args.tasks.now in
    let at = c.loop-at.at in
    let here = subst (λ l. IsTrue c.is_linked.result ↔ IsLinked P l) (take_rest ts at) c.is_linked.ensures in
    walk_on (IsChain P) (IsLinked P) tt (then_linked P) (linked_then P) ts at c.loop-at-test.true c.loop-at.invariant (here.0 c.if-not-is_linked.false)

pub returns : goal.returns
returns c =
    let P = c.args.plan.now in
    let ts = c.args.tasks.now in
    let all : length ts ≤ c.loop-at.at = omega arith in
    walk_ends (IsChain P) (IsLinked P) tt (then_linked P) (linked_then P) ts c.loop-at.at all c.loop-at.invariant
