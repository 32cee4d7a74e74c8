use Rattle.std.proofs.Common.{◌≤◌, ◌↔◌, length, List, sym, ◌∙◌, subst, IsTrue, arith}
use Rattle.std.proofs.lemmas.Bool.{false≢true}
use Rattle.std.proofs.lemmas.List.{take_rest}
use Rattle.ptg_base.specs.Lists.{HasNoRepeats}
use Rattle.ptg_base.specs.Task.{Task}
use Rattle.cert_check.proofs.Linking.{ComesAgain, once_join, once_split}
use Rattle.cert_check.proofs.Walks.{walk_ends, walk_fails, walk_on}
use Rattle.cert_check.proofs.cycles.are_different.Goals as goal

pub loop-at-init : goal.loop-at-init
loop-at-init c = (λ h. h, λ h. h)

pub returns-then-first_comes_again : goal.returns-then-first_comes_again
returns-then-first_comes_again c =
    let ts = c.args.tasks.now in
    let at = c.loop-at.at in
    let here = subst (λ l. IsTrue c.first_comes_again.result ↔ ComesAgain l) (take_rest ts at) c.first_comes_again.ensures in
    walk_fails HasNoRepeats (λ (l : List Task). ComesAgain l → ⊥) tt once_split once_join ts at c.loop-at-test.true
    c.loop-at.invariant (λ h. h (here.0 c.if-first_comes_again.true))

pub loop-at-preserved : goal.loop-at-preserved
loop-at-preserved c =
    let ts = c.args.tasks.now in
    let at = c.loop-at.at in
    let here = subst (λ l. IsTrue c.first_comes_again.result ↔ ComesAgain l) (take_rest ts at) c.first_comes_again.ensures in
    walk_on HasNoRepeats (λ (l : List Task). ComesAgain l → ⊥) tt once_split once_join ts at c.loop-at-test.true
    c.loop-at.invariant (λ w. false≢true (sym c.if-first_comes_again.false ∙ here.1 w))

pub returns : goal.returns
returns c =
    let ts = c.args.tasks.now in
    let all : length ts ≤ c.loop-at.at = omega arith in
    walk_ends HasNoRepeats (λ (l : List Task). ComesAgain l → ⊥) tt once_split once_join ts c.loop-at.at all c.loop-at.invariant
