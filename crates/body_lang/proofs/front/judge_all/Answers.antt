use Rattle.std.proofs.Common.{◌≡◌, ◌<◌, List, length, drop, Ok, ap, sym, ◌∙◌, subst, arith}
use Rattle.std.proofs.lemmas.List.{take_rest}
use Rattle.std.proofs.lemmas.Result.{err_from_is_err_and}
use Rattle.grammar_core.specs.declared.token.Token.{Token}
use Rattle.body_lang.specs.Environment.{environment_of}
use Rattle.ptg_base.specs.Returns.{ReturnsRefusal}
use Rattle.body_lang.specs.TokenScan.{judged}
use Rattle.body_lang.specs.Scanner.{scan_of}
use Rattle.body_lang.proofs.Fronts.{goes_on, fails}
use Rattle.body_lang.proofs.front.judge_all.Goals as goal

pub returns-in_err-judge : goal.returns-in_err-judge
returns-in_err-judge c =
    let more : c.loop-index.index < c.args.count = c.loop-index-test.true in
    let inside : c.loop-index.index < length c.args.tokens.now = omega (arith, more, c.requires) in
    let p = err_from_is_err_and c.from_residual.result c.from_residual.ensures.1 in
    let here : ReturnsRefusal c.in_err-judge.field-0.0
    (judged (environment_of c.args.scope.now) (scan_of c.loop-index.scanner)
    (drop c.loop-index.index c.args.tokens.now)) =
    subst (λ (s : List Token). ReturnsRefusal c.in_err-judge.field-0.0
    (judged (environment_of c.args.scope.now) (scan_of c.loop-index.scanner) s))
    (take_rest c.args.tokens.now c.loop-index.index) c.in_err-judge.ensures in
    rw (p.1, p.2) (fails (environment_of c.args.scope.now) (scan_of c.loop-index.scanner) c.args.tokens.now
    c.args.count c.loop-index.index _ _ more inside c.loop-index.invariant here)

pub loop-index-preserved : goal.loop-index-preserved
loop-index-preserved c =
    let more : c.loop-index.index < c.args.count = c.loop-index-test.true in
    let inside : c.loop-index.index < length c.args.tokens.now = omega (arith, more, c.requires) in
    let fine : judged (environment_of c.args.scope.now) (scan_of c.loop-index.scanner) (drop c.loop-index.index c.args.tokens.now) ≡ Ok tt =
    ap (judged (environment_of c.args.scope.now) (scan_of c.loop-index.scanner))
    (sym (take_rest c.args.tokens.now c.loop-index.index)) ∙ c.in_ok-judge.ensures in
    goes_on (environment_of c.args.scope.now) (scan_of c.loop-index.scanner) c.args.tokens.now c.args.count
    c.loop-index.index c.index-tokens-index.result more inside c.index-tokens-index.is _ c.loop-index.invariant
    fine (scan_of c.pass.new.scanner) c.in_ok-pass.ensures
