use Rattle.std.proofs.Common.{◌≡◌, ℕ, ◌+◌, ◌<◌, true, false, length, drop, refl, sym, ap, ◌∙◌, arith}
use Rattle.std.specs.Prelude.{nat_le, ◌&&◌}
use Rattle.std.proofs.lemmas.Bool.Decides.{nat_tests}
use Rattle.std.proofs.lemmas.List.{take_rest}
use Rattle.jdf_lex.specs.Sets.{starts}
use Rattle.jdf_tree.specs.BodyLimits.{declares}
use Rattle.body_lang.proofs.LimitSearch.{variables_begin, variables_end, variables_stop, variables_go_on}
use Rattle.body_lang.proofs.limits.variable_limit.Goals as goal
use Rattle.body_lang.proofs.limits.variable_limit.Goals.{else-declares-via-then-declares+else-declared-ge-MOST_VARIABLES, else-declares-via-else-declares}

pub loop-index-init : goal.loop-index-init
loop-index-init c = variables_begin c.args.tokens.now

pub returns-then-declared-ge-MOST_VARIABLES : goal.returns-then-declared-ge-MOST_VARIABLES
returns-then-declared-ge-MOST_VARIABLES c =
    let i = c.loop-index.index in
    let s = c.args.tokens.now in
    let here : c.is_variable_next-declares.result ≡ starts declares (drop i s) = c.is_variable_next-declares.ensures ∙ ap (starts declares) (take_rest s i) in
    let many : nat_le 256 c.loop-index.declared ≡ true = grind (arith, nat_tests) in
    variables_stop s i c.loop-index.declared c.loop-index.invariant c.is_variable_next-declares.result c.loop-index-test.true here c.if-declares.true many

pub loop-index-preserved : goal.loop-index-preserved
loop-index-preserved c =
    let i = c.loop-index.index in
    let s = c.args.tokens.now in
    let here : c.is_variable_next-declares.result ≡ starts declares (drop i s) = c.is_variable_next-declares.ensures ∙ ap (starts declares) (take_rest s i) in
    let fits : (c.is_variable_next-declares.result && nat_le 256 c.loop-index.declared) ≡ false = elim c.else-declares.branch [
      | else-declares-via-then-declares+else-declared-ge-MOST_VARIABLES w ↦
          let few : c.loop-index.declared < 256 = w.if-declared-ge-MOST_VARIABLES.false in
          let low : nat_le 256 c.loop-index.declared ≡ false = grind (arith, nat_tests) in
          rw (w.if-declares.true, low) refl
      | else-declares-via-else-declares w ↦ rw w.if-declares.false refl
    ] in
    rw c.one_if-declared.ensures (variables_go_on s i c.loop-index.declared c.loop-index.invariant
    c.is_variable_next-declares.result c.loop-index-test.true here fits)

pub returns : goal.returns
returns c =
    let all : c.loop-index.index ≡ length c.args.tokens.now = omega arith in
    ap (λ (n : ℕ). n + 1) (sym all) ∙ variables_end c.args.tokens.now c.loop-index.index c.loop-index.declared c.loop-index.invariant (omega (arith, all))
