use Rattle.std.proofs.Common.{◌≡◌, ℕ, ◌+◌, ◌-◌, ◌<◌, ◌≤◌, true, false, length, drop, refl, sym, ap, ◌∙◌, arith}
use Rattle.std.specs.Prelude.{nat_le, ◌&&◌}
use Rattle.std.proofs.lemmas.Bool.Decides.{nat_tests}
use Rattle.std.proofs.lemmas.List.{take_rest}
use Rattle.jdf_lex.specs.declared.terminal.Terminal.TheVariants.{LeftBrace, RightBrace}
use Rattle.jdf_lex.specs.Sets.{starts}
use Rattle.jdf_lex.specs.Terminals.{is}
use Rattle.jdf_tree.specs.BodyLimits.{most_blocks}
use Rattle.body_lang.proofs.LimitSearch.{blocks_begin, blocks_end, blocks_stop, blocks_go_on}
use Rattle.body_lang.proofs.limits.block_limit.Goals as goal
use Rattle.body_lang.proofs.limits.block_limit.Goals.{else-opens-via-then-opens+else-saturating_sub-most, else-opens-via-else-opens}

pub loop-index-init : goal.loop-index-init
loop-index-init c = blocks_begin c.args.tokens.now

pub returns-then-saturating_sub-most : goal.returns-then-saturating_sub-most
returns-then-saturating_sub-most c =
    let i = c.loop-index.index in
    let s = c.args.tokens.now in
    let opens : c.is_next-opens.result ≡ starts (is LeftBrace) (drop i s) = c.is_next-opens.ensures ∙ ap (starts (is LeftBrace)) (take_rest s i) in
    let full : most_blocks s ≤ c.loop-index.opened - c.loop-index.closed =
    omega (arith, c.most_blocks-most.ensures, c.saturating_sub.ensures, c.if-saturating_sub-most.true) in
    let deep : nat_le (most_blocks s) (c.loop-index.opened - c.loop-index.closed) ≡ true = grind (arith, nat_tests) in
    blocks_stop s i c.loop-index.opened c.loop-index.closed c.loop-index.invariant c.is_next-opens.result c.loop-index-test.true opens c.if-opens.true deep

pub loop-index-preserved : goal.loop-index-preserved
loop-index-preserved c =
    let i = c.loop-index.index in
    let s = c.args.tokens.now in
    let opens : c.is_next-opens.result ≡ starts (is LeftBrace) (drop i s) = c.is_next-opens.ensures ∙ ap (starts (is LeftBrace)) (take_rest s i) in
    let closes : c.is_next.result ≡ starts (is RightBrace) (drop i s) = c.is_next.ensures ∙ ap (starts (is RightBrace)) (take_rest s i) in
    let fits : (c.is_next-opens.result && nat_le (most_blocks s) (c.loop-index.opened - c.loop-index.closed)) ≡ false = elim c.else-opens.branch [
      | else-opens-via-then-opens+else-saturating_sub-most w ↦
          let room : c.loop-index.opened - c.loop-index.closed < most_blocks s =
          omega (arith, c.most_blocks-most.ensures, w.saturating_sub.ensures, w.if-saturating_sub-most.false) in
          let low : nat_le (most_blocks s) (c.loop-index.opened - c.loop-index.closed) ≡ false = grind (arith, nat_tests) in
          rw (w.if-opens.true, low) refl
      | else-opens-via-else-opens w ↦ rw w.if-opens.false refl
    ] in
    rw (c.one_if-opened.ensures, c.one_if-closed.ensures)
    (blocks_go_on s i c.loop-index.opened c.loop-index.closed c.loop-index.invariant c.is_next-opens.result
    c.is_next.result c.loop-index-test.true opens closes fits)

pub returns : goal.returns
returns c =
    let all : c.loop-index.index ≡ length c.args.tokens.now = omega arith in
    ap (λ (n : ℕ). n + 1) (sym all) ∙ blocks_end c.args.tokens.now c.loop-index.index c.loop-index.opened
    c.loop-index.closed c.loop-index.invariant (omega (arith, all))
