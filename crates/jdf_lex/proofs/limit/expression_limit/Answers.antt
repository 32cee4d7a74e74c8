use Rattle.std.proofs.Common.{◌+◌, ◌-◌, arith}
use Rattle.jdf_lex.specs.Counted.{is_counted}
use Rattle.jdf_lex.specs.Terminals.{set}
use Rattle.jdf_lex.proofs.Counting.{found, all_passed, none_follows, stops_here, one_counted, one_passed}
use Rattle.jdf_lex.proofs.limit.expression_limit.Goals as goal
use Rattle.jdf_lex.proofs.limit.expression_limit.Goals.{then-is_counted+else-counted-eq-MOST_COUNTED, else-is_counted}

pub returns-then-index-eq-MOST_EXPRESSION_TOKENS : goal.returns-then-index-eq-MOST_EXPRESSION_TOKENS
returns-then-index-eq-MOST_EXPRESSION_TOKENS c =
    all_passed (set is_counted) c.args.tokens.now 512 128 c.loop-index.index (128 - c.loop-index.counted) c.loop-index.invariant.same (omega arith)

pub returns : goal.returns
returns c =
    none_follows (set is_counted) c.args.tokens.now 512 128 c.loop-index.index (128 - c.loop-index.counted) c.loop-index.invariant.same (omega arith)

pub returns-then-counted-eq-MOST_COUNTED : goal.returns-then-counted-eq-MOST_COUNTED
returns-then-counted-eq-MOST_COUNTED c =
    let i = c.loop-index.invariant in
    stops_here (set is_counted) c.args.tokens.now 512 128 c.loop-index.index (128 - c.loop-index.counted) i.same c.index-tokens-index.result
    c.loop-index-test.true (omega arith) (omega arith) (found _ _ _ _ _ c.index-tokens-index.is c.of.ensures c.is_counted.ensures c.if-is_counted.true)

pub loop-index-preserved : goal.loop-index-preserved
loop-index-preserved c =
    let i = c.loop-index.invariant in
    let d = c.index-tokens-index.result in
    elim c.if-is_counted.branch [
      | then-is_counted+else-counted-eq-MOST_COUNTED w ↦
          record {
            at_most = omega arith;
            left = omega arith;
            same =
                rw w.counted-is (one_counted (set is_counted) c.args.tokens.now 512 128 c.loop-index.index
                (128 - c.loop-index.counted) i.same d c.loop-index-test.true (128 - (c.loop-index.counted + 1))
                (omega arith)
                (found _ _ _ _ _ c.index-tokens-index.is c.of.ensures c.is_counted.ensures w.if-is_counted.true));
          }
      | else-is_counted w ↦
          record {
            at_most = omega arith;
            left = omega arith;
            same =
                rw w.counted-is (one_passed (set is_counted) c.args.tokens.now 512 128 c.loop-index.index
                (128 - c.loop-index.counted) i.same d c.loop-index-test.true
                (found _ _ _ _ _ c.index-tokens-index.is c.of.ensures c.is_counted.ensures w.if-is_counted.false));
          }
    ]
