use Rattle.std.proofs.Common.{ℕ, ◌<◌, length, sym, ◌∙◌, arith}
use Rattle.std.proofs.lemmas.List.Sums.{prefix_len_is}
use Rattle.jdf_lex.specs.Spelling.{continues}
use Rattle.jdf_lex.proofs.front.run_len.Goals as goal

pub returns-then-not-continues-clause-value : goal.returns-then-not-continues-clause-value
returns-then-not-continues-clause-value c =
    sym (prefix_len_is (continues c.args.unit) c.args.rest.now c.loop-i.i 0 (omega arith) c.loop-i.invariant
    (λ _. sym c.continues.ensures ∙ c.if-not-continues.true))

pub returns-clause-value : goal.returns-clause-value
returns-clause-value c =
    let all_of : (k : ℕ) → k < length c.args.rest.now → k < c.loop-i.i = λ k below. omega arith in
    sym (prefix_len_is (continues c.args.unit) c.args.rest.now (length c.args.rest.now) 0 (omega arith)
    (λ k below. c.loop-i.invariant k (all_of k below)) (λ past. absurd (omega arith)))
