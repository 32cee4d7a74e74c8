use Rattle.std.proofs.Common.{◌≤◌, length, take, sym, subst, arith}
use Rattle.std.proofs.lemmas.List.{take_all}
use Rattle.chain_cert.specs.Finding.{IsHeaviestRow}
use Rattle.chain_cert.proofs.Prefixes.{take_next}
use Rattle.chain_cert.proofs.longest.heaviest_row.Goals as goal

pub loop-row-preserved : goal.loop-row-preserved
loop-row-preserved c =
    let rows = c.args.rows.now in
    let i = c.loop-row.row-index in
    subst (λ l. IsHeaviestRow l c.heavier-best.result) (sym (take_next i rows c.row-item.result c.loop-row-test.true
    c.row-item.is)) (c.heavier-best.ensures (take i rows) c.loop-row.invariant)

pub returns : goal.returns
returns c =
    let rows = c.args.rows.now in
    let all : length rows ≤ c.loop-row.row-index = omega arith in
    subst (λ l. IsHeaviestRow l c.loop-row.best) (take_all c.loop-row.row-index rows all) c.loop-row.invariant
