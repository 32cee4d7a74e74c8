use Rattle.std.proofs.Common.{◌==◌, ◌+◌, [], ◌∷◌, ◌++◌, length, ap, sym, ◌∙◌, arith}
use Rattle.std.proofs.lemmas.Bool.{false≢true}
use Rattle.trace_core.specs.Spelling.{bad_row, row_too_many}
use Rattle.trace_core.proofs.Heads.{begin_more, ended_rows}
use Rattle.trace_core.proofs.spelling.spelled_rows.Goals as goal
use Rattle.std.proofs.lemmas.List.{length_push}

pub returns-in_default-next_row-clause-err : goal.returns-in_default-next_row-clause-err
returns-in_default-next_row-clause-err c =
    let i = c.rows.invariant in
    bad_row c.in-Some.rows i.0 c.rows.left.now i.1 (omega arith) c.in_default-next_row.ensures (ap (λ l. l + 2) (sym i.2))

pub rows-preserved : goal.rows-preserved
rows-preserved c =
    let i = c.rows.invariant in
    let r = c.in-Some-next_row.ensures in (
      i.0 ++ r.entry ∷ [],
      begin_more c.args.text.now c.in-Some.rows i.0 c.rows.left.now c.in-Some-next_row.field-0-0.name.now
          c.in-Some-next_row.field-0-0.numbers.now c.in-Some-next_row.later.now i.1 r,
      length_push i.0 r.entry ∙ ap (λ l. l + 1) i.2,
    )

pub returns-then-is_empty-clause-ok : goal.returns-then-is_empty-clause-ok
returns-then-is_empty-clause-ok c =
    let i = c.rows.invariant in
    ended_rows c.args.text.now c.in-Some.rows i.0 c.in-Some.first.now c.rows.left.now c.in-Some.ensures.1 i.1
    (omega arith) (sym c.is_empty.ensures ∙ c.if-is_empty.true)

pub returns-else-is_empty-clause-err : goal.returns-else-is_empty-clause-err
returns-else-is_empty-clause-err c =
    let i = c.rows.invariant in
    row_too_many c.in-Some.rows i.0 c.rows.left.now i.1 (omega arith) (λ e. false≢true (c.if-is_empty.ensures ∙ ap (λ l. length l == 0) e)) (omega arith)
