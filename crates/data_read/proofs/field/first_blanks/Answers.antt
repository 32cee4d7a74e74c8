use Rattle.std.proofs.Common.{◌≡◌, ◌∙◌, length, get_or, sym, arith, rules, true, false}
use Rattle.std.proofs.lemmas.List.{drop_all}
use Rattle.data_read.specs.Fields.{is_blank, after_blanks}
use Rattle.data_read.proofs.Blanks.{first_content, first_blank}
use Rattle.data_read.proofs.field.first_blanks.Goals as goal

pub bytes-preserved : goal.bytes-preserved
bytes-preserved c =
    let w : is_blank (get_or c.args.bytes.now c.bytes.i 0) ≡ true = search rules in
    sym (first_blank c.args.bytes.now c.bytes.i c.bytes-test.true w) ∙ c.bytes.invariant

pub returns-then-not-is_blank-clause-value : goal.returns-then-not-is_blank-clause-value
returns-then-not-is_blank-clause-value c =
    let w : is_blank (get_or c.args.bytes.now c.bytes.i 0) ≡ false = search rules in
    sym (first_content c.args.bytes.now c.bytes.i c.bytes-test.true w) ∙ c.bytes.invariant

pub returns-clause-value : goal.returns-clause-value
unfolding after_blanks
returns-clause-value c =
    let all = drop_all c.bytes.i c.args.bytes.now c.bytes-test.false in
    let none = drop_all (length c.args.bytes.now) c.args.bytes.now (omega arith) in
    rw none (rw all at c.bytes.invariant)
