use Rattle.csv.specs.Records.{fields_of}
use Rattle.std.proofs.Common.{◌≡◌, Ok, Err, sym, ◌∙◌, ap, rules}
use Rattle.coll_data.specs.Data.{Data}
use Rattle.data_read.specs.Growing.{draft_of}
use Rattle.data_read.proofs.SoFar.{at_end, first_fault, later_left, no_record, refused_later, whole_at_end}
use Rattle.data_read.proofs.read.read_records.Goals as goal

pub returns-then-not-branch : goal.returns-then-not-branch
returns-then-not-branch c = λ records has.
    let next = c.in_ok-next_record.ensures records has in
    rw c.refused.ensures (no_record records (fields_of c.next_record.new.fields) c.next_record.new.reader c.in_ok-next_record.field-0 next c.if-not-branch.true)

pub returns-in-Err : goal.returns-in-Err
returns-in-Err c = λ records has.
    let next = c.in_ok-next_record.ensures records has in
    rw c.refused-in-Err.ensures (first_fault records (fields_of c.next_record.new.fields) c.next_record.new.reader
    c.in_ok-next_record.field-0 next c.if-not-branch.false c.in-Err.code c.in-Err.ensures.start)

pub returns-in_err-count : goal.returns-in_err-count
returns-in_err-count c = λ records has.
    let next = c.in_ok-next_record.ensures records has in
    let begins = c.in-Ok.ensures.start in
    let fields = fields_of c.next_record.new.fields in
    let later = later_left records fields c.next_record.new.reader c.in_ok-next_record.field-0 next
    c.if-not-branch.false c.in-Ok.all.elems (draft_of c.in-Ok.all) begins.0 begins.1 in
    let passed : c.from_residual-in_err-count.result ≡ Err c.in_err-count.field-0.0 = search rules in
    rw passed
    (refused_later records fields c.next_record.new.reader c.in_ok-next_record.field-0 next c.if-not-branch.false
    c.in-Ok.all.elems (draft_of c.in-Ok.all) begins.0 begins.1 c.in_err-count.field-0.0
    (c.in_err-count.ensures later.0 later.2))

pub finish-requires : goal.finish-requires
finish-requires c =
    let records = c.requires.0 in
    let next = c.in_ok-next_record.ensures records c.requires.1 in
    let begins = c.in-Ok.ensures.start in
    let fields = fields_of c.next_record.new.fields in
    let later = later_left records fields c.next_record.new.reader c.in_ok-next_record.field-0 next
    c.if-not-branch.false c.in-Ok.all.elems (draft_of c.in-Ok.all) begins.0 begins.1 in
    whole_at_end records fields c.next_record.new.reader c.in_ok-next_record.field-0 next c.if-not-branch.false
    c.in-Ok.all.elems (draft_of c.in-Ok.all) begins.0 begins.1
    (draft_of c.add_later_records.new.all) c.in_ok-count.count (c.in_ok-count.ensures later.0 later.2).0

pub returns : goal.returns
returns c = λ records has.
    let next = c.in_ok-next_record.ensures records has in
    let begins = c.in-Ok.ensures.start in
    let fields = fields_of c.next_record.new.fields in
    let later = later_left records fields c.next_record.new.reader c.in_ok-next_record.field-0 next
    c.if-not-branch.false c.in-Ok.all.elems (draft_of c.in-Ok.all) begins.0 begins.1 in
    let added = c.in_ok-count.ensures later.0 later.2 in
    at_end records fields c.next_record.new.reader c.in_ok-next_record.field-0 next c.if-not-branch.false
    c.in-Ok.all.elems (draft_of c.in-Ok.all) begins.0 begins.1
    (draft_of c.add_later_records.new.all) c.in_ok-count.count added.0 added.1
    ∙ ap (λ (given : Data). Ok given) (sym c.in_ok-finish.ensures)

pub add_later_records-requires-clause-records : goal.add_later_records-requires-clause-records
add_later_records-requires-clause-records c =
    let next = c.in_ok-next_record.ensures c.requires.0 c.requires.1 in
    let begins = c.in-Ok.ensures.start in
    let fields = fields_of c.next_record.new.fields in
    let later = later_left c.requires.0 fields c.next_record.new.reader c.in_ok-next_record.field-0 next
    c.if-not-branch.false c.in-Ok.all.elems (draft_of c.in-Ok.all) begins.0 begins.1 in
    (later.0, later.2)
