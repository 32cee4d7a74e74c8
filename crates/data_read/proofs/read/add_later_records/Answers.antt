use Rattle.csv.specs.Records.{fields_of}
use Rattle.data_read.specs.Growing.{draft_of}
use Rattle.data_read.proofs.SoFar.{all_added, begins, later_refusal, went_on}
use Rattle.data_read.proofs.read.add_later_records.Goals as goal

pub loop-number-init : goal.loop-number-init
loop-number-init c = record {
  far = λ records has. begins records (draft_of c.args.all.now) c.args.reader.now has;
  keyed = c.requires.keyed;
}

pub returns-then-not-branch : goal.returns-then-not-branch
returns-then-not-branch c = λ records has.
    let far = c.loop-number.invariant.far records has in
    let next = c.in_ok-next_record.ensures far.left far.has in
    all_added records (draft_of c.args.all.now) c.loop-number.number (draft_of c.loop-number.all)
    c.loop-number.reader far (fields_of c.next_record.new.fields) c.next_record.new.reader
    c.in_ok-next_record.field-0 next c.if-not-branch.true

pub returns-in-Err : goal.returns-in-Err
returns-in-Err c = λ records has.
    let far = c.loop-number.invariant.far records has in
    let next = c.in_ok-next_record.ensures far.left far.has in
    rw c.refused_at.ensures
    (later_refusal records (draft_of c.args.all.now) c.loop-number.number (draft_of c.loop-number.all)
    c.loop-number.reader far (fields_of c.next_record.new.fields) c.next_record.new.reader
    c.in_ok-next_record.field-0 next c.in-Err.refusal c.if-not-branch.false c.in-Err.ensures.step)

pub loop-number-preserved : goal.loop-number-preserved
loop-number-preserved c = record {
  far = λ records has.
      let far = c.loop-number.invariant.far records has in
      let next = c.in_ok-next_record.ensures far.left far.has in
      went_on records (draft_of c.args.all.now) c.loop-number.number (draft_of c.loop-number.all)
      c.loop-number.reader far (fields_of c.next_record.new.fields) c.next_record.new.reader
      c.in_ok-next_record.field-0 next (draft_of c.add_record.new.all) c.if-not-branch.false c.in-Ok.ensures.step;
  keyed = c.in-Ok.ensures.keyed;
}

pub next_record-requires : goal.next_record-requires
next_record-requires c =
    let far = c.loop-number.invariant.far c.requires.records.0 c.requires.records.1 in
    (far.left, far.has)
