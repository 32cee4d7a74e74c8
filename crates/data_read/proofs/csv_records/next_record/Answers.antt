use Rattle.csv.specs.Records.{fields_of}
use Rattle.data_read.proofs.RecordsLeft.{of_reading, record_read}
use Rattle.data_read.proofs.csv_records.next_record.Goals as goal

pub cause_of-requires : goal.cause_of-requires
cause_of-requires c = of_reading c.args.reader.now c.read_byte_record.new.self c.requires.0 _ c.requires.1 (c.in-Err.ensures.why c.requires.1.ready)

pub returns-in-Ok : goal.returns-in-Ok
returns-in-Ok c = λ records has.
    record_read c.args.reader.now c.read_byte_record.new.self records c.in-Ok.found
    (fields_of c.read_byte_record.new.row) has (c.in-Ok.ensures.ready has.untrimmed) c.in-Ok.ensures.flexible
    (c.in-Ok.ensures.reads has.untrimmed has.ready)
