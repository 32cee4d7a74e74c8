use Rattle.data_laws.proofs.AllRecords.{data_by_records, records_are_data}
use Rattle.data_laws.proofs.laws.data_are_by_records.Goals as goal

pub returns : goal.returns
returns c = λ text given. (data_by_records text given, λ all. records_are_data text given all.0 all.1 all.2 all.3)
