-- The data that a text spells, or its first fault: its records are those that csv reads, and each adds to the data
-- before it. Source for the records: RFC 4180 and the csv crate.
-- Carried by: `read_data`; laws `data_laws::faults_are_first`, `data_laws::data_are_by_records`.
-- Tested by: `data_codes.txt`, `data_forms.txt`, `data_limits.txt`, `data_orders.txt`.
use Rattle.std.specs.Prelude.{ℕ, ◌+◌, List, [], ◌∷◌, length, Result, Ok, Err}
use Rattle.ptg_base.specs.Returns.{and_then}
use Rattle.csv.specs.Reading.{default_config, records, strip_bom}
use Rattle.coll_data.specs.Data.{Data}
use Rattle.coll_data.specs.declared.fault.DataCode.{DataCode}
use Rattle.coll_data.specs.declared.fault.DataCode.TheVariants.{NoElems}
use Rattle.coll_data.specs.declared.fault.DataFault.{DataFault}
use Rattle.data_read.specs.Draft.{Draft, begun, data_after}
use Rattle.data_read.specs.Records.{first_record, later_record}

-- the records of a text: fields with commas between them, in quotes or not; no header, and any number of fields
abbrev pub records_of : List ℕ → List (List (List ℕ))
records_of text = records default_config (strip_bom text)

-- continues after the record of this number, or returns its fault, with this row
abbrev pub then_at : {A B : Type 0} → ℕ → Result A DataCode → (A → Result B DataFault) → Result B DataFault
then_at row (Ok a) next = next a
then_at row (Err code) next = Err (record { row = row; code = code })

-- adds these records, numbered from this number on, one after another
abbrev pub later_records : ℕ → Draft → List (List (List ℕ)) → Result Draft DataFault
later_records row d [] = Ok d
later_records row d (fields ∷ more) = then_at row (later_record d fields) (λ next. later_records (row + 1) next more)

-- adds all records; there has to be at least one
abbrev pub all_records : List (List (List ℕ)) → Result Draft DataFault
all_records [] = Err (record { row = 1; code = NoElems })
all_records (fields ∷ more) = then_at 1 (first_record fields) (λ elements. later_records 2 (begun elements) more)

-- the data after this many records
abbrev pub as_data : ℕ → Result Draft DataFault → Result Data DataFault
as_data count given = and_then given (λ d. Ok (data_after count d))

-- the data that a text spells, or its first fault
abbrev pub data_of : List ℕ → Result Data DataFault
data_of text = as_data (length (records_of text)) (all_records (records_of text))
